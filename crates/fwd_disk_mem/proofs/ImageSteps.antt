-- Post-crash states, call by call.
use Rattle.std.proofs.Common.{◌≡◌, ℕ, suc, ◌+◌, ◌<◌, ◌%◌, ◌==◌, leb, Bool, true, false, not, ◌&&◌, if◌then◌else◌, Option, Some, None, List, [], ◌∷◌, ◌++◌, length, get_or, take, refl, sym, ◌∙◌, ap, subst, arith}
use Rattle.std.proofs.lemmas.Grind.{take_at_read}
use Rattle.std.proofs.lemmas.List.{length-take-le}
use Rattle.fwd_outside.specs.File.{FileState, whole, absent, whole_or_absent, or_absent, overwritten, after_write}
use Rattle.fwd_disk_mem.specs.declared.image.ImageFile.{ImageFile}
use Rattle.fwd_disk_mem.specs.declared.entry.MemEntry.{MemEntry}
use Rattle.fwd_disk_mem.specs.declared.entry.MemEntry.TheVariants.{Place, WriteAt, Sync, Remove, Read, List as Listed, Preset, FailAt}
use Rattle.fwd_disk_mem.specs.Entry.{can_write, file_after, is_on, step, run, written_over}
use Rattle.fwd_disk_mem.specs.Images.{CrashFile, mixed, variant, crash_file_after, crash_file_step, make, no_call_file, FileRepresents, fits_in, acted_file}
use Rattle.fwd_disk_mem.proofs.PlayedCalls.{nothing_written}

mixed-push : (base : List ℕ) (at : ℕ) (bytes : List ℕ) (byte : ℕ) → mixed base at (bytes ++ byte ∷ []) ≡ mixed base at bytes ++ (if (at + length bytes) % 2 == 0 then get_or base (at + length bytes) 0 else byte) ∷ []
mixed-push base at [] byte = let e : at ≡ at + 0 = omega arith in ap (λ (n : ℕ). (if n % 2 == 0 then get_or base n 0 else byte) ∷ []) e
mixed-push base at (x ∷ xs) byte =
    let first = if at % 2 == 0 then get_or base at 0 else x in
    let e : at + 1 + length xs ≡ at + suc (length xs) = omega arith in
    ap (λ (l : List ℕ). first ∷ l) (mixed-push base (at + 1) xs byte ∙ ap (λ (n : ℕ). mixed base (at + 1) xs ++ (if n % 2 == 0 then get_or base n 0 else byte) ∷ []) e)

pub mixed_next : (base bytes old new : List ℕ) (at i byte : ℕ) → i < length bytes → old ≡ mixed base at (take i bytes) → byte ≡ (if (at + i) % 2 == 0 then get_or base (at + i) 0 else get_or bytes i 0) → new ≡ old ++ byte ∷ []
    → new ≡ mixed base at (take (i + 1) bytes)
mixed_next base bytes old new at i byte lt is byte_is grown =
    let long : length (take i bytes) ≡ i = length-take-le i bytes (omega (arith, lt)) in
    let more = (take_at_read bytes i 0 lt).1 in
    grown ∙ ap (λ (l : List ℕ). l ++ byte ∷ []) is ∙ ap (λ (b : ℕ). mixed base at (take i bytes) ++ b ∷ []) byte_is
    ∙ sym (ap (mixed base at) more ∙ mixed-push base at (take i bytes) (get_or bytes i 0)
    ∙ ap (λ (n : ℕ). mixed base at (take i bytes) ++ (if (at + n) % 2 == 0 then get_or base (at + n) 0 else get_or bytes i 0) ∷ []) long)

-- the code represents a file after each call
shown_there : (s : FileState) (m : CrashFile) (file : ImageFile) → FileRepresents s m file → s.there ≡ file.there
shown_there s m file shows = by s.there refl file.there refl shows.read
  where
    by : (a : Bool) → s.there ≡ a → (b : Bool) → file.there ≡ b → (if a then Some s.bytes else None) ≡ (if b then Some file.bytes else None) → a ≡ b
    by true is true is2 e = refl
    by false is false is2 e = refl
    by true is false is2 e = absurd (cc e)
    by false is true is2 e = absurd (cc e)

shown_bytes : (s : FileState) (m : CrashFile) (file : ImageFile) → FileRepresents s m file → file.there ≡ true → s.bytes ≡ file.bytes
shown_bytes s m file shows there =
    let e : Some s.bytes ≡ Some file.bytes =
    sym (ap (λ (b : Bool). if b then Some s.bytes else None) (shown_there s m file shows ∙ there)) ∙ shows.read ∙ ap (λ (b : Bool). if b then Some file.bytes else None) there in
    cc

-- the same file, with its presence and its bytes known
record Same (s : FileState) (m : CrashFile) (file : ImageFile) : Type 0 where
  there : s.there ≡ file.there
  bytes : file.there ≡ true → s.bytes ≡ file.bytes
  base : m.base ≡ file.base
  image : m.image ≡ file.image

same : (s : FileState) (m : CrashFile) (file : ImageFile) → FileRepresents s m file → Same s m file
same s m file shows = record { there = shown_there s m file shows; bytes = shown_bytes s m file shows; base = shows.base; image = shows.image }

shown : (s : FileState) (m : CrashFile) (file : ImageFile) → Same s m file → FileRepresents s m file
shown s m file is = record { read = by file.there refl; base = is.base; image = is.image }
  where
    by : (b : Bool) → file.there ≡ b → (if s.there then Some s.bytes else None) ≡ (if b then Some file.bytes else None)
    by true there = ap (λ (b : Bool). if b then Some s.bytes else None) (is.there ∙ there) ∙ ap (λ (l : List ℕ). Some l) (is.bytes there)
    by false there = ap (λ (b : Bool). if b then Some s.bytes else None) (is.there ∙ there)

durable_file : (bytes : List ℕ) → Same (whole bytes) (record { base = bytes; image = Some bytes }) (record { there = true; bytes = bytes; base = bytes; image = Some bytes })
durable_file bytes = record { there = refl; bytes = λ _. refl; base = refl; image = refl }

after_failed_place : (pick : ℕ) (s : FileState) (m : CrashFile) (file : ImageFile) (bytes : List ℕ) → Same s m file
    → Same (if s.there then s else whole_or_absent bytes false) (if s.there then m else record { base = bytes; image = if pick == 0 then None else Some bytes })
    (if file.there then file else record file { base = bytes; image = if pick == 0 then None else Some bytes })
after_failed_place pick s m file bytes is = by s.there refl file.there refl is.there
  where
    by : (a : Bool) → s.there ≡ a → (b : Bool) → file.there ≡ b → a ≡ b
        → Same (if a then s else whole_or_absent bytes false) (if a then m else record { base = bytes; image = if pick == 0 then None else Some bytes })
        (if b then file else record file { base = bytes; image = if pick == 0 then None else Some bytes })
    by true there true there2 e = is
    by false there false there2 e = record { there = sym there2; bytes = λ t. let no : false ≡ true = sym there2 ∙ t in absurd (cc no); base = refl; image = refl }
    by true there false there2 e = absurd (cc e)
    by false there true there2 e = absurd (cc e)

same_fits : (s : FileState) (m : CrashFile) (file : ImageFile) (at : ℕ) → Same s m file → can_write s at ≡ fits_in file at
same_fits s m file at is = by file.there refl
  where
    by : (b : Bool) → file.there ≡ b → (s.there && leb at (length s.bytes)) ≡ (b && leb at (length file.bytes))
    by true there = ap (λ (b : Bool). b && leb at (length s.bytes)) (is.there ∙ there) ∙ ap (λ (l : List ℕ). leb at (length l)) (is.bytes there)
    by false there = ap (λ (b : Bool). b && leb at (length s.bytes)) (is.there ∙ there)

left_bytes : (ok : Bool) (old : List ℕ) (at : ℕ) (bytes : List ℕ) → overwritten old at (if ok then bytes else []) ≡ (if ok then overwritten old at bytes else old)
left_bytes true old at bytes = refl
left_bytes false old at bytes = nothing_written old at

image_of : (zero_pick : Bool) (m : CrashFile) (new : Option (List ℕ)) → (if zero_pick then m else record m { image = new }).image ≡ (if zero_pick then m.image else new)
image_of true m new = refl
image_of false m new = refl

base_of : (zero_pick : Bool) (m : CrashFile) (new : Option (List ℕ)) → (if zero_pick then m else record m { image = new }).base ≡ m.base
base_of true m new = refl
base_of false m new = refl

has_written : (pick : ℕ) (s : FileState) (m : CrashFile) (file : ImageFile) (at : ℕ) (bytes : List ℕ) (ok : Bool) → Same s m file
    → Same (if can_write s at then after_write s at (length bytes) (if ok then bytes else []) else s) (if can_write s at then (if pick == 0 then m else record m { image = written_over at (variant pick m.base at bytes) m.image }) else m)
    (if fits_in file at then record file { bytes = if ok then overwritten file.bytes at bytes else file.bytes; image = if pick == 0 then file.image else written_over at (variant pick file.base at bytes) file.image } else file)
has_written pick s m file at bytes ok is = by (can_write s at) (fits_in file at) (same_fits s m file at is)
  where
    new : Option (List ℕ)
    new = written_over at (variant pick m.base at bytes) m.image

    by : (a b : Bool) → a ≡ b
        → Same (if a then after_write s at (length bytes) (if ok then bytes else []) else s) (if a then (if pick == 0 then m else record m { image = written_over at (variant pick m.base at bytes) m.image }) else m)
        (if b then record file { bytes = if ok then overwritten file.bytes at bytes else file.bytes; image = if pick == 0 then file.image else written_over at (variant pick file.base at bytes) file.image } else file)
    by true true e = record {
      there = is.there;
      bytes = λ t. left_bytes ok s.bytes at bytes ∙ ap (λ (l : List ℕ). if ok then overwritten l at bytes else l) (is.bytes t);
      base = base_of (pick == 0) m new ∙ is.base;
      image = image_of (pick == 0) m new ∙ (λ i. if pick == 0 then is.image i else written_over at (variant pick (is.base i) at bytes) (is.image i));
    }
    by false false e = is
    by true false e = absurd (cc e)
    by false true e = absurd (cc e)

has_synced : (s : FileState) (m : CrashFile) (file : ImageFile) (ok : Bool) → Same s m file
    → Same (if ok && s.there then whole s.bytes else s) (if ok && s.there then record { base = s.bytes; image = Some s.bytes } else m) (if ok && file.there then record file { base = file.bytes; image = Some file.bytes } else file)
has_synced s m file ok is = by ok s.there refl file.there refl is.there
  where
    by : (ok a : Bool) → s.there ≡ a → (b : Bool) → file.there ≡ b → a ≡ b
        → Same (if ok && a then whole s.bytes else s) (if ok && a then record { base = s.bytes; image = Some s.bytes } else m) (if ok && b then record file { base = file.bytes; image = Some file.bytes } else file)
    by true true there true there2 e = record { there = sym there2; bytes = λ t. is.bytes there2; base = is.bytes there2; image = ap (λ (l : List ℕ). Some l) (is.bytes there2) }
    by true false there false there2 e = is
    by false a there b there2 e = is
    by true true there false there2 e = absurd (cc e)
    by true false there true there2 e = absurd (cc e)

has_removed : (pick : ℕ) (s : FileState) (m : CrashFile) (file : ImageFile) (ok : Bool) → Same s m file
    → Same (if s.there then (if ok then absent else or_absent s true) else s) (if s.there then record m { image = if ok then None else if pick == 0 then m.image else None } else m)
    (if file.there then record file { there = not ok; image = if ok then None else if pick == 0 then file.image else None } else file)
has_removed pick s m file ok is = by s.there file.there refl is.there ok
  where
    by : (a b : Bool) → file.there ≡ b → a ≡ b → (ok : Bool)
        → Same (if a then (if ok then absent else or_absent s true) else s) (if a then record m { image = if ok then None else if pick == 0 then m.image else None } else m)
        (if b then record file { there = not ok; image = if ok then None else if pick == 0 then file.image else None } else file)
    by true true there e true = record { there = refl; bytes = λ t. absurd (cc t); base = is.base; image = refl }
    by true true there e false = record { there = refl; bytes = λ t. is.bytes there; base = is.base; image = ap (λ (i : Option (List ℕ)). if pick == 0 then i else None) is.image }
    by false false there e ok = is
    by true false there e ok = absurd (cc e)
    by false true there e ok = absurd (cc e)

same-file_after : (pick : ℕ) (s : FileState) (m : CrashFile) (file : ImageFile) (call : MemEntry) → Same s m file → Same (file_after s call) (crash_file_after pick s m call) (acted_file pick file call)
same-file_after pick s m file (Place _ bytes true) is = durable_file bytes
same-file_after pick s m file (Place _ bytes false) is = after_failed_place pick s m file bytes is
same-file_after pick s m file (WriteAt _ at bytes ok) is = has_written pick s m file at bytes ok is
same-file_after pick s m file (Sync _ ok) is = has_synced s m file ok is
same-file_after pick s m file (Remove _ ok) is = has_removed pick s m file ok is
same-file_after pick s m file (Read _ _ _ _) is = is
same-file_after pick s m file (Listed _ _) is = is
same-file_after pick s m file (Preset _ bytes) is = durable_file bytes
same-file_after pick s m file (FailAt _) is = is

pub shows-file_after : (pick : ℕ) (s : FileState) (m : CrashFile) (file : ImageFile) (call : MemEntry) → FileRepresents s m file → FileRepresents (file_after s call) (crash_file_after pick s m call) (acted_file pick file call)
shows-file_after pick s m file call shows = shown (file_after s call) (crash_file_after pick s m call) (acted_file pick file call) (same-file_after pick s m file call (same s m file shows))

pub run-push : (name : List ℕ) (s : FileState) (calls : List MemEntry) (call : MemEntry) → run name s (calls ++ call ∷ []) ≡ step name (run name s calls) call
run-push name s [] call = refl
run-push name s (first ∷ calls) call = run-push name (step name s first) calls call

pub make-push : (pick : ℕ) (name : List ℕ) (s : FileState) (m : CrashFile) (calls : List MemEntry) (call : MemEntry) → make pick name s m (calls ++ call ∷ []) ≡ crash_file_step pick name (run name s calls) (make pick name s m calls) call
make-push pick name s m [] call = refl
make-push pick name s m (first ∷ calls) call = make-push pick name (step name s first) (crash_file_step pick name s m first) calls call

shows_next : (pick : ℕ) (name : List ℕ) (calls : List MemEntry) (call : MemEntry) (file : ImageFile) (b : Bool) → is_on call name ≡ b → FileRepresents (run name absent calls) (make pick name absent no_call_file calls) file
    → FileRepresents (run name absent (calls ++ call ∷ [])) (make pick name absent no_call_file (calls ++ call ∷ [])) (if b then acted_file pick file call else file)
shows_next pick name calls call file b is shows =
    subst (λ (s : FileState). FileRepresents s (make pick name absent no_call_file (calls ++ call ∷ [])) (if b then acted_file pick file call else file)) (sym (run-push name absent calls call))
    (subst (λ (m : CrashFile). FileRepresents (step name (run name absent calls) call) m (if b then acted_file pick file call else file)) (sym (make-push pick name absent no_call_file calls call)) (by (is_on call name) b is))
  where
    s : FileState
    s = run name absent calls

    m : CrashFile
    m = make pick name absent no_call_file calls

    by : (a b : Bool) → a ≡ b → FileRepresents (if a then file_after s call else s) (if a then crash_file_after pick s m call else m) (if b then acted_file pick file call else file)
    by true true e = shows-file_after pick s m file call shows
    by false false e = shows
    by true false e = absurd (cc e)
    by false true e = absurd (cc e)

pub shows_more : (pick : ℕ) (name : List ℕ) (calls : List MemEntry) (i : ℕ) (call : MemEntry) (file new : ImageFile) (b : Bool) → i < length calls → call ≡ get_or calls i call → is_on call name ≡ b → new ≡ (if b then acted_file pick file call else file)
    → FileRepresents (run name absent (take i calls)) (make pick name absent no_call_file (take i calls)) file → FileRepresents (run name absent (take (i + 1) calls)) (make pick name absent no_call_file (take (i + 1) calls)) new
shows_more pick name calls i call file new b lt is on new_is shows =
    let more = (take_at_read calls i call lt).1 ∙ ap (λ (c : MemEntry). take i calls ++ c ∷ []) (sym is) in
    subst (λ (l : List MemEntry). FileRepresents (run name absent l) (make pick name absent no_call_file l) new) (sym more)
    (subst (FileRepresents (run name absent (take i calls ++ call ∷ [])) (make pick name absent no_call_file (take i calls ++ call ∷ []))) (sym new_is) (shows_next pick name (take i calls) call file b on shows))
