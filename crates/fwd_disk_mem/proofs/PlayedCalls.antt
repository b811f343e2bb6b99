-- Lists of calls: what each new call adds.
use Rattle.std.proofs.Common.{◌≡◌, ℕ, ◌+◌, ◌≤◌, leb, Bool, true, false, ◌&&◌, if◌then◌else◌, Some, None, List, [], ◌∷◌, ◌++◌, length, refl, sym, ◌∙◌, ap, subst, arith, append_assoc}
use Rattle.std.proofs.lemmas.Slice.Eq.{bytes_eq-Decides}
use Rattle.std.proofs.lemmas.List.{append-nil}
use Rattle.std.proofs.lemmas.Grind.{common_steps}
use Rattle.fwd_outside.specs.File.{FileState, content, whole, absent, whole_or_absent, or_absent, overwritten, after_write}
use Rattle.fwd_disk_mem.specs.FileTable.{MemFile, found}
use Rattle.fwd_disk_mem.specs.declared.entry.MemEntry.{MemEntry}
use Rattle.fwd_disk_mem.specs.declared.entry.MemEntry.TheVariants.{Place, WriteAt, Sync, Remove, Read, List as Listed, Preset, FailAt}
use Rattle.fwd_disk_mem.specs.Entry.{named_by, is_call, made_of, fails_of, next_succeeds, can_write, file_after, is_on, step, run, files_of, AnswerIs, IsPlayed, written_over, seen_after, Changes, IsNoNumber}
use Rattle.fwd_disk_mem.specs.Fields.{IsKept}

run-push : (name : List ℕ) (s : FileState) (calls : List MemEntry) (call : MemEntry) → run name s (calls ++ call ∷ []) ≡ step name (run name s calls) call
run-push name s [] call = refl
run-push name s (first ∷ calls) call = run-push name (step name s first) calls call

pub files-push : (calls : List MemEntry) (call : MemEntry) (name : List ℕ) → files_of (calls ++ call ∷ []) name ≡ step name (files_of calls name) call
files-push calls call name = run-push name absent calls call

pub made-push : (calls : List MemEntry) (call : MemEntry) → made_of (calls ++ call ∷ []) ≡ made_of calls + (if is_call call then 1 else 0)
made-push [] call = omega arith
made-push (first ∷ calls) call = ap (λ (n : ℕ). (if is_call first then 1 else 0) + n) (made-push calls call) ∙ omega arith

one : (b : Bool) → (let n : ℕ = if b then 1 else 0 in n ≤ 1)
one true = omega arith
one false = omega arith

pub made-le : (calls : List MemEntry) → made_of calls ≤ length calls
made-le [] = omega arith
made-le (call ∷ calls) = omega (arith, one (is_call call), made-le calls)

pub fails-push_number : (calls : List MemEntry) (number : ℕ) → fails_of (calls ++ FailAt number ∷ []) ≡ fails_of calls ++ number ∷ []
fails-push_number [] number = refl
fails-push_number (FailAt n ∷ calls) number = ap (λ (l : List ℕ). n ∷ l) (fails-push_number calls number)
fails-push_number (Place _ _ _ ∷ calls) number = fails-push_number calls number
fails-push_number (WriteAt _ _ _ _ ∷ calls) number = fails-push_number calls number
fails-push_number (Sync _ _ ∷ calls) number = fails-push_number calls number
fails-push_number (Remove _ _ ∷ calls) number = fails-push_number calls number
fails-push_number (Read _ _ _ _ ∷ calls) number = fails-push_number calls number
fails-push_number (Listed _ _ ∷ calls) number = fails-push_number calls number
fails-push_number (Preset _ _ ∷ calls) number = fails-push_number calls number

fails-one : (call : MemEntry) → IsNoNumber call → fails_of (call ∷ []) ≡ []
fails-one (FailAt number) plain = absurd plain
fails-one (Place _ _ _) plain = refl
fails-one (WriteAt _ _ _ _) plain = refl
fails-one (Sync _ _) plain = refl
fails-one (Remove _ _) plain = refl
fails-one (Read _ _ _ _) plain = refl
fails-one (Listed _ _) plain = refl
fails-one (Preset _ _) plain = refl

pub fails-push : (calls : List MemEntry) (call : MemEntry) → IsNoNumber call → fails_of (calls ++ call ∷ []) ≡ fails_of calls
fails-push [] call plain = fails-one call plain
fails-push (FailAt n ∷ calls) call plain = ap (λ (l : List ℕ). n ∷ l) (fails-push calls call plain)
fails-push (Place _ _ _ ∷ calls) call plain = fails-push calls call plain
fails-push (WriteAt _ _ _ _ ∷ calls) call plain = fails-push calls call plain
fails-push (Sync _ _ ∷ calls) call plain = fails-push calls call plain
fails-push (Remove _ _ ∷ calls) call plain = fails-push calls call plain
fails-push (Read _ _ _ _ ∷ calls) call plain = fails-push calls call plain
fails-push (Listed _ _ ∷ calls) call plain = fails-push calls call plain
fails-push (Preset _ _ ∷ calls) call plain = fails-push calls call plain

pub played-push : (before calls : List MemEntry) (call : MemEntry) → IsPlayed before calls → AnswerIs (before ++ calls) call → IsPlayed before (calls ++ call ∷ [])
played-push before [] call played gives = (subst (λ (l : List MemEntry). AnswerIs l call) (append-nil before) gives, tt)
played-push before (first ∷ calls) call played gives =
    (played.0, played-push (before ++ first ∷ []) calls call played.1 (subst (λ (l : List MemEntry). AnswerIs l call) (sym (append_assoc before (first ∷ []) calls)) gives))

pub both_true : (a b : Bool) → (a && b) ≡ true → (a ≡ true) × (b ≡ true)
both_true true b is = (refl, is)
both_true false b is = absurd (cc is)

-- what a read returns after a call on the file
after_failed_place : (s : FileState) (bytes : List ℕ) → content (if s.there then s else whole_or_absent bytes false) ≡ content s
after_failed_place s bytes = by s.there refl
  where
    by : (b : Bool) → s.there ≡ b → content (if b then s else whole_or_absent bytes false) ≡ content s
    by true is = refl
    by false is = sym (ap (λ (b : Bool). if b then Some s.bytes else None) is)

has_written : (s : FileState) (at : ℕ) (bytes : List ℕ) → can_write s at ≡ true → content (if can_write s at then after_write s at (length bytes) bytes else s) ≡ written_over at bytes (content s)
has_written s at bytes can =
    let there = (both_true s.there (leb at (length s.bytes)) can).0 in
    ap (λ (b : Bool). content (if b then after_write s at (length bytes) bytes else s)) can
    ∙ ap (λ (b : Bool). if b then Some (overwritten s.bytes at bytes) else None) there
    ∙ sym (ap (λ (b : Bool). written_over at bytes (if b then Some s.bytes else None)) there)

pub nothing_written : (old : List ℕ) (at : ℕ) → overwritten old at [] ≡ old
nothing_written old at = grind (arith, common_steps)

not_written : (s : FileState) (at count : ℕ) → content (if can_write s at then after_write s at count [] else s) ≡ content s
not_written s at count = by (can_write s at)
  where
    by : (b : Bool) → content (if b then after_write s at count [] else s) ≡ content s
    by true = ap (λ (l : List ℕ). if s.there then Some l else None) (nothing_written s.bytes at)
    by false = refl

has_synced : (s : FileState) (ok : Bool) → content (if ok && s.there then whole s.bytes else s) ≡ content s
has_synced s ok = by ok s.there refl
  where
    by : (ok b : Bool) → s.there ≡ b → content (if ok && b then whole s.bytes else s) ≡ content s
    by true true is = sym (ap (λ (b : Bool). if b then Some s.bytes else None) is)
    by true false is = refl
    by false b is = refl

has_removed : (s : FileState) → s.there ≡ true → content (if s.there then absent else s) ≡ None
has_removed s is = ap (λ (b : Bool). content (if b then absent else s)) is

not_removed : (s : FileState) → content (if s.there then or_absent s true else s) ≡ content s
not_removed s = by s.there refl
  where
    by : (b : Bool) → s.there ≡ b → content (if b then or_absent s true else s) ≡ content s
    by true is = sym (ap (λ (b : Bool). if b then Some s.bytes else None) is)
    by false is = refl

pub seen : (calls : List MemEntry) (call : MemEntry) → AnswerIs calls call → (let s = files_of calls (named_by call) in content (file_after s call) ≡ seen_after call (content s))
seen calls (Place name bytes true) gives = refl
seen calls (Place name bytes false) gives = after_failed_place (files_of calls name) bytes
seen calls (WriteAt name at bytes true) gives = has_written (files_of calls name) at bytes (both_true (next_succeeds calls) (can_write (files_of calls name) at) (sym gives)).1
seen calls (WriteAt name at bytes false) gives = not_written (files_of calls name) at (length bytes)
seen calls (Sync name ok) gives = has_synced (files_of calls name) ok
seen calls (Remove name true) gives = has_removed (files_of calls name) (both_true (next_succeeds calls) (files_of calls name).there (sym gives)).1
seen calls (Remove name false) gives = not_removed (files_of calls name)
seen calls (Read name at len answer) gives = refl
seen calls (Listed folder answer) gives = refl
seen calls (Preset name bytes) gives = refl
seen calls (FailAt number) gives = refl

pub on_its_name : (call : MemEntry) (n : List ℕ) → is_on call n ≡ true → named_by call ≡ n
on_its_name (Place name _ _) n is = (bytes_eq-Decides name n).0 is
on_its_name (WriteAt name _ _ _) n is = (bytes_eq-Decides name n).0 is
on_its_name (Sync name _) n is = (bytes_eq-Decides name n).0 is
on_its_name (Remove name _) n is = (bytes_eq-Decides name n).0 is
on_its_name (Read name _ _ _) n is = (bytes_eq-Decides name n).0 is
on_its_name (Listed name _) n is = (bytes_eq-Decides name n).0 is
on_its_name (Preset name _) n is = (bytes_eq-Decides name n).0 is
on_its_name (FailAt _) n is = absurd (cc is)

-- files after a call read as the record with the call says
pub reads-push : (calls : List MemEntry) (call : MemEntry) (old new : List MemFile) → AnswerIs calls call → ((name : List ℕ) → found old name ≡ content (files_of calls name)) → Changes old new call
    → (name : List ℕ) → found new name ≡ content (files_of (calls ++ call ∷ []) name)
reads-push calls call old new gives reads changes name = by (is_on call name) refl (changes name) ∙ sym (ap content (files-push calls call name))
  where
    by : (b : Bool) → is_on call name ≡ b → found new name ≡ (if b then seen_after call (found old name) else found old name) → found new name ≡ content (if b then file_after (files_of calls name) call else files_of calls name)
    by true is change =
        change ∙ ap (seen_after call) (reads name)
        ∙ sym (subst (λ (n : List ℕ). content (file_after (files_of calls n) call) ≡ seen_after call (content (files_of calls n))) (on_its_name call name is) (seen calls call gives))
    by false is change = change ∙ reads name

pub kept-push : (calls : List MemEntry) (call : MemEntry) (old new : List MemFile) (fails : List ℕ) (made : ℕ) → AnswerIs calls call → IsNoNumber call → IsKept calls old fails made → Changes old new call
    → IsKept (calls ++ call ∷ []) new fails (made + (if is_call call then 1 else 0))
kept-push calls call old new fails made gives plain kept changes = record {
  played = played-push [] calls call kept.played gives;
  reads = reads-push calls call old new gives kept.reads changes;
  fails_are = kept.fails_are ∙ sym (fails-push calls call plain);
  made_is = ap (λ (n : ℕ). n + (if is_call call then 1 else 0)) kept.made_is ∙ sym (made-push calls call);
}

pub kept-push_number : (calls : List MemEntry) (number : ℕ) (files : List MemFile) (fails : List ℕ) (made : ℕ) → IsKept calls files fails made → IsKept (calls ++ FailAt number ∷ []) files (fails ++ number ∷ []) made
kept-push_number calls number files fails made kept = record {
  played = played-push [] calls (FailAt number) kept.played tt;
  reads = reads-push calls (FailAt number) files files tt kept.reads (λ n. refl);
  fails_are = ap (λ (l : List ℕ). l ++ number ∷ []) kept.fails_are ∙ sym (fails-push_number calls number);
  made_is = kept.made_is ∙ sym (made-push calls (FailAt number) ∙ omega arith);
}
