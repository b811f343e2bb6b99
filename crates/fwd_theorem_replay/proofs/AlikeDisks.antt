-- Disks with equivalent call logs answer the same, and have the same post-crash states.
use Rattle.std.proofs.Common.{◌≡◌, ℕ, ◌+◌, ◌==◌, Bool, true, false, not, ◌&&◌, if◌then◌else◌, Option, Some, None, List, [], ◌∷◌, ◌++◌, take, drop, refl, sym, ◌∙◌, ap, subst, append_assoc, arith}
use Rattle.std.specs.Prelude.{MatchBool}
use Rattle.std.specs.List.{list_any}
use Rattle.std.specs.Str.{bytes_eq}
use Rattle.std.proofs.lemmas.List.{append-nil}
use Rattle.fwd_outside.specs.File.{FileState, content, whole, absent}
use Rattle.fwd_outside.specs.DiskStates.{AreNamesIn}
use Rattle.fwd_outside.specs.Disk.{DiskCall, DiskAnswer, IsListing}
use Rattle.fwd_outside.specs.Disk as outside
use Rattle.fwd_disk_mem.specs.FileTable.{MemFile}
use Rattle.fwd_disk_mem.specs.declared.entry.MemEntry.{MemEntry}
use Rattle.fwd_disk_mem.specs.declared.entry.MemEntry.TheVariants.{Place, WriteAt, Sync, Remove, Read, List as Listed, Preset, FailAt}
use Rattle.fwd_disk_mem.specs.Entry.{took, entry_of, entries_of, is_call, made_of, fails_of, next_succeeds, can_write, step, run, files_of, AnswerIs}
use Rattle.fwd_disk_mem.specs.Images.{CrashFile, crash_file_step, make, no_call_file, file_settings}
use Rattle.fwd_disk_mem.proofs.PlayedCalls.{files-push, made-push}
use Rattle.fwd_disk_mem.proofs.CallTrace.{same_entry}
use Rattle.fwd_theorem_replay.proofs.FolderListing.{one_listing}

pub record Alike (call_log told2 : List MemEntry) : Type 0 where
  pub made : made_of told2 ≡ made_of call_log
  pub fails : fails_of told2 ≡ fails_of call_log
  pub files : (name : List ℕ) → files_of told2 name ≡ files_of call_log name
  pub images : (pick : ℕ) (name : List ℕ) → make pick name absent no_call_file told2 ≡ make pick name absent no_call_file call_log

pub alike_itself : (call_log : List MemEntry) → Alike call_log call_log
alike_itself call_log = record { made = refl; fails = refl; files = λ name. refl; images = λ pick name. refl }

pub alike_back : (call_log told2 : List MemEntry) → Alike call_log told2 → Alike told2 call_log
alike_back call_log told2 alike = record { made = sym alike.made; fails = sym alike.fails; files = λ name. sym (alike.files name); images = λ pick name. sym (alike.images pick name) }

-- ---- one more call

fails-push : (calls : List MemEntry) (call : MemEntry) → fails_of (calls ++ call ∷ []) ≡ fails_of calls ++ fails_of (call ∷ [])
fails-push [] call = refl
fails-push (FailAt n ∷ calls) call = ap (λ (l : List ℕ). n ∷ l) (fails-push calls call)
fails-push (Place _ _ _ ∷ calls) call = fails-push calls call
fails-push (WriteAt _ _ _ _ ∷ calls) call = fails-push calls call
fails-push (Sync _ _ ∷ calls) call = fails-push calls call
fails-push (Remove _ _ ∷ calls) call = fails-push calls call
fails-push (Read _ _ _ _ ∷ calls) call = fails-push calls call
fails-push (Listed _ _ ∷ calls) call = fails-push calls call
fails-push (Preset _ _ ∷ calls) call = fails-push calls call

make-push : (pick : ℕ) (name : List ℕ) (s : FileState) (m : CrashFile) (calls : List MemEntry) (call : MemEntry) → make pick name s m (calls ++ call ∷ []) ≡ crash_file_step pick name (run name s calls) (make pick name s m calls) call
make-push pick name s m [] call = refl
make-push pick name s m (first ∷ calls) call = make-push pick name (step name s first) (crash_file_step pick name s m first) calls call

pub alike_push : (call_log told2 : List MemEntry) (call : MemEntry) → Alike call_log told2 → Alike (call_log ++ call ∷ []) (told2 ++ call ∷ [])
alike_push call_log told2 call alike = record {
  made = made-push told2 call ∙ ap (λ (n : ℕ). n + (if is_call call then 1 else 0)) alike.made ∙ sym (made-push call_log call);
  fails = fails-push told2 call ∙ ap (λ (l : List ℕ). l ++ fails_of (call ∷ [])) alike.fails ∙ sym (fails-push call_log call);
  files = λ name. files-push told2 call name ∙ ap (λ (s : FileState). step name s call) (alike.files name) ∙ sym (files-push call_log call name);
  images = λ pick name.
      make-push pick name absent no_call_file told2 call
      ∙ ap (λ (s : FileState). crash_file_step pick name s (make pick name absent no_call_file told2) call) (alike.files name)
      ∙ ap (λ (m : CrashFile). crash_file_step pick name (files_of call_log name) m call) (alike.images pick name)
      ∙ sym (make-push pick name absent no_call_file call_log call);
}

pub alike_append : (call_log told2 more : List MemEntry) → Alike call_log told2 → Alike (call_log ++ more) (told2 ++ more)
alike_append call_log told2 [] alike = subst (λ (l : List MemEntry). Alike l (told2 ++ [])) (sym (append-nil call_log)) (subst (λ (l : List MemEntry). Alike call_log l) (sym (append-nil told2)) alike)
alike_append call_log told2 (call ∷ more) alike =
    subst (λ (l : List MemEntry). Alike l (told2 ++ call ∷ more)) (append_assoc call_log (call ∷ []) more)
    (subst (λ (l : List MemEntry). Alike ((call_log ++ call ∷ []) ++ more) l) (append_assoc told2 (call ∷ []) more) (alike_append (call_log ++ call ∷ []) (told2 ++ call ∷ []) more (alike_push call_log told2 call alike)))

-- ---- the answers

pub same_works : (call_log told2 : List MemEntry) → Alike call_log told2 → next_succeeds told2 ≡ next_succeeds call_log
same_works call_log told2 alike =
    ap (λ (n : ℕ). not (list_any (λ number. number == n + 1) (fails_of told2))) alike.made
    ∙ ap (λ (l : List ℕ). not (list_any (λ number. number == made_of call_log + 1) l)) alike.fails

abbrev read_of : Bool → FileState → ℕ → ℕ → Option (List ℕ)
read_of ok file at len = if ok && file.there then Some (take len (drop at file.bytes)) else None

-- the condition for a disk's answer
abbrev pub IsGiven : List MemEntry → (call : DiskCall) → DiskAnswer call → Type 0
IsGiven call_log (outside.Place name bytes) answer = answer ≡ took (next_succeeds call_log)
IsGiven call_log (outside.WriteAt name at bytes) answer = answer ≡ took (next_succeeds call_log && can_write (files_of call_log name) at)
IsGiven call_log (outside.Sync name) answer = answer ≡ took (next_succeeds call_log && (files_of call_log name).there)
IsGiven call_log (outside.Remove name) answer = answer ≡ took (next_succeeds call_log && (files_of call_log name).there)
IsGiven call_log (outside.Read name at len) answer = answer ≡ read_of (next_succeeds call_log) (files_of call_log name) at len
IsGiven call_log (outside.ListNames folder) answer = MatchBool (next_succeeds call_log) ((names : List (List ℕ)) × (answer ≡ Some names) × IsListing names × AreNamesIn folder names (files_of call_log)) (answer ≡ None)
IsGiven call_log (outside.Preset name bytes) answer = Unit {0}
IsGiven call_log (outside.FailAt number) answer = Unit {0}

pub given_is : (call_log : List MemEntry) (call : MemEntry) → AnswerIs call_log call → IsGiven call_log (entry_of call).call (entry_of call).answer
given_is call_log (Place name bytes ok) gives = ap took gives
given_is call_log (WriteAt name at bytes ok) gives = ap took gives
given_is call_log (Sync name ok) gives = ap took gives
given_is call_log (Remove name ok) gives = ap took gives
given_is call_log (Read name at len answer) gives = gives
given_is call_log (Listed folder answer) gives = gives
given_is call_log (Preset name bytes) gives = tt
given_is call_log (FailAt number) gives = tt

module _ (call_log told2 : List MemEntry) (alike : Alike call_log told2) where
  same_ok : (name : List ℕ) (can : FileState → Bool) → took (next_succeeds told2 && can (files_of told2 name)) ≡ took (next_succeeds call_log && can (files_of call_log name))
  same_ok name can =
      ap (λ (ok : Bool). took (ok && can (files_of told2 name))) (same_works call_log told2 alike) ∙ ap (λ (file : FileState). took (next_succeeds call_log && can file)) (alike.files name)

  same_list : (folder : List ℕ) (ok ok2 : Bool) (a b : Option (List (List ℕ))) → ok2 ≡ ok
      → MatchBool ok ((names : List (List ℕ)) × (a ≡ Some names) × IsListing names × AreNamesIn folder names (files_of call_log)) (a ≡ None)
      → MatchBool ok2 ((names : List (List ℕ)) × (b ≡ Some names) × IsListing names × AreNamesIn folder names (files_of told2)) (b ≡ None) → b ≡ a
  same_list folder true true a b same one other =
      other.1 ∙ ap (λ (names : List (List ℕ)). Some names) (one_listing folder (files_of call_log) (files_of told2) alike.files one.0 other.0 one.2 other.2 one.3 other.3) ∙ sym one.1
  same_list folder false false a b same one other = other ∙ sym one
  same_list folder true false a b same one other = absurd (cc same)
  same_list folder false true a b same one other = absurd (cc same)

  pub same_answer : (call : DiskCall) (a b : DiskAnswer call) → IsGiven call_log call a → IsGiven told2 call b → b ≡ a
  same_answer (outside.Place name bytes) a b one other = other ∙ ap took (same_works call_log told2 alike) ∙ sym one
  same_answer (outside.WriteAt name at bytes) a b one other = other ∙ same_ok name (λ file. can_write file at) ∙ sym one
  same_answer (outside.Sync name) a b one other = other ∙ same_ok name (λ file. file.there) ∙ sym one
  same_answer (outside.Remove name) a b one other = other ∙ same_ok name (λ file. file.there) ∙ sym one
  same_answer (outside.Read name at len) a b one other =
      other
      ∙ ap (λ (ok : Bool). read_of ok (files_of told2 name) at len) (same_works call_log told2 alike)
      ∙ ap (λ (file : FileState). read_of (next_succeeds call_log) file at len) (alike.files name)
      ∙ sym one
  same_answer (outside.ListNames folder) a b one other = same_list folder (next_succeeds call_log) (next_succeeds told2) a b (same_works call_log told2 alike) one other
  same_answer (outside.Preset name bytes) a b one other = refl
  same_answer (outside.FailAt number) a b one other = refl

-- logs with equal entries are equal
pub same_calls : (a b : List MemEntry) → entries_of a ≡ entries_of b → a ≡ b
same_calls [] [] same = refl
same_calls [] (d ∷ b) same = absurd (cc same)
same_calls (c ∷ a) [] same = absurd (cc same)
same_calls (c ∷ a) (d ∷ b) same =
    let head : entry_of c ≡ entry_of d = cc same in
    let tail : entries_of a ≡ entries_of b = cc same in
    ap (λ (t : MemEntry). t ∷ a) (same_entry c d head) ∙ ap (λ (l : List MemEntry). d ∷ l) (same_calls a b tail)

-- ---- files that were put on the disk, and nothing else

-- the state of a file with these bytes, and its post-crash state
abbrev stands : Option (List ℕ) → FileState
stands None = absent
stands (Some bytes) = whole bytes

abbrev imaged : Option (List ℕ) → CrashFile
imaged None = no_call_file
imaged (Some bytes) = record { base = bytes; image = Some bytes }

abbrev preset_in : List ℕ → Option (List ℕ) → List MemFile → Option (List ℕ)
preset_in name was [] = was
preset_in name was (file ∷ files) = preset_in name (if bytes_eq file.name name then Some file.bytes else was) files

preset_stands : (name : List ℕ) (was : Option (List ℕ)) (files : List MemFile) → run name (stands was) (file_settings files) ≡ stands (preset_in name was files)
preset_stands name was [] = refl
preset_stands name was (file ∷ files) =
    ap (λ (s : FileState). run name s (file_settings files)) (by (bytes_eq file.name name)) ∙ preset_stands name (if bytes_eq file.name name then Some file.bytes else was) files
  where
    by : (b : Bool) → (if b then whole file.bytes else stands was) ≡ stands (if b then Some file.bytes else was)
    by true = refl
    by false = refl

preset_imaged : (pick : ℕ) (name : List ℕ) (was : Option (List ℕ)) (files : List MemFile) → make pick name (stands was) (imaged was) (file_settings files) ≡ imaged (preset_in name was files)
preset_imaged pick name was [] = refl
preset_imaged pick name was (file ∷ files) = by (bytes_eq file.name name) (preset_imaged pick name was files) (preset_imaged pick name (Some file.bytes) files)
  where
    by : (b : Bool) → make pick name (stands was) (imaged was) (file_settings files) ≡ imaged (preset_in name was files)
        → make pick name (whole file.bytes) (imaged (Some file.bytes)) (file_settings files) ≡ imaged (preset_in name (Some file.bytes) files)
        → make pick name (if b then whole file.bytes else stands was) (if b then imaged (Some file.bytes) else imaged was) (file_settings files) ≡ imaged (preset_in name (if b then Some file.bytes else was) files)
    by true old new = new
    by false old new = old

preset_content : (was : Option (List ℕ)) → content (stands was) ≡ was
preset_content None = refl
preset_content (Some bytes) = refl

preset_made : (files : List MemFile) → made_of (file_settings files) ≡ 0
preset_made [] = refl
preset_made (file ∷ files) = let rest = preset_made files in omega (arith, rest)

preset_fails : (files : List MemFile) → fails_of (file_settings files) ≡ []
preset_fails [] = refl
preset_fails (file ∷ files) = preset_fails files

-- if a read returns the same
pub alike_presets : (files files2 : List MemFile) → ((name : List ℕ) → content (files_of (file_settings files2) name) ≡ content (files_of (file_settings files) name)) → Alike (file_settings files) (file_settings files2)
alike_presets files files2 reads = record {
  made = preset_made files2 ∙ sym (preset_made files);
  fails = preset_fails files2 ∙ sym (preset_fails files);
  files = λ name. preset_stands name None files2 ∙ ap stands (same name) ∙ sym (preset_stands name None files);
  images = λ pick name. preset_imaged pick name None files2 ∙ ap imaged (same name) ∙ sym (preset_imaged pick name None files);
}
  where
    its : (files : List MemFile) (name : List ℕ) → content (files_of (file_settings files) name) ≡ preset_in name None files
    its files name = ap content (preset_stands name None files) ∙ preset_content (preset_in name None files)

    same : (name : List ℕ) → preset_in name None files2 ≡ preset_in name None files
    same name = sym (its files2 name) ∙ reads name ∙ its files name
