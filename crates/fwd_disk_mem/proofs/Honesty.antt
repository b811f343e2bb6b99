-- The disk's answers are among those that the model of disks allows.
use Rattle.std.proofs.Common.{◌≡◌, inl, inr, ℕ, leb, Bool, true, false, ◌&&◌, if◌then◌else◌, MatchBool, Option, Some, None, List, [], ◌∷◌, ◌++◌, length, take, drop, refl, sym, ◌∙◌, ap, subst, arith, append_assoc}
use Rattle.std.specs.Str.{bytes_eq}
use Rattle.std.proofs.lemmas.Bool.{leb-true}
use Rattle.std.proofs.lemmas.List.{append-nil}
use Rattle.fwd_outside.specs.AtCrashPoints.{Ends}
use Rattle.fwd_outside.specs.Disk.{IsListing}
use Rattle.fwd_outside.specs.File.{FileState, FileInvariant, whole, absent, whole_or_absent, or_absent, after_write}
use Rattle.fwd_outside.specs.DiskStates.{Files, AreNamesIn, PlaceTransition, WriteTransition, SyncTransition, RemoveTransition, ReadAnswer, ListAnswer, OnFile, DiskTransition, IsReachable}
use Rattle.fwd_outside.proofs.Invariant.{AllInvariant, sound_gone, sound_whole, sound_maybe, invariant_step}
use Rattle.fwd_disk_mem.specs.declared.entry.MemEntry.{MemEntry}
use Rattle.fwd_disk_mem.specs.declared.entry.MemEntry.TheVariants.{Place, WriteAt, Sync, Remove, Read, List as Listed, Preset, FailAt}
use Rattle.fwd_disk_mem.specs.Entry.{given, took, entry_of, entries_of, next_succeeds, can_write, file_after, is_on, files_of, AnswerIs, IsPlayed}
use Rattle.fwd_disk_mem.proofs.Lookup.{on_name, off_name}
use Rattle.fwd_disk_mem.proofs.PlayedCalls.{files-push, both_true}

sound_not_placed : (s : FileState) (bytes : List ℕ) → FileInvariant s → FileInvariant (if s.there then s else whole_or_absent bytes false)
sound_not_placed s bytes sound = by s.there
  where
    by : (b : Bool) → FileInvariant (if b then s else whole_or_absent bytes false)
    by true = sound
    by false = sound_maybe bytes false

placed_acts : (s : FileState) (name bytes : List ℕ) (ok : Bool) → FileInvariant s → PlaceTransition bytes (took ok) s (whole_or_absent bytes false) (file_after s (Place name bytes ok))
placed_acts s name bytes true sound = (sound_maybe bytes false, sound_whole bytes, λ new. (refl, refl))
placed_acts s name bytes false sound =
    (sound_maybe bytes false, sound_not_placed s bytes sound, λ new. (refl, false, ap (λ (t : FileState). if t.there then t else whole_or_absent bytes false) new))

wrote_acts : (s : FileState) (name : List ℕ) (at : ℕ) (bytes : List ℕ) (ok : Bool) → (ok ≡ true → can_write s at ≡ true) → WriteTransition at bytes (took ok) s (file_after s (WriteAt name at bytes ok)) (file_after s (WriteAt name at bytes ok))
wrote_acts s name at bytes true can =
    let is = ap (λ (b : Bool). if b then after_write s at (length bytes) bytes else s) (can refl) in
    let parts = both_true s.there (leb at (length s.bytes)) (can refl) in
    (record { there = parts.0; within = leb-true at (length s.bytes) parts.1 }, is, is)
wrote_acts s name at bytes false can = by (can_write s at) refl
  where
    by : (b : Bool) → can_write s at ≡ b → WriteTransition at bytes None s (if b then after_write s at (length bytes) [] else s) (if b then after_write s at (length bytes) [] else s)
    by true is = let parts = both_true s.there (leb at (length s.bytes)) is in inl (record { there = parts.0; within = leb-true at (length s.bytes) parts.1 }, [], omega arith, refl, refl)
    by false is = inr (refl, refl)

synced_acts : (s : FileState) (name : List ℕ) (ok : Bool) → (ok ≡ true → s.there ≡ true) → SyncTransition (took ok) s s (file_after s (Sync name ok))
synced_acts s name true there = (there refl, refl, ap (λ (b : Bool). if b then whole s.bytes else s) (there refl))
synced_acts s name false there = (refl, refl)

removed_acts : (s : FileState) (name : List ℕ) (ok : Bool) → (ok ≡ true → s.there ≡ true) → RemoveTransition (took ok) s (if s.there then or_absent s true else s) (file_after s (Remove name ok))
removed_acts s name true there = (there refl, ap (λ (b : Bool). if b then or_absent s true else s) (there refl), ap (λ (b : Bool). if b then absent else s) (there refl))
removed_acts s name false there = by s.there refl
  where
    by : (b : Bool) → s.there ≡ b → RemoveTransition None s (if b then or_absent s true else s) (if b then or_absent s true else s)
    by true is = inl (is, true, refl, refl)
    by false is = inr (refl, refl)

read_acts : (s : FileState) (at len : ℕ) (answer : Option (List ℕ)) (ok : Bool) → (ok ≡ true → s.there ≡ true) → answer ≡ (if ok then Some (take len (drop at s.bytes)) else None) → ReadAnswer at len answer s
read_acts s at len answer true there is = subst (λ (a : Option (List ℕ)). ReadAnswer at len a s) (sym is) (there refl, refl)
read_acts s at len answer false there is = subst (λ (a : Option (List ℕ)). ReadAnswer at len a s) (sym is) tt

list_acts : (folder : List ℕ) (answer : Option (List (List ℕ))) (files : Files) (works_now : Bool)
    → MatchBool works_now ((names : List (List ℕ)) × (answer ≡ Some names) × IsListing names × AreNamesIn folder names files) (answer ≡ None) → ListAnswer folder answer files
list_acts folder answer files true gives = subst (λ (a : Option (List (List ℕ))). ListAnswer folder a files) (sym gives.1) gives.3
list_acts folder answer files false gives = subst (λ (a : Option (List (List ℕ))). ListAnswer folder a files) (sym gives) tt

-- the file of one name has this state, and the others are unchanged
abbrev beside : List ℕ → FileState → Files → Files
beside name s files n = if bytes_eq name n then s else files n

on_file : (calls : List MemEntry) (call : MemEntry) (name : List ℕ) (Act : FileState → FileState → FileState → Type 0) (during : FileState)
    → ((n : List ℕ) → is_on call n ≡ bytes_eq name n) → Act (files_of calls name) during (file_after (files_of calls name) call) → OnFile name Act (files_of calls) (beside name during (files_of calls)) (files_of (calls ++ call ∷ []))
on_file calls call name Act during on acts =
    let new : (n : List ℕ) → files_of (calls ++ call ∷ []) n ≡ (if bytes_eq name n then file_after (files_of calls n) call else files_of calls n) =
    λ n. files-push calls call n ∙ ap (λ (b : Bool). if b then file_after (files_of calls n) call else files_of calls n) (on n) in
    let after = new name ∙ on_name name name (file_after (files_of calls name) call) (files_of calls name) refl in
    record {
      file = subst (λ (s : FileState). Act (files_of calls name) s (files_of (calls ++ call ∷ []) name)) (sym (on_name name name during (files_of calls name) refl)) (subst (λ (s : FileState). Act (files_of calls name) during s) (sym after) acts);
      others_during = λ n ne. off_name name n during (files_of calls n) (λ e. ne (sym e));
      others = λ n ne. new n ∙ off_name name n (file_after (files_of calls n) call) (files_of calls n) (λ e. ne (sym e));
    }

either : (b : Bool) (s : FileState) → (if b then s else s) ≡ s
either true s = refl
either false s = refl

-- a call that changes no file
stays : (calls : List MemEntry) (call : MemEntry) → ((s : FileState) → file_after s call ≡ s) → files_of (calls ++ call ∷ []) ≡ files_of calls
stays calls call same = λ i n. (files-push calls call n ∙ ap (λ (t : FileState). if is_on call n then t else files_of calls n) (same (files_of calls n)) ∙ either (is_on call n) (files_of calls n)) i

one_step : (calls : List MemEntry) (call : MemEntry) → AllInvariant (files_of calls) → AnswerIs calls call → (during : Files) × DiskTransition (entry_of call).call (entry_of call).answer (files_of calls) during (files_of (calls ++ call ∷ []))
one_step calls (Place name bytes ok) sound gives = (_, on_file calls (Place name bytes ok) name (PlaceTransition bytes (took ok)) (whole_or_absent bytes false) (λ n. refl) (placed_acts (files_of calls name) name bytes ok (sound name)))
one_step calls (WriteAt name at bytes ok) sound gives = (
  _,
  on_file calls (WriteAt name at bytes ok) name (WriteTransition at bytes (took ok)) (file_after (files_of calls name) (WriteAt name at bytes ok)) (λ n. refl)
      (wrote_acts (files_of calls name) name at bytes ok (λ is. (both_true (next_succeeds calls) (can_write (files_of calls name) at) (sym gives ∙ is)).1)),
)
one_step calls (Sync name ok) sound gives =
    (_, on_file calls (Sync name ok) name (SyncTransition (took ok)) (files_of calls name) (λ n. refl) (synced_acts (files_of calls name) name ok (λ is. (both_true (next_succeeds calls) (files_of calls name).there (sym gives ∙ is)).1)))
one_step calls (Remove name ok) sound gives = (
  _,
  on_file calls (Remove name ok) name (RemoveTransition (took ok)) (if (files_of calls name).there then or_absent (files_of calls name) true else files_of calls name) (λ n. refl)
      (removed_acts (files_of calls name) name ok (λ is. (both_true (next_succeeds calls) (files_of calls name).there (sym gives ∙ is)).1)),
)
one_step calls (Read name at len answer) sound gives =
    (files_of calls, (read_acts (files_of calls name) at len answer (next_succeeds calls && (files_of calls name).there) (λ is. (both_true (next_succeeds calls) (files_of calls name).there is).1) gives, (refl, stays calls (Read name at len answer) (λ s. refl))))
one_step calls (Listed folder answer) sound gives = (files_of calls, (list_acts folder answer (files_of calls) (next_succeeds calls) gives, (refl, stays calls (Listed folder answer) (λ s. refl))))
one_step calls (Preset name bytes) sound gives =
    (_, on_file calls (Preset name bytes) name (λ _ inside after. (inside ≡ whole bytes) × (after ≡ whole bytes)) (whole bytes) (λ n. refl) (refl, refl))
one_step calls (FailAt number) sound gives = (files_of calls, (refl, stays calls (FailAt number) (λ s. refl)))

played_ends : (before calls : List MemEntry) → AllInvariant (files_of before) → IsPlayed before calls → Ends DiskTransition (files_of before) (entries_of calls) (files_of (before ++ calls))
played_ends before [] sound played = ap files_of (append-nil before)
played_ends before (call ∷ calls) sound played =
    let step = one_step before call sound played.0 in
    let after = (invariant_step (entry_of call).call (entry_of call).answer (files_of before) step.0 (files_of (before ++ call ∷ [])) step.1 sound).1 in
    let rest = played_ends (before ++ call ∷ []) calls after played.1 in
    (step.0, files_of (before ++ call ∷ []), step.1, subst (λ (l : List MemEntry). Ends DiskTransition (files_of (before ++ call ∷ [])) (entries_of calls) (files_of l)) (append_assoc before (call ∷ []) calls) rest)

pub may_hold : (calls : List MemEntry) → IsPlayed [] calls → IsReachable given (entries_of calls) (files_of calls)
may_hold calls played = played_ends [] calls (λ name. sound_gone) played
