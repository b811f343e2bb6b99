-- After any calls, what a read returns is one of the post-crash states.
use Rattle.std.proofs.Common.{◌≡◌, ◌≢◌, ◌⊎◌, inl, inr, ℕ, ◌≤◌, Bool, true, false, List, [], ◌∷◌, Option, Some, None, length, refl, sym, ◌∙◌, subst, arith, if◌then◌else◌}
use Rattle.std.proofs.lemmas.Slice.Eq.{bytes_eq-Decides}
use Rattle.std.specs.Str.{bytes_eq}
use Rattle.fwd_outside.specs.AtCrashPoints.{Ends}
use Rattle.fwd_outside.specs.Disk.{DiskCall, DiskAnswer, DiskEntry, DiskGiven, Place, WriteAt, Sync, Remove, Read, ListNames, Preset, FailAt}
use Rattle.fwd_outside.specs.File.{FileState, FileInvariant, IsPostCrash, content, whole, absent, whole_or_absent, or_absent, after_write}
use Rattle.fwd_outside.specs.DiskStates.{Files, CanWrite, PlaceTransition, WriteTransition, SyncTransition, RemoveTransition, OnFile, DiskTransition, initial_from, initial_files}
use Rattle.fwd_outside.proofs.KeepsBytes.{length-overwritten}

pub sound_whole : (bytes : List ℕ) → FileInvariant (whole bytes)
sound_whole bytes = record { long = omega arith; reached = omega arith; stays = λ _. refl; goes = λ is. absurd (cc is) }

pub sound_gone : FileInvariant absent
sound_gone = record { long = omega arith; reached = omega arith; stays = λ is. absurd (cc is); goes = λ _. refl }

pub sound_maybe : (bytes : List ℕ) (there : Bool) → FileInvariant (whole_or_absent bytes there)
sound_maybe bytes there = record { long = omega arith; reached = omega arith; stays = λ _. refl; goes = λ _. refl }

sound_or_gone : (s : FileState) (there : Bool) → s.there ≡ true → FileInvariant s → FileInvariant (or_absent s there)
sound_or_gone s there is sound = record { long = sound.long; reached = sound.reached; stays = λ _. sound.stays is; goes = λ _. refl }

pub sound_written : (s : FileState) (at count : ℕ) (left : List ℕ) → CanWrite s at → length left ≤ count → FileInvariant s → FileInvariant (after_write s at count left)
sound_written s at count left can le sound = record {
  long = omega (arith, sound.long, length-overwritten s.bytes at left can.within);
  reached = omega (arith, sound.reached, length-overwritten s.bytes at left can.within);
  stays = sound.stays;
  goes = sound.goes;
}

sound_placed : (bytes : List ℕ) (answer : Option (Unit {0})) (s during after : FileState) → PlaceTransition bytes answer s during after → FileInvariant during × FileInvariant after
sound_placed bytes (Some done) s during after placed = (placed.0, placed.1)
sound_placed bytes None s during after placed = (placed.0, placed.1)

sound_wrote : (at : ℕ) (bytes : List ℕ) (answer : Option (Unit {0})) (s during after : FileState) → FileInvariant s → WriteTransition at bytes answer s during after → FileInvariant during × FileInvariant after
sound_wrote at bytes (Some done) s during after sound wrote =
    let now = sound_written s at (length bytes) bytes wrote.0 (omega arith) sound in
    (subst FileInvariant (sym wrote.1) now, subst FileInvariant (sym wrote.2) now)
sound_wrote at bytes None s during after sound (inl wrote) =
    let now = sound_written s at (length bytes) wrote.1 wrote.0 wrote.2 sound in
    (subst FileInvariant (sym wrote.3) now, subst FileInvariant (sym wrote.4) now)
sound_wrote at bytes None s during after sound (inr same) = (subst FileInvariant (sym same.0) sound, subst FileInvariant (sym same.1) sound)

sound_synced : (answer : Option (Unit {0})) (s during after : FileState) → FileInvariant s → SyncTransition answer s during after → FileInvariant during × FileInvariant after
sound_synced (Some done) s during after sound synced = (subst FileInvariant (sym synced.1) sound, subst FileInvariant (sym synced.2) (sound_whole s.bytes))
sound_synced None s during after sound same = (subst FileInvariant (sym same.0) sound, subst FileInvariant (sym same.1) sound)

sound_removed : (answer : Option (Unit {0})) (s during after : FileState) → FileInvariant s → RemoveTransition answer s during after → FileInvariant during × FileInvariant after
sound_removed (Some done) s during after sound removed = (subst FileInvariant (sym removed.1) (sound_or_gone s true removed.0 sound), subst FileInvariant (sym removed.2) sound_gone)
sound_removed None s during after sound (inl removed) = (subst FileInvariant (sym removed.2) (sound_or_gone s true removed.0 sound), subst FileInvariant (sym removed.3) (sound_or_gone s removed.1 removed.0 sound))
sound_removed None s during after sound (inr same) = (subst FileInvariant (sym same.0) sound, subst FileInvariant (sym same.1) sound)

-- the invariant at each name
abbrev pub AllInvariant : Files → Type 0
AllInvariant files = (name : List ℕ) → FileInvariant (files name)

-- a name is this one or another
one_or_other : (name n : List ℕ) → (n ≡ name) ⊎ (n ≢ name)
one_or_other name n = by (bytes_eq n name) refl
  where
    by : (b : Bool) → bytes_eq n name ≡ b → (n ≡ name) ⊎ (n ≢ name)
    by true is = inl ((bytes_eq-Decides n name).0 is)
    by false is = inr (λ e. let no : true ≡ false = sym ((bytes_eq-Decides n name).1 e) ∙ is in absurd (cc no))

on_file : (name : List ℕ) (Act : FileState → FileState → FileState → Type 0) (old during new : Files) → OnFile name Act old during new → AllInvariant old
    → (Act (old name) (during name) (new name) → FileInvariant (during name) × FileInvariant (new name)) → AllInvariant during × AllInvariant new
on_file name Act old during new steps sound keeps = (λ n. (at n (one_or_other name n)).0, λ n. (at n (one_or_other name n)).1)
  where
    at : (n : List ℕ) → (n ≡ name) ⊎ (n ≢ name) → FileInvariant (during n) × FileInvariant (new n)
    at n (inl is) = let kept = keeps steps.file in (subst (λ (m : List ℕ). FileInvariant (during m)) (sym is) kept.0, subst (λ (m : List ℕ). FileInvariant (new m)) (sym is) kept.1)
    at n (inr ne) = (subst FileInvariant (sym (steps.others_during n ne)) (sound n), subst FileInvariant (sym (steps.others n ne)) (sound n))

pub invariant_step : (call : DiskCall) (answer : DiskAnswer call) (old during new : Files) → DiskTransition call answer old during new → AllInvariant old → AllInvariant during × AllInvariant new
invariant_step (Place name bytes) answer old during new steps sound = on_file name (PlaceTransition bytes answer) old during new steps sound (sound_placed bytes answer (old name) (during name) (new name))
invariant_step (WriteAt name at bytes) answer old during new steps sound = on_file name (WriteTransition at bytes answer) old during new steps sound (sound_wrote at bytes answer (old name) (during name) (new name) (sound name))
invariant_step (Sync name) answer old during new steps sound = on_file name (SyncTransition answer) old during new steps sound (sound_synced answer (old name) (during name) (new name) (sound name))
invariant_step (Remove name) answer old during new steps sound = on_file name (RemoveTransition answer) old during new steps sound (sound_removed answer (old name) (during name) (new name) (sound name))
invariant_step (Read name at len) answer old during new steps sound = (subst AllInvariant (sym steps.1.0) sound, subst AllInvariant (sym steps.1.1) sound)
invariant_step (ListNames folder) answer old during new steps sound = (subst AllInvariant (sym steps.1.0) sound, subst AllInvariant (sym steps.1.1) sound)
invariant_step (Preset name bytes) answer old during new steps sound =
    on_file name (λ _ inside after. (inside ≡ whole bytes) × (after ≡ whole bytes)) old during new steps sound (λ is. (subst FileInvariant (sym is.0) (sound_whole bytes), subst FileInvariant (sym is.1) (sound_whole bytes)))
invariant_step (FailAt number) answer old during new steps sound = (subst AllInvariant (sym steps.0) sound, subst AllInvariant (sym steps.1) sound)

sound_stood_in : (files : List (List ℕ × List ℕ)) → AllInvariant (initial_from files)
sound_stood_in [] name = sound_gone
sound_stood_in (file ∷ files) name = by (bytes_eq file.0 name) (sound_stood_in files name)
  where
    by : (b : Bool) → FileInvariant (initial_from files name) → FileInvariant (if b then whole file.1 else initial_from files name)
    by true others = sound_whole file.1
    by false others = others

pub invariant_initial : (given : DiskGiven) → AllInvariant (initial_files given)
invariant_initial given = sound_stood_in given.files

pub invariant_reached : (es : List DiskEntry) (old new : Files) → Ends DiskTransition old es new → AllInvariant old → AllInvariant new
invariant_reached [] old new ends sound = subst AllInvariant (sym ends) sound
invariant_reached (e ∷ es) old new ends sound = invariant_reached es ends.1 new ends.3 (invariant_step e.call e.answer old ends.0 ends.1 ends.2 sound).1

pub read_is_post_crash_state : (s : FileState) → FileInvariant s → IsPostCrash s (content s)
read_is_post_crash_state s sound = by s.there refl
  where
    by : (b : Bool) → s.there ≡ b → IsPostCrash s (if b then Some s.bytes else None)
    by true is = (sound.stays is, record { no_shorter = sound.long; no_longer = sound.reached; same = λ i lt sure. refl })
    by false is = sound.goes is
