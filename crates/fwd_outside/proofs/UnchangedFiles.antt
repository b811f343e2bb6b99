-- Calls on other names don't change a file.
use Rattle.std.proofs.Common.{◌≡◌, ℕ, List, [], ◌∷◌, All, refl, sym, ◌∙◌, ap}
use Rattle.std.proofs.lemmas.List.Elements.{All-head, All-tail}
use Rattle.fwd_outside.specs.AtCrashPoints.{AtCrashPoints}
use Rattle.fwd_outside.specs.Disk.{DiskCall, DiskAnswer, DiskEntry, Place, WriteAt, Sync, Remove, Read, ListNames, Preset, FailAt}
use Rattle.fwd_outside.specs.File.{FileState}
use Rattle.fwd_outside.specs.DiskStates.{Files, OnFile, NoFileChanges, DiskTransition}
use Rattle.fwd_outside.specs.PostCrash.{IsOn}

off_file : (on name : List ℕ) (Act : FileState → FileState → FileState → Type 0) (old during new : Files) → OnFile on Act old during new → (on ≡ name → ⊥) → (during name ≡ old name) × (new name ≡ old name)
off_file on name Act old during new steps off = (steps.others_during name (λ e. off (sym e)), steps.others name (λ e. off (sym e)))

stayed : (name : List ℕ) (old during new : Files) → NoFileChanges old during new → (during name ≡ old name) × (new name ≡ old name)
stayed name old during new stays = (ap (λ (f : Files). f name) stays.0, ap (λ (f : Files). f name) stays.1)

pub untouched_step : (name : List ℕ) (call : DiskCall) (answer : DiskAnswer call) (old during new : Files) → DiskTransition call answer old during new → (IsOn call name → ⊥) → (during name ≡ old name) × (new name ≡ old name)
untouched_step name (Place n bytes) answer old during new steps off = off_file n name _ old during new steps off
untouched_step name (WriteAt n at bytes) answer old during new steps off = off_file n name _ old during new steps off
untouched_step name (Sync n) answer old during new steps off = off_file n name _ old during new steps off
untouched_step name (Remove n) answer old during new steps off = off_file n name _ old during new steps off
untouched_step name (Read n at len) answer old during new steps off = stayed name old during new steps.1
untouched_step name (ListNames folder) answer old during new steps off = stayed name old during new steps.1
untouched_step name (Preset n bytes) answer old during new steps off = off_file n name _ old during new steps off
untouched_step name (FailAt number) answer old during new steps off = stayed name old during new steps

untouched_from : (name : List ℕ) (entries : List DiskEntry) (first files : Files) → files name ≡ first name → All (λ (e : DiskEntry). IsOn e.call name → ⊥) entries → AtCrashPoints DiskTransition (λ now. now name ≡ first name) files entries
untouched_from name [] first files same off = same
untouched_from name (e ∷ es) first files same off = (
  same,
  λ during after steps.
      let kept = untouched_step name e.call e.answer files during after steps (All-head (λ (e : DiskEntry). IsOn e.call name → ⊥) e es off) in
      (kept.0 ∙ same, untouched_from name es first after (kept.1 ∙ same) (All-tail (λ (e : DiskEntry). IsOn e.call name → ⊥) e es off)),
)

pub untouched : (name : List ℕ) (entries : List DiskEntry) (files : Files) → All (λ (e : DiskEntry). IsOn e.call name → ⊥) entries → AtCrashPoints DiskTransition (λ now. now name ≡ files name) files entries
untouched name entries files off = untouched_from name entries files files refl off
