-- Where a poll of a followed file reads.
use Rattle.std.proofs.Common.{◌≡◌, ℕ, cond, List, ◌∷◌, Option, Some, None, sym, ◌∙◌, ap, subst}
use Rattle.std.specs.Prelude.{nat_lt}
use Rattle.fwd_outside.specs.Program.{entry, bind, Execution}
use Rattle.fwd_outside.specs.Files.{Length, ReadAt}
use Rattle.fwd_in_tail.specs.Followed.{from_place, reads_on}
use Rattle.fwd_settings.specs.declared.settings_types.AllSettings.{AllSettings}
use Rattle.fwd_model.specs.Fact.{History}
use Rattle.fwd_model.specs.Trace.{Call, Answer, Action, TraceEntry, OnFiles}
use Rattle.fwd_model.specs.DeviceActions.{on_files}
use Rattle.fwd_model.specs.Settings.{from_head_at}
use Rattle.fwd_model.specs.FollowedFiles.{file_at}
use Rattle.fwd_model.specs.InputActions.{polled, polls_file}

-- the length that a call found
abbrev length_by : (call : Call) → Answer call → Option (Option ℕ)
length_by (OnFiles (Length path)) answer = Some answer
length_by call answer = None

-- the path of a read, and its offset
abbrev read_by : Call → Option (List ℕ × ℕ)
read_by (OnFiles (ReadAt path at max)) = Some (path, at)
read_by call = None

same_length : {a b : Option ℕ} → ◌≡◌ {A = Option (Option ℕ)} (Some a) (Some b) → a ≡ b
same_length is = cc is

same_read : {a b : List ℕ × ℕ} → ◌≡◌ {A = Option (List ℕ × ℕ)} (Some a) (Some b) → a ≡ b
same_read is = cc is

pub read_at : (s : AllSettings) (h : History) (input index place long at max : ℕ) (path named other : List ℕ) (answer : Option (List ℕ)) (entries : List TraceEntry) (left : Action History)
    → (file_at s h input index).place ≡ Some place
    → Execution (polls_file s input index path h) (entry (OnFiles (Length named)) (Some long) ∷ entry (OnFiles (ReadAt other at max)) answer ∷ entries) left
    → (other ≡ path) × (at ≡ cond (nat_lt long place) 0 place)
unfolding polls_file
read_at s h input index place long at max path named other answer entries left is way =
    let before : Option ℕ = (file_at s h input index).place in
    let read : TraceEntry = entry (OnFiles (ReadAt other at max)) answer in
    let found : way.0 ≡ Some long = same_length (sym (ap (λ (e : TraceEntry). length_by e.call e.answer) way.1)) in
    let rest = subst (λ (o : Option ℕ). Execution (bind (on_files (reads_on path (from_head_at s input) before o)) (polled s input index h)) (read ∷ entries) left) found way.2 in
    let same : (other, at) ≡ (path, from_place (from_head_at s input) long before) = same_read (ap (λ (e : TraceEntry). read_by e.call) rest.1) in
    (ap (λ (p : List ℕ × ℕ). p.0) same, ap (λ (p : List ℕ × ℕ). p.1) same ∙ ap (from_place (from_head_at s input) long) is)
