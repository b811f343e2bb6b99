-- What contracts see of a recorder.
use Rattle.std.specs.Prelude.{◌≡◌, ◌⊎◌, ℕ, ◌+◌, ◌-◌, ◌^◌, ◌≤◌, Bool, true, false, List, [], ◌∷◌, ◌++◌, map, Some}
use Rattle.fwd_outside.specs.declared.happening.Happening.{Happening}
use Rattle.fwd_outside.specs.Program.{entry}
use Rattle.fwd_outside.specs.Log.{LogGrew}
use Rattle.fwd_outside.specs.Loop.{LoopEntry, LoopLog, LoopCounts, Wait}
use Rattle.fwd_outside.specs.NewLinks.{AreNewLinks, greatest_after}
use Rattle.fwd_record.specs.Allowed.{AreAllowed}
use Rattle.fwd_record.specs.LoopBelow.{LoopBelow}
use Rattle.fwd_record.specs.LoopBelowCode.{given_to}
use Rattle.fwd_record.specs.Seen.{Seen, Answered, calls_of}

pub record Recording : Type 0 where
  -- the loop below: the name of the reference to it, and what it was at the start and is now
  pub name : ℕ
  pub start : LoopBelow
  pub below : LoopBelow
  pub seen : List Seen
  -- whether the run was stopped without a call
  pub stopped : Bool
  -- whether an event came that couldn't be kept
  pub out_of_memory : Bool
  -- the number of events that this loop brought
  pub happenings : ℕ

-- The call log. No call changes its first part: which loop this one wraps, what that loop was, and whether the run
-- was stopped.
abbrev pub log_of : Recording → LoopLog
log_of r = Some (given_to r.name r.start r.stopped, calls_of r.seen)

abbrev pub counts_by : ℕ → LoopCounts → LoopCounts
counts_by happenings below =
    record { happenings = happenings; greatest = below.greatest; endless = below.endless }

abbrev pub counts_of : Recording → LoopCounts
counts_of r = counts_by r.happenings r.below.counts

abbrev pub faults_of : Recording → ℕ
faults_of r = r.below.faults

-- The loop below was asked these calls and no other. Or memory was out: then it brought one more event.
abbrev pub Passed : Bool → (old new : LoopLog) → List LoopEntry → Type 0
Passed false old new calls = LogGrew old new calls
Passed true old new calls =
    (until paused : ℕ) × (brought : Happening) × LogGrew old new (calls ++ entry (Wait until paused) brought ∷ [])

-- The events of this loop come from those of the loop below, unless that has stopped counting.
abbrev pub HasHeard : (happenings start below : ℕ) → Type 0
HasHeard happenings start below = (2 ^ 64 - 1 ≤ below) ⊎ (happenings + start ≤ below)

-- what holds of each recorder
pub record IsRecording (r : Recording) : Type 0 where
  pub passed : Passed r.out_of_memory r.start.call_log r.below.call_log (calls_of r.seen)
  pub unstopped : r.stopped ≡ false → r.seen ≡ map Answered (calls_of r.seen)
  pub endless : r.below.counts.endless ≡ r.start.counts.endless
  pub allowed : AreAllowed r.start.counts.endless (calls_of r.seen)
  pub new_links : AreNewLinks 0 (calls_of r.seen)
  pub newest : greatest_after 0 (calls_of r.seen) ≤ r.below.counts.greatest
  pub heard : HasHeard r.happenings r.start.counts.happenings r.below.counts.happenings
