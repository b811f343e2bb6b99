-- What the program's call does.
use Rattle.std.specs.Prelude.{◌≡◌, ℕ, List, String}
use Rattle.fwd_outside.specs.Cause.{HasCause}
use Rattle.fwd_outside.specs.Loop.{LoopCounts}
use Rattle.fwd_config.specs.Variables.{Values}
use Rattle.fwd_engine_state.specs.LoopCounters.{EventsTaken}
use Rattle.fwd_top.specs.declared.status.Status.{Status}
use Rattle.fwd_top.specs.declared.status.Status.TheVariants as status
use Rattle.fwd_top.specs.Answers.{Devices, Answers, IsOfTheFiles, IsLoopFault, IsKeeperFault, IsDiskFault, spent, half, SpendsTurns}
use Rattle.fwd_top.specs.Taped.{IsTaped}

-- how many failures each device counted
pub record Faults : Type 0 where
  pub disk : ℕ
  pub files : ℕ
  pub loop : ℕ
  pub keeper : ℕ
  pub sink : ℕ
  pub tape : ℕ

-- the devices at one time
pub record DevicesAt : Type 0 where
  pub logs : Devices
  pub counts : LoopCounts
  pub faults : Faults

-- The call with these words and variables, and at most so many turns: from the devices as they were, to those
-- as they are, and to a status.
pub record Forwards {Y : Type 0} (words : List (String Y)) (env : Values) (turns : ℕ)
    (old new : DevicesAt) (result : Status) : Type 0 where
  -- The files were read for the configuration and the schedule. Then all devices were called as the reference
  -- model says, or for a listing as loading says, and the text was written. All that is guaranteed of a run
  -- is in here (`Outcome`, `RecordedOutcome`).
  pub answers : Answers words env turns old.logs new.logs result
  -- If the files return the bytes that exist, all of this is of those bytes.
  pub text : IsOfTheFiles words env turns old.logs new.logs result
  -- A status of a failure comes only if the device counted one. A run or a listing uses the disk, a run the
  -- loop and the keeper.
  pub file_cause : HasCause old.faults.files new.faults.files (result ≡ status.FileFault)
  pub disk_cause : HasCause old.faults.disk new.faults.disk (IsDiskFault words result)
  pub keeper_cause : HasCause old.faults.keeper new.faults.keeper (IsKeeperFault words result)
  pub loop_cause : HasCause old.faults.loop new.faults.loop (IsLoopFault words result)
  pub out_cause : HasCause old.faults.sink new.faults.sink (result ≡ status.OutFault)
  pub tape_cause : HasCause old.faults.tape new.faults.tape (result ≡ status.RecordFault)
  -- A run answers `TurnsSpent` only if the loop returned half as many events at least, or as many if no input
  -- and no output has a key: an event of a keyed one becomes two at most. A replay answers it only if the
  -- turns were fewer than the events of all its runs, with one more for each run.
  pub heard : EventsTaken (half (spent words turns result)) old.counts new.counts
  pub few_turns : result ≡ status.TurnsSpent → SpendsTurns words env turns old.logs.files old.counts new.counts
  -- With `--record`, `Done` and `TurnsSpent` come only after the whole schedule of the run was written to the
  -- tape, and `RecordFault` only after the whole report.
  pub taped : IsTaped words turns old.logs new.logs result
