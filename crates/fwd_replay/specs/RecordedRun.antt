-- The outcome of a live run that is recorded.
use Rattle.std.specs.Prelude.{◌≡◌, ◌≢◌, ◌⊎◌, ℕ, Bool, true, false, List, [], ◌∷◌, ◌++◌, map, Option, Some, None, Result, Ok, Err, IfOk}
use Rattle.std.specs.List.{list_any}
use Rattle.fwd_base.specs.declared.memory.Memory.{Memory}
use Rattle.fwd_outside.specs.Program.{entry, Return, Execution}
use Rattle.fwd_outside.specs.Loop.{Wait}
use Rattle.fwd_outside.specs.NewLinks.{AreNewLinks}
use Rattle.fwd_outside.specs.LoopAnswers.{AreLoopAnswers}
use Rattle.fwd_outside.specs.declared.happening.Happening.{Happening}
use Rattle.fwd_outside.specs.declared.happening.Happening.TheVariants as happening
use Rattle.fwd_settings.specs.Endpoints.{ends_of}
use Rattle.fwd_settings.specs.declared.settings_types.AllSettings.{AllSettings}
use Rattle.fwd_settings.specs.declared.settings_types.InputKind.{InputKind}
use Rattle.fwd_settings.specs.declared.settings_types.InputKind.TheVariants as kind
use Rattle.fwd_script.specs.declared.schedule.Schedule.{Schedule}
use Rattle.fwd_script.specs.Writable.{IsWritable}
use Rattle.fwd_model.specs.Fact.{History}
use Rattle.fwd_model.specs.Trace.{Action, TraceEntry, OnLoop, loop_part, disk_part}
use Rattle.fwd_model.specs.CallLogs.{CallLogs, LogsGrew, Completes}
use Rattle.fwd_model.specs.RecoveryActions.{recovers}
use Rattle.fwd_model.specs.Run.{RunResult, Over, TurnsSpent, life, run, after_recovery, steps_on}
use Rattle.fwd_record.specs.Seen.{Seen, Answered, Stopped, calls_of}
use Rattle.fwd_record.specs.Allowed.{AreAllowed}
use Rattle.fwd_record.specs.Failures.{failed_from}
use Rattle.fwd_record.specs.Recorded.{recorded}
use Rattle.fwd_secure.specs.Handshakes.{Handshakes, no_handshakes}
use Rattle.fwd_secure_settings.specs.Keys.{keys_of}
use Rattle.fwd_secure_trace.specs.Secured.{IsSecured, on_loop}
use Rattle.fwd_replay.specs.LiveRun.{RunsToEnd, BeginsRun}
use Rattle.fwd_replay.specs.Text.{report, reported_by, out_of_memory}
use Rattle.fwd_replay.specs.declared.report.Ending.{Ending}
use Rattle.fwd_replay.specs.declared.report.Ending.TheVariants as ending
use Rattle.fwd_replay.specs.declared.report.Reported.{Reported}
use Rattle.fwd_replay.specs.declared.recorded_run.Ran.{Ran}
use Rattle.fwd_replay.specs.declared.recorded_run.Ran.TheVariants as ran

-- ---- which runs can be recorded

abbrev pub follows_files : InputKind → Bool
follows_files (kind.Tail paths from_head) = true
follows_files _ = false

-- an input follows files
abbrev pub HasTail : AllSettings → Type 0
HasTail s = list_any (λ input. follows_files input.kind) s.inputs ≡ true

-- A schedule has no followed files and no chunks on the disk: so a run that has one of these isn't recorded.
-- It was loaded, and nothing else was asked.
pub record IsNotRecordable (s : AllSettings) (old new : CallLogs) : Type 0 where
  pub history : History
  pub did : Completes old new (recovers s) (Some history)
  pub why : HasTail s ⊎ (history ≢ [])

-- ---- what was seen of a run

-- the run from its recovery of nothing on
abbrev pub runs_on : AllSettings → Option ℕ → ℕ → Action RunResult
runs_on s ticks turns = after_recovery s (ends_of s) ticks turns (Some [])

-- After these calls the last of `ticks` ticks stopped the run, without a call. A run without a number of
-- ticks makes the same calls up to there, and goes on.
pub record StopsAfter (s : AllSettings) (ticks : Option ℕ) (turns : ℕ)
    (first : List TraceEntry) : Type 0 where
  pub now : History
  pub left : ℕ
  pub stops : Execution (runs_on s ticks turns) first (steps_on s (run s ticks left) happening.Stop now)
  pub goes_on : Execution (runs_on s None turns) first (run s None left now)

-- What a recorder saw, which stands below the keyed loop: the engine had this trace, the devices had these
-- calls. If the last tick stopped the run, the recorder saw the stop there.
pub data IsSeen (s : AllSettings) (ticks : Option ℕ) (turns : ℕ)
    : (trace below : List TraceEntry) → Handshakes → List Seen → Type 0 where
  Unstopped : (trace below : List TraceEntry) (handshakes : Handshakes) (result : RunResult)
      → Execution (runs_on s None turns) trace (Return result)
      → IsSecured (keys_of s) no_handshakes trace below handshakes
      → IsSeen s ticks turns trace below handshakes (map Answered (loop_part below))
  StoppedAfter : (first second first_below second_below : List TraceEntry) (stopped handshakes : Handshakes)
      → StopsAfter s ticks turns first
      → IsSecured (keys_of s) no_handshakes first first_below stopped
      → IsSecured (keys_of s) stopped second second_below handshakes
      → IsSeen s ticks turns (first ++ second) (first_below ++ second_below) handshakes
      (map Answered (loop_part first_below) ++ Stopped ∷ map Answered (loop_part second_below))

-- ---- a recorded run

-- The number of the first disk call after recovery, in a replay. Its disk is empty, so recovery is one call
-- if there is a storage path, and none otherwise.
abbrev pub first_number : Option (List ℕ) → ℕ
first_number None = 1
first_number (Some root) = 2

-- the run went to its end or used up its turns
abbrev pub HasReport : RunResult → Type 0
HasReport result = (result.end ≡ Over) ⊎ (result.end ≡ TurnsSpent)

-- The calls of recovery, which found nothing, and those after it. The schedule has the one life that was
-- recorded, and a text can express it; it is missing only if memory ran out for it.
pub record IsRecorded (s : AllSettings) (ticks : Option ℕ) (turns : ℕ) (old new : CallLogs) (endless : Bool)
    (reported : Reported) (made : Result Schedule Memory) : Type 0 where
  pub recovery : List TraceEntry
  pub loads : Execution (recovers s) recovery (Return (Some []))
  pub untailed : HasTail s → ⊥
  pub trace : List TraceEntry
  pub result : RunResult
  pub way : Execution (runs_on s ticks turns) trace (Return result)
  pub answers : AreLoopAnswers (loop_part trace)
  pub below : List TraceEntry
  pub handshakes : Handshakes
  pub seen : List Seen
  pub is_seen : IsSeen s ticks turns trace below handshakes seen
  pub asked : LogsGrew old new (recovery ++ below)
  pub ended : HasReport result
  pub reports : reported ≡ reported_by (report s result.history) result.end
  pub allowed : AreAllowed endless (calls_of seen)
  pub new_links : AreNewLinks 0 (calls_of seen)
  pub schedule : IfOk made (λ schedule.
      schedule
      ≡ record { lives = recorded seen (failed_from (first_number s.service.path) (disk_part below)) ∷ [] })
  pub writable : IfOk made IsWritable

-- ---- a run that isn't recorded

-- Memory ran out: the calls of a run that began, up to `before`; the loop may have been asked one wait more,
-- whose event couldn't be kept.
pub record BeginsRecorded (s : AllSettings) (ticks : Option ℕ) (turns : ℕ) (old new : CallLogs) : Type 0 where
  pub before : CallLogs
  pub begins : BeginsRun s ticks turns old before
  pub wait : LogsGrew before new []
      ⊎ ((until paused : ℕ) × (brought : Happening)
      × LogsGrew before new (on_loop (entry (Wait until paused) brought) ∷ []))

-- a device failed, or memory ran out
pub data IsUnrecorded (s : AllSettings) (ticks : Option ℕ) (turns : ℕ) (old new : CallLogs)
    (reported : Reported) : Type 0 where
  Failed : (runs : RunsToEnd s ticks turns old new reported) → (HasReport runs.lived → ⊥)
      → IsUnrecorded s ticks turns old new reported
  RanOutOfMemory : BeginsRecorded s ticks turns old new → reported ≡ out_of_memory
      → IsUnrecorded s ticks turns old new reported

-- `endless`: whether the loop never ends
abbrev pub RanSo : AllSettings → Option ℕ → ℕ → CallLogs → CallLogs → Bool → Ran → Type 0
RanSo s ticks turns old new endless ran.NotRecordable = IsNotRecordable s old new
RanSo s ticks turns old new endless (ran.Unrecorded reported) = IsUnrecorded s ticks turns old new reported
RanSo s ticks turns old new endless (ran.Recorded reported schedule) =
    IsRecorded s ticks turns old new endless reported schedule

-- the ending of a run that wasn't recordable is of no matter
abbrev pub ending_of_run : Ran → Ending
ending_of_run ran.NotRecordable = ending.Over
ending_of_run (ran.Unrecorded reported) = reported.ending
ending_of_run (ran.Recorded reported schedule) = reported.ending
