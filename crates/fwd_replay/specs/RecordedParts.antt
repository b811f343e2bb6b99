-- What the parts of a recorded run do, after a recovery that found nothing.
use Rattle.std.specs.Prelude.{◌≡◌, ◌==◌, ◌&&◌, ◌⊎◌, ℕ, ◌<◌, ◌^◌, Bool, true, false, List, [], ◌∷◌, ◌++◌, map, length, Option, Some, None, Result, Ok, Err, IfOk}
use Rattle.fwd_base.specs.declared.memory.Memory.{Memory}
use Rattle.fwd_outside.specs.Program.{entry, Return, Execution}
use Rattle.fwd_outside.specs.Loop.{LoopEntry, LoopLog, Wait}
use Rattle.fwd_outside.specs.NewLinks.{AreNewLinks}
use Rattle.fwd_outside.specs.LoopAnswers.{AreLoopAnswers}
use Rattle.fwd_outside.specs.declared.happening.Happening.{Happening}
use Rattle.fwd_settings.specs.Endpoints.{ends_of}
use Rattle.fwd_settings.specs.declared.settings_types.AllSettings.{AllSettings}
use Rattle.fwd_script.specs.declared.schedule.Schedule.{Schedule}
use Rattle.fwd_table.specs.declared.tally.Tally.{Tally}
use Rattle.fwd_script.specs.Writable.{IsWritable}
use Rattle.fwd_model.specs.Fact.{History}
use Rattle.fwd_model.specs.Trace.{Action, TraceEntry, loop_part, disk_part}
use Rattle.fwd_model.specs.CallLogs.{CallLogs, LogsGrew}
use Rattle.fwd_model.specs.Run.{RunResult, lived}
use Rattle.fwd_engine_run.specs.Engine.{Engine}
use Rattle.fwd_engine_run.specs.EngineSteps.{IsAt}
use Rattle.fwd_engine_run.specs.OffsetRows.{Keeps}
use Rattle.fwd_engine_run.specs.RunOutcome.{IsAtEnd, end_of}
use Rattle.fwd_engine_run.specs.RunOutcome.{heard_in as events_given}
use Rattle.fwd_engine_run.specs.declared.run_loop.RunEnd.{RunEnd}
use Rattle.fwd_record.specs.Seen.{Seen, Answered, Stopped, calls_of}
use Rattle.fwd_record.specs.Allowed.{AreAllowed}
use Rattle.fwd_record.specs.Failures.{failed_from}
use Rattle.fwd_record.specs.Recorded.{heard_in, recorded}
use Rattle.fwd_record.specs.Recording.{Recording, IsRecording}
use Rattle.fwd_record.specs.Recording as record_spec
use Rattle.fwd_secure.specs.declared.keys.Keys.{Keys}
use Rattle.fwd_secure.specs.Allowed.{AllMayOccur}
use Rattle.fwd_secure.specs.Handshakes.{Handshakes, no_handshakes}
use Rattle.fwd_secure.specs.Carried.{IsCutShort}
use Rattle.fwd_secure.specs.Secure.{Secure, IsSecure}
use Rattle.fwd_secure_settings.specs.Keys.{keys_of}
use Rattle.fwd_secure_trace.specs.Secured.{IsSecured, on_loop}
use Rattle.fwd_replay.specs.RecordedRun.{HasReport, IsSeen, StopsAfter, runs_on}
use Rattle.fwd_replay.specs.Names.{IsNamed}
use Rattle.fwd_replay.specs.declared.setup.Setup.{Setup}
use Rattle.fwd_replay.specs.Text.{report, reported_by, out_of_memory}
use Rattle.fwd_replay.specs.declared.report.Reported.{Reported}
use Rattle.fwd_replay.specs.declared.report.Ending.{Ending}
use Rattle.fwd_replay.specs.declared.report.Ending.TheVariants as ending
use Rattle.fwd_replay.specs.declared.recorded_run.Finish.{Finish}
use Rattle.fwd_replay.specs.declared.recorded_run.Told.{Told}
use Rattle.fwd_replay.specs.declared.recorded_run.Ran.{Ran}
use Rattle.fwd_replay.specs.declared.recorded_run.Ran.TheVariants as ran

-- ---- an engine that has begun

-- no file was counted
abbrev pub counts_nothing : Tally → Bool
counts_nothing tally = (tally.loaded == 0) && ((tally.unrouted == 0) && (tally.left == 0))

-- it found nothing, and these are its names, endpoints and offsets
pub record IsRecordable (s : AllSettings) (setup : Setup) (engine : Engine) : Type 0 where
  pub at : IsAt engine s []
  pub keeps : Keeps s setup.offsets []
  pub ends : setup.ends ≡ ends_of s
  pub is : IsNamed setup.named s

pub record IsToRecord (setup : Setup) (engine : Engine) : Type 0 where
  pub settings : AllSettings
  pub is : IsRecordable settings setup engine
  pub fits : setup.most < 2 ^ 64

abbrev pub AreKeysOf : Keys → Engine → Type 0
AreKeysOf keys engine = (s : AllSettings) → IsAt engine s [] → keys ≡ keys_of s

-- ---- what the log of a recorder says

-- a recorder with this log kept so many events
pub record HasKept (log : LoopLog) (heard : ℕ) : Type 0 where
  pub recording : Recording
  pub log_is : record_spec.log_of recording ≡ log
  pub recorded : IsRecording recording
  pub events : heard ≡ length (heard_in recording.seen)

-- ---- over a keyed loop

-- the keyed loop is the same one, and answered these calls since
pub record HasAnswered (old new : Secure) (calls : List LoopEntry) : Type 0 where
  pub name : new.name ≡ old.name
  pub keys : new.keys ≡ old.keys
  pub start : new.start ≡ old.start
  pub above : new.above ≡ old.above ++ calls

-- The place where the last tick stopped a run: what was seen so far, below the keyed loop, had so many events. The
-- keyed loop was marked here, and is now another.
pub record StoppedHere (s : AllSettings) (ticks : Option ℕ) (turns : ℕ) (old new : Secure) (first : List TraceEntry)
    (heard : ℕ) : Type 0 where
  pub stops : StopsAfter s ticks turns first
  pub here : Secure
  pub is : IsSecure here
  pub going : here.out_of_memory ≡ false
  pub answered : HasAnswered old here (loop_part first)
  pub marked : new.marked ≡ here.below.call_log
  pub recording : Recording
  pub log : record_spec.log_of recording ≡ here.below.call_log
  pub recorded : IsRecording recording
  pub events : length (heard_in recording.seen) ≡ heard

-- whether the last tick stopped the run, and after how many events; if not, it went as one without a number of ticks
abbrev pub WasStopped : AllSettings → Option ℕ → ℕ → Secure → Secure → List TraceEntry → RunResult → Option ℕ → Type 0
WasStopped s ticks turns old new trace result None = Execution (runs_on s None turns) trace (Return result)
WasStopped s ticks turns old new trace result (Some heard) =
    (first second : List TraceEntry) × (trace ≡ first ++ second)
    × StoppedHere s ticks turns old new first heard

-- the calls of a run to its end; the worlds have no log of the loop
pub record RanOver (a b : CallLogs) (s : AllSettings) (ticks : Option ℕ) (turns : ℕ) (old new : Secure)
    (engine : Engine) (finish : Finish) : Type 0 where
  pub history : History
  pub trace : List TraceEntry
  pub way : Execution (runs_on s ticks turns) trace (Return (lived history (end_of finish.end)))
  pub asked : LogsGrew a b trace
  pub answered : HasAnswered old new (loop_part trace)
  pub stopped : WasStopped s ticks turns old new trace (lived history (end_of finish.end)) finish.stopped_after
  pub at : IsAtEnd engine s history finish.end

-- the first calls of one
pub record BeganOver (a b : CallLogs) (s : AllSettings) (ticks : Option ℕ) (turns : ℕ) (old new : Secure)
    : Type 0 where
  pub trace : List TraceEntry
  pub left : Action RunResult
  pub way : Execution (runs_on s ticks turns) trace left
  pub asked : LogsGrew a b trace
  pub answered : HasAnswered old new (loop_part trace)

abbrev pub RunsOver : {E : Type 0} → CallLogs → CallLogs → AllSettings → Option ℕ → ℕ → Secure → Secure → Engine
    → Result Finish E → Type 0
RunsOver a b s ticks turns old new engine (Ok finish) = RanOver a b s ticks turns old new engine finish
RunsOver a b s ticks turns old new engine (Err e) = BeganOver a b s ticks turns old new

-- the same with the report
pub record ReportedOver (a b : CallLogs) (s : AllSettings) (ticks : Option ℕ) (turns : ℕ) (old new : Secure)
    (told : Told) : Type 0 where
  pub result : RunResult
  pub trace : List TraceEntry
  pub way : Execution (runs_on s ticks turns) trace (Return result)
  pub asked : LogsGrew a b trace
  pub answered : HasAnswered old new (loop_part trace)
  pub stopped : WasStopped s ticks turns old new trace result told.stopped_after
  pub reports : told.reported ≡ reported_by (report s result.history) result.end

abbrev pub ReportsOver : {E : Type 0} → CallLogs → CallLogs → AllSettings → Option ℕ → ℕ → Secure → Secure
    → Result Told E → Type 0
ReportsOver a b s ticks turns old new (Ok told) = ReportedOver a b s ticks turns old new told
ReportsOver a b s ticks turns old new (Err e) = BeganOver a b s ticks turns old new

-- ---- below a keyed loop

-- nothing was asked of it
pub record IsFresh (r : Recording) : Type 0 where
  pub seen : r.seen ≡ []
  pub unstopped : r.stopped ≡ false

-- the same by its log
pub record IsFreshLog (log : LoopLog) : Type 0 where
  pub recording : Recording
  pub fresh : IsFresh recording
  pub log_is : log ≡ record_spec.log_of recording

-- the run was stopped after so many events
pub record IsStoppedAfter (heard : ℕ) (calls : List LoopEntry) (seen : List Seen) : Type 0 where
  pub first : List Seen
  pub second : List Seen
  pub all : map Answered calls ≡ first ++ second
  pub events : length (heard_in first) ≡ heard
  pub is : seen ≡ first ++ Stopped ∷ second

abbrev pub IsSeenBy : Option ℕ → List LoopEntry → List Seen → Type 0
IsSeenBy None calls seen = seen ≡ map Answered calls
IsSeenBy (Some heard) calls seen = IsStoppedAfter heard calls seen

-- a run to its end, and what is below the keyed loop that was made for it
pub record RanBelow (a b : CallLogs) (s : AllSettings) (ticks : Option ℕ) (turns : ℕ) (reported : Reported)
    : Type 0 where
  pub result : RunResult
  pub trace : List TraceEntry
  pub way : Execution (runs_on s ticks turns) trace (Return result)
  pub answers : AreLoopAnswers (loop_part trace)
  pub below : List TraceEntry
  pub handshakes : Handshakes
  pub secured : IsSecured (keys_of s) no_handshakes trace below handshakes
  pub may_occur : AllMayOccur (loop_part below)
  pub asked : LogsGrew a b below
  pub reports : reported ≡ reported_by (report s result.history) result.end

-- with what a recorder saw
pub record SeenBelow (a b : CallLogs) (s : AllSettings) (ticks : Option ℕ) (turns : ℕ) (told : Told) : Type 0 where
  pub run : RanBelow a b s ticks turns told.reported
  pub seen : List Seen
  pub is_seen : IsSeen s ticks turns run.trace run.below run.handshakes seen
  pub seen_by : IsSeenBy told.stopped_after (loop_part run.below) seen

-- the first calls of one
pub record BeganBelow (a b : CallLogs) (s : AllSettings) (ticks : Option ℕ) (turns : ℕ) : Type 0 where
  pub trace : List TraceEntry
  pub left : Action RunResult
  pub way : Execution (runs_on s ticks turns) trace left
  pub answers : AreLoopAnswers (loop_part trace)
  pub below : List TraceEntry
  pub handshakes : Handshakes
  pub secured : IsSecured (keys_of s) no_handshakes trace below handshakes
  pub begun : List LoopEntry
  pub short : (begun ≡ []) ⊎ IsCutShort (keys_of s) handshakes begun
  pub asked : LogsGrew a b (below ++ map on_loop begun)

abbrev pub RunsBelow : {E : Type 0} → CallLogs → CallLogs → AllSettings → Option ℕ → ℕ → Result Told E → Type 0
RunsBelow a b s ticks turns (Ok told) = SeenBelow a b s ticks turns told
RunsBelow a b s ticks turns (Err e) = BeganBelow a b s ticks turns

-- ---- below a recorder

-- the schedule of what was seen, unless memory run out for it; a text can express it
abbrev pub IsScheduleOf : List Seen → List ℕ → Result Schedule Memory → Type 0
IsScheduleOf seen failed made =
    IfOk made (λ schedule. (schedule ≡ record { lives = recorded seen failed ∷ [] }) × IsWritable schedule)

-- whether a run that ended so has a report
abbrev pub is_reported : Ending → Bool
is_reported ending.Over = true
is_reported ending.TurnsSpent = true
is_reported ending.DiskFailed = false
is_reported ending.KeeperFailed = false
is_reported ending.LoopFailed = false
is_reported ending.Memory = false

-- what came of a run, unless memory was out below it
abbrev pub IsUnlessOut : Bool → Result Told Memory → Result Told Memory → Type 0
IsUnlessOut true outcome result = (e : Memory) × (result ≡ Err e)
IsUnlessOut false outcome result = result ≡ outcome

-- the run ended without a report
pub record IsFailure (told : Told) (reported : Reported) : Type 0 where
  pub is : reported ≡ told.reported
  pub none : is_reported told.reported.ending ≡ false

-- the run has a report, and its schedule was made
pub record IsKept (r : Recording) (failed : List ℕ) (told : Told) (reported : Reported)
    (made : Result Schedule Memory) : Type 0 where
  pub is : reported ≡ told.reported
  pub some : is_reported told.reported.ending ≡ true
  pub schedule : (calls : List LoopEntry) (seen : List Seen) → r.seen ≡ map Answered calls
      → IsSeenBy told.stopped_after calls seen → IsScheduleOf seen failed made

-- what comes of a run, by what the recorder saw and by the numbers of the disk calls that failed
abbrev pub ComesOf : Recording → List ℕ → Told → Ran → Type 0
ComesOf r failed told ran.NotRecordable = ⊥
ComesOf r failed told (ran.Unrecorded reported) = IsFailure told reported
ComesOf r failed told (ran.Recorded reported schedule) = IsKept r failed told reported schedule

-- memory was out in the recorder or elsewhere; or it wasn't
pub data ComesTo (r : Recording) (failed : List ℕ) (outcome : Result Told Memory) (ran2 : Ran) : Type 0 where
  IsLost : ran2 ≡ ran.Unrecorded out_of_memory → ComesTo r failed outcome ran2
  IsFound : (told : Told) → outcome ≡ Ok told → r.out_of_memory ≡ false → ComesOf r failed told ran2
      → ComesTo r failed outcome ran2

-- memory ran out: the loop may have been asked one wait more
pub record BeganRecorded (a b : CallLogs) (s : AllSettings) (ticks : Option ℕ) (turns : ℕ) : Type 0 where
  pub before : CallLogs
  pub begins : BeganBelow a before s ticks turns
  pub wait : LogsGrew before b []
      ⊎ ((until paused : ℕ) × (brought : Happening)
      × LogsGrew before b (on_loop (entry (Wait until paused) brought) ∷ []))

-- the run wasn't recorded
pub data WasUnrecorded (a b : CallLogs) (s : AllSettings) (ticks : Option ℕ) (turns : ℕ) (reported : Reported)
    : Type 0 where
  HasFailed : (run : RanBelow a b s ticks turns reported) → (HasReport run.result → ⊥)
      → WasUnrecorded a b s ticks turns reported
  WasOutOfMemory : BeganRecorded a b s ticks turns → reported ≡ out_of_memory
      → WasUnrecorded a b s ticks turns reported

-- It was recorded; `failed` has the numbers of the disk calls that failed.
pub record WasRecorded (a b : CallLogs) (s : AllSettings) (ticks : Option ℕ) (turns : ℕ) (endless : Bool)
    (failed : List ℕ) (reported : Reported) (made : Result Schedule Memory) : Type 0 where
  pub run : RanBelow a b s ticks turns reported
  pub ended : HasReport run.result
  pub seen : List Seen
  pub is_seen : IsSeen s ticks turns run.trace run.below run.handshakes seen
  pub allowed : AreAllowed endless (calls_of seen)
  pub new_links : AreNewLinks 0 (calls_of seen)
  pub schedule : IsScheduleOf seen failed made

abbrev pub RunsRecorded : CallLogs → CallLogs → AllSettings → Option ℕ → ℕ → Bool → List ℕ → Ran → Type 0
RunsRecorded a b s ticks turns endless failed ran.NotRecordable = ⊥
RunsRecorded a b s ticks turns endless failed (ran.Unrecorded reported) = WasUnrecorded a b s ticks turns reported
RunsRecorded a b s ticks turns endless failed (ran.Recorded reported schedule) =
    WasRecorded a b s ticks turns endless failed reported schedule

-- the same over a disk whose next call has this number
pub record CountsFailures (a b : CallLogs) (s : AllSettings) (ticks : Option ℕ) (turns : ℕ) (endless : Bool)
    (number : ℕ) (reported : Reported) (made : Result Schedule Memory) : Type 0 where
  pub failed : List ℕ
  pub was : WasRecorded a b s ticks turns endless failed reported made
  pub are : failed ≡ failed_from number (disk_part was.run.below)

abbrev pub RunsCounted : CallLogs → CallLogs → AllSettings → Option ℕ → ℕ → Bool → ℕ → Ran → Type 0
RunsCounted a b s ticks turns endless number ran.NotRecordable = ⊥
RunsCounted a b s ticks turns endless number (ran.Unrecorded reported) = WasUnrecorded a b s ticks turns reported
RunsCounted a b s ticks turns endless number (ran.Recorded reported schedule) =
    CountsFailures a b s ticks turns endless number reported schedule

-- ---- the end

abbrev pub end_finished : {E : Type 0} → Result Finish E → Result RunEnd E
end_finished (Ok finish) = Ok finish.end
end_finished (Err e) = Err e

abbrev pub finished : {E : Type 0} → Result RunEnd E → Option ℕ → Result Finish E
finished (Ok end) stopped = Ok (record { end = end; stopped_after = stopped })
finished (Err e) stopped = Err e

abbrev pub told_of : {E : Type 0} → Result Reported E → Option ℕ → Result Told E
told_of (Ok reported) stopped = Ok (record { reported = reported; stopped_after = stopped })
told_of (Err e) stopped = Err e

-- the least number of events of a run that ended so
abbrev pub heard_finished : {E : Type 0} → ℕ → Result Finish E → ℕ
heard_finished {E = E} most (Ok finish) = events_given {E = E} most (Ok finish.end)
heard_finished most (Err e) = 0

abbrev pub ending_told : {E : Type 0} → Result Told E → Ending
ending_told (Ok told) = told.reported.ending
ending_told (Err e) = ending.Memory
