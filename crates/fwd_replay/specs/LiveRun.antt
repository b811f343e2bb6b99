-- The outcome of a live run over devices.
use Rattle.std.specs.Prelude.{◌≡◌, ◌⊎◌, ℕ, ◌+◌, ◌/◌, List, [], ◌++◌, map, Option, Result, Ok, Err, MatchResult, if◌then◌else◌}
use Rattle.fwd_outside.specs.Program.{Return, Execution}
use Rattle.fwd_outside.specs.Loop.{LoopEntry}
use Rattle.fwd_outside.specs.LoopAnswers.{AreLoopAnswers}
use Rattle.fwd_settings.specs.Endpoints.{ends_of}
use Rattle.fwd_settings.specs.declared.settings_types.AllSettings.{AllSettings}
use Rattle.fwd_model.specs.Fact.{History}
use Rattle.fwd_model.specs.Trace.{Action, TraceEntry, loop_part}
use Rattle.fwd_model.specs.CallLogs.{CallLogs, LogsGrew, Completes, IsBegun}
use Rattle.fwd_model.specs.Run.{RunResult, life}
use Rattle.fwd_theorem_trace.specs.Allowed.{IsLoading}
use Rattle.fwd_engine_run.specs.EngineSteps.{IsAt}
use Rattle.fwd_engine_run.specs.Engine.{Engine}
use Rattle.fwd_engine_run.specs.OffsetRows.{Keeps}
use Rattle.fwd_secure.specs.Allowed.{AllMayOccur}
use Rattle.fwd_secure.specs.Handshakes.{Handshakes, no_handshakes}
use Rattle.fwd_secure.specs.Carried.{IsCutShort}
use Rattle.fwd_secure.specs.Keys.{has_keys}
use Rattle.fwd_secure_settings.specs.Keys.{keys_of}
use Rattle.fwd_secure_trace.specs.Secured.{IsSecured, on_loop}
use Rattle.fwd_replay.specs.Names.{IsNamed}
use Rattle.fwd_replay.specs.declared.setup.Setup.{Setup}
use Rattle.fwd_replay.specs.Text.{report, reported_by, out_of_memory}
use Rattle.fwd_replay.specs.declared.report.Reported.{Reported}
use Rattle.fwd_replay.specs.declared.report.Ending.{Ending}
use Rattle.fwd_replay.specs.declared.report.Ending.TheVariants as ending

-- The engine had this trace, which is one of the reference model to its end; the calls on the devices, in a
-- call log or not, were those that the keyed loop made of it; each event that came may occur; and the text
-- is the report of its history.
pub record RunsToEnd (s : AllSettings) (ticks : Option ℕ) (turns : ℕ) (old new : CallLogs)
    (reported : Reported) : Type 0 where
  pub lived : RunResult
  pub trace : List TraceEntry
  pub way : Execution (life s (ends_of s) ticks turns) trace (Return lived)
  pub answers : AreLoopAnswers (loop_part trace)
  pub below : List TraceEntry
  pub handshakes : Handshakes
  pub secured : IsSecured (keys_of s) no_handshakes trace below handshakes
  pub allowed : AllMayOccur (loop_part below)
  pub asked : LogsGrew old new below
  pub reports : reported ≡ reported_by (report s lived.history) lived.end

-- It had the first calls of the reference model, and after those of the keyed loop for them came, at most,
-- the first ones of one more rule.
pub record BeginsRun (s : AllSettings) (ticks : Option ℕ) (turns : ℕ) (old new : CallLogs) : Type 0 where
  pub trace : List TraceEntry
  pub left : Action RunResult
  pub way : Execution (life s (ends_of s) ticks turns) trace left
  pub answers : AreLoopAnswers (loop_part trace)
  pub below : List TraceEntry
  pub handshakes : Handshakes
  pub secured : IsSecured (keys_of s) no_handshakes trace below handshakes
  pub begun : List LoopEntry
  pub short : (begun ≡ []) ⊎ IsCutShort (keys_of s) handshakes begun
  pub asked : LogsGrew old new (below ++ map on_loop begun)

-- the calls were those of a run to its end, and the text is the report of its history
pub record HasRun (s : AllSettings) (run : Action RunResult) (old new : CallLogs)
    (reported : Reported) : Type 0 where
  pub lived : RunResult
  pub did : Completes old new run lived
  pub reports : reported ≡ reported_by (report s lived.history) lived.end

-- to its end; or, if memory ran out, its first calls, and then the text is empty
pub data IsRunLive (s : AllSettings) (ticks : Option ℕ) (turns : ℕ) (old new : CallLogs)
    (reported : Reported) : Type 0 where
  RanToEnd : RunsToEnd s ticks turns old new reported → IsRunLive s ticks turns old new reported
  RanOutOfMemory : BeginsRun s ticks turns old new → reported ≡ out_of_memory
      → IsRunLive s ticks turns old new reported

-- The same over any loop that isn't keyed, of which the engine asks what it asks. With a keyed loop
-- between, it is this of the keyed loop.
pub data IsRunOver (s : AllSettings) (ticks : Option ℕ) (turns : ℕ) (old new : CallLogs)
    (reported : Reported) : Type 0 where
  WasOver : HasRun s (life s (ends_of s) ticks turns) old new reported
      → IsRunOver s ticks turns old new reported
  WasCutShort : IsBegun old new (life s (ends_of s) ticks turns) → reported ≡ out_of_memory
      → IsRunOver s ticks turns old new reported

-- the least number of events of a run that ended this way
abbrev pub heard_in : ℕ → Ending → ℕ
heard_in most ending.TurnsSpent = most
heard_in most ending.Over = 0
heard_in most ending.DiskFailed = 0
heard_in most ending.KeeperFailed = 0
heard_in most ending.LoopFailed = 0
heard_in most ending.Memory = 0

-- what a run with these settings is made with: their names, their endpoints and the offsets that they keep
pub record IsSetup (settings : AllSettings) (setup : Setup) : Type 0 where
  pub named : IsNamed setup.named settings
  pub ends : setup.ends ≡ ends_of settings
  pub keeps : Keeps settings setup.offsets []

-- an engine that has begun, with the settings of these names and of these rows
pub record IsToRun (setup : Setup) (engine : Engine) : Type 0 where
  pub settings : AllSettings
  pub history : History
  pub at : IsAt engine settings history
  pub loading : IsLoading history
  pub keeps : Keeps settings setup.offsets []
  pub is : IsNamed setup.named settings

-- to its end, or to where memory ran out
abbrev pub ActionProduces : {E : Type 0} → AllSettings → Action RunResult → CallLogs → CallLogs
    → Result Reported E → Type 0
ActionProduces s run old new result =
    MatchResult result (λ reported. HasRun s run old new reported) (λ _. IsBegun old new run)

-- the same for a run from its loading on
abbrev pub RunProduces : {E : Type 0} → AllSettings → Option ℕ → ℕ → CallLogs → CallLogs → Result Reported E
    → Type 0
RunProduces s ticks turns old new result = ActionProduces s (life s (ends_of s) ticks turns) old new result

-- The least number of events of the loop below, for so many of the keyed loop: one of them becomes at most
-- two.
abbrev pub events_below : AllSettings → ℕ → ℕ
events_below s n = if has_keys (keys_of s) then (n + 1) / 2 else n

abbrev pub ending_of : {E : Type 0} → Result Reported E → Ending
ending_of (Ok reported) = reported.ending
ending_of (Err e) = ending.Memory
