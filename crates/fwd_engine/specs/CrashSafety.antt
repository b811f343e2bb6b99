-- Crash safety of the calls of an engine: what a crash may leave at each crash point.
use Rattle.std.specs.Prelude.{◌≡◌, [], List, Option, Some, None, Result, Ok, Err}
use Rattle.fwd_outside.specs.Program.{Return, Execution}
use Rattle.fwd_outside.specs.AtCrashPoints.{AtCrashPoints, Ends}
use Rattle.fwd_outside.specs.declared.happening.Happening.{Happening}
use Rattle.fwd_outside.specs.DiskStates.{Files}
use Rattle.fwd_settings.specs.declared.settings_types.AllSettings.{AllSettings}
use Rattle.fwd_model.specs.Fact.{History}
use Rattle.fwd_model.specs.Trace.{Action, TraceEntry}
use Rattle.fwd_model.specs.CallLogs.{CallLogs, LogsGrew}
use Rattle.fwd_model.specs.RecoveryActions.{recovers}
use Rattle.fwd_model.specs.StepActions.{step}
use Rattle.fwd_theorem_trace.specs.Past.{logged}
use Rattle.fwd_theorem_crash.specs.CrashPoint.{CrashPoint, crash_point, LeadsTo}
use Rattle.fwd_theorem_crash.specs.Safety.{IsSafe}
use Rattle.fwd_theorem_crash.specs.StepBoundaries.{HasReached, turn}
use Rattle.fwd_engine.specs.EngineSteps.{IsAt}
use Rattle.fwd_engine.specs.declared.engine.Engine.{Engine}
use Rattle.fwd_engine.specs.declared.engine.BeginErr.{BeginErr}
use Rattle.fwd_engine.specs.declared.engine.BeginErr.TheVariants as begin_err
use Rattle.fwd_engine.specs.declared.engine.EngineStop.{EngineStop}
use Rattle.fwd_engine.specs.declared.engine.EngineStop.TheVariants as stop
use Rattle.fwd_engine.specs.declared.engine.Turn.{Turn}

-- a run that began with these files has come to this crash point, and the engine represents its history
pub record IsAtCrashPoint (s : AllSettings) (first : Files) (engine : Engine) (m : CrashPoint) : Type 0 where
  pub come : HasReached s first m
  pub at : IsAt engine s (logged m.past)

-- Between the two worlds the devices made the first calls of an action, from this point of a run on. At
-- each crash point, inside a disk call too, the post-crash state is safe. After the calls the last
-- condition holds.
pub record IsCrashSafeUpTo {R : Type 0} (a b : CallLogs) (s : AllSettings) (first : Files) (m : CrashPoint)
    (act left : Action R) (Behind : CrashPoint → Type 0) : Type 0 where
  pub entries : List TraceEntry
  pub asked : LogsGrew a b entries
  pub way : Execution act entries left
  pub safe : AtCrashPoints LeadsTo (IsSafe s first) m entries
  pub behind : (end : CrashPoint) → Ends LeadsTo m entries end → Behind end

abbrev NoCondition : CrashPoint → Type 0
NoCondition end = Unit {0}

-- a completed action, after which the engine represents its history
abbrev pub CompletesCrashSafely : CallLogs → CallLogs → AllSettings → Files → CrashPoint → Action History
    → Engine → Type 0
CompletesCrashSafely a b s first m act after =
    (h : History) × IsCrashSafeUpTo a b s first m act (Return h) (IsAtCrashPoint s first after)

-- the beginning of an action
abbrev pub BeganCrashSafely : {R : Type 0} → CallLogs → CallLogs → AllSettings → Files → CrashPoint → Action R
    → Type 0
BeganCrashSafely {R = R} a b s first m act =
    (left : Action R) × IsCrashSafeUpTo a b s first m act left NoCondition

-- the loading at the start of a run, by its result
abbrev pub BeginIsCrashSafe : CallLogs → CallLogs → AllSettings → Files → Result Engine BeginErr → Type 0
BeginIsCrashSafe a b s first (Ok engine) =
    (h : History)
    × IsCrashSafeUpTo a b s first (crash_point [] first) (recovers s) (Return (Some h))
    (IsAtCrashPoint s first engine)
BeginIsCrashSafe a b s first (Err begin_err.DiskFault) =
    IsCrashSafeUpTo a b s first (crash_point [] first) (recovers s) (Return None) NoCondition
BeginIsCrashSafe a b s first (Err begin_err.Memory) =
    BeganCrashSafely a b s first (crash_point [] first) (recovers s)

-- a step, by its result; if the loop has failed, no call is made and nothing changes
abbrev pub StepIsCrashSafe : CallLogs → CallLogs → AllSettings → Files → CrashPoint → Happening → Engine
    → Result Turn EngineStop → Type 0
StepIsCrashSafe a b s first m brought after (Ok turn) =
    CompletesCrashSafely a b s first m (step s brought (logged m.past)) after
StepIsCrashSafe a b s first m brought after (Err stop.LoopFault) = (b ≡ a) × IsAtCrashPoint s first after m
StepIsCrashSafe a b s first m brought after (Err stop.Memory) =
    BeganCrashSafely a b s first m (step s brought (logged m.past))

-- a turn, by its result
abbrev pub TurnIsCrashSafe : CallLogs → CallLogs → AllSettings → Files → CrashPoint → Engine
    → Result Turn EngineStop → Type 0
TurnIsCrashSafe a b s first m after (Ok answer) = CompletesCrashSafely a b s first m (turn s (logged m.past)) after
TurnIsCrashSafe a b s first m after (Err stop.LoopFault) = CompletesCrashSafely a b s first m (turn s (logged m.past)) after
TurnIsCrashSafe a b s first m after (Err stop.Memory) = BeganCrashSafely a b s first m (turn s (logged m.past))
