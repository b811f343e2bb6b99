-- The points of a run at which no step is in progress.
use Rattle.std.specs.Prelude.{List, [], ◌∷◌, Option, Some}
use Rattle.fwd_base.specs.Limits.{longest_wait}
use Rattle.fwd_outside.specs.Program.{entry, Return, Ask, Execution}
use Rattle.fwd_outside.specs.AtCrashPoints.{Ends}
use Rattle.fwd_outside.specs.Loop.{LoopCall, Start, Wait}
use Rattle.fwd_outside.specs.declared.ends.Ends.{Ends as InputEnds}
use Rattle.fwd_outside.specs.declared.happening.Happening.{Happening}
use Rattle.fwd_outside.specs.declared.happening.Happening.TheVariants as happening
use Rattle.fwd_outside.specs.DiskStates.{Files}
use Rattle.fwd_settings.specs.declared.settings_types.AllSettings.{AllSettings}
use Rattle.fwd_model.specs.Fact.{Fact, History, Resumed, Saved}
use Rattle.fwd_model.specs.Trace.{Call, Answer, Action, TraceEntry, OnLoop, OnDisk, OnFiles, OnKeeper, Note}
use Rattle.fwd_model.specs.Settings.{saturating_plus}
use Rattle.fwd_model.specs.Clock.{clock}
use Rattle.fwd_model.specs.Limits.{paused}
use Rattle.fwd_model.specs.RecoveryActions.{recovers}
use Rattle.fwd_model.specs.StepActions.{step}
use Rattle.fwd_theorem_trace.specs.Past.{logged}
use Rattle.fwd_theorem_trace.specs.Allowed.{EventAllowed, IsAllowed}
use Rattle.fwd_theorem_crash.specs.CrashPoint.{CrashPoint, crash_point, LeadsTo}

-- the wait of a turn
abbrev pub wait_at : AllSettings → History → LoopCall
wait_at s h = Wait (saturating_plus (clock h) longest_wait) (paused s h)

-- the event is stepped, unless the loop failed
abbrev pub takes_event : AllSettings → History → Happening → Action History
takes_event s h happening.Failed = Return h
takes_event s h brought = step s brought h

-- a turn, without the puts of offsets after it
abbrev pub turn : AllSettings → History → Action History
turn s h = Ask (OnLoop (wait_at s h)) (takes_event s h)

-- a fact about an offset that the offset database gave or took
abbrev pub IsOffsetFact : Fact → Type 0
IsOffsetFact (Resumed input index place) = Unit {0}
IsOffsetFact (Saved input index place) = Unit {0}
IsOffsetFact fact = ⊥

-- a get or put of an offset, or a fact about one
abbrev pub IsOffsetCall : Call → Type 0
IsOffsetCall (OnLoop call) = ⊥
IsOffsetCall (OnDisk call) = ⊥
IsOffsetCall (OnFiles call) = ⊥
IsOffsetCall (OnKeeper call) = Unit {0}
IsOffsetCall (Note fact) = IsOffsetFact fact

-- A run that began with these files has reached a point: it has loaded the recovered files; or, from an
-- earlier such point, it got or put an offset, or logged a fact about one; or it started the loop or
-- waited; or it made the step of the event that the wait returned, or of the first `Stop`, to its end.
pub data HasReached (s : AllSettings) (first : Files) : CrashPoint → Type 0 where
  IsLoaded : (entries : List TraceEntry) (h : History) (m : CrashPoint)
      → Execution (recovers s) entries (Return (Some h)) → Ends LeadsTo (crash_point [] first) entries m
      → HasReached s first m
  HasKept : (before m : CrashPoint) (call : Call) (answer : Answer call) → IsOffsetCall call
      → HasReached s first before → IsAllowed s call before.past
      → Ends LeadsTo before (entry call answer ∷ []) m → HasReached s first m
  HasStarted : (before m : CrashPoint) (ends : InputEnds) (ready : Option (Unit {0}))
      → HasReached s first before → Ends LeadsTo before (entry (OnLoop (Start ends)) ready ∷ []) m
      → HasReached s first m
  HasWaited : (before m : CrashPoint) (brought : Happening) → HasReached s first before
      → Ends LeadsTo before (entry (OnLoop (wait_at s (logged before.past))) brought ∷ []) m
      → HasReached s first m
  HasStepped : (before m : CrashPoint) (brought : Happening) (entries : List TraceEntry) (h : History)
      → HasReached s first before → EventAllowed s brought before.past
      → Execution (step s brought (logged before.past)) entries (Return h) → Ends LeadsTo before entries m
      → HasReached s first m
