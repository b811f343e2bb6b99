-- A run of the engine, from its start to its end.
use Rattle.std.specs.Prelude.{ℕ, zero, suc, ◌+◌, ◌*◌, ◌==◌, ◌&&◌, ◌||◌, nat_le, Bool, true, false, if◌then◌else◌, [], Option, Some, None, is_none}
use Rattle.fwd_base.specs.Limits.{longest_wait}
use Rattle.fwd_outside.specs.Program.{Return, Ask, bind}
use Rattle.fwd_outside.specs.Loop.{Start, Wait}
use Rattle.fwd_outside.specs.declared.ends.Ends.{Ends}
use Rattle.fwd_outside.specs.declared.happening.Happening.{Happening}
use Rattle.fwd_outside.specs.declared.happening.Happening.TheVariants as happening
use Rattle.fwd_settings.specs.declared.settings_types.AllSettings.{AllSettings}
use Rattle.fwd_model.specs.Fact.{History}
use Rattle.fwd_model.specs.Trace.{Action, OnLoop}
use Rattle.fwd_model.specs.Settings.{saturating_plus}
use Rattle.fwd_model.specs.Clock.{clock, stopped, tick_count}
use Rattle.fwd_model.specs.Routes.{rows_of}
use Rattle.fwd_model.specs.Limits.{paused}
use Rattle.fwd_model.specs.Notes.{is_empty}
use Rattle.fwd_model.specs.StepActions.{step}
use Rattle.fwd_model.specs.RecoveryActions.{recovers}
use Rattle.fwd_model.specs.KeptOffsets.{tracked, gets, puts}

abbrev pub is_tick : Happening → Bool
is_tick (happening.Tick now) = true
is_tick _ = false

abbrev pub is_end : Happening → Bool
is_end happening.End = true
is_end _ = false

-- whether so many seconds have passed since Stop
abbrev pub is_grace_over : AllSettings → ℕ → History → Bool
is_grace_over s at h = nat_le (at + 1000 * s.service.grace_s) (clock h)

abbrev pub is_over_after : AllSettings → Happening → Option ℕ → History → Bool
is_over_after s happened None h = is_end happened
is_over_after s happened (Some at) h =
    is_end happened || (is_empty (rows_of s h) || (is_tick happened && is_grace_over s at h))

-- The run is over at End; after Stop it is over once nothing is pending, and at a tick once the grace time
-- has passed.
unfoldable pub is_over : AllSettings → Happening → History → Bool
is_over s happened h = is_over_after s happened (stopped s h) h

-- how a run ended, or that it used up its turns
pub data End : Type 0 where
  Over : End
  DiskFailed : End
  KeeperFailed : End
  LoopFailed : End
  TurnsSpent : End

pub record RunResult : Type 0 where
  pub history : History
  pub end : End

abbrev pub lived : History → End → RunResult
lived h end = record { history = h; end = end }

abbrev pub goes_on : AllSettings → (History → Action RunResult) → Happening → History → Action RunResult
goes_on s next happened h = if is_over s happened h then Return (lived h Over) else next h

-- a step, and then what follows unless the run is over
abbrev pub steps_on : AllSettings → (History → Action RunResult) → Happening → History → Action RunResult
steps_on s next happens h = bind (step s happens h) (goes_on s next happens)

-- whether a tick was the last one, if their number is given and the run isn't stopped yet
abbrev pub is_last_tick : AllSettings → Option ℕ → Happening → History → Bool
is_last_tick s None happened h = false
is_last_tick s (Some ticks) happened h = is_tick happened && (tick_count h == ticks && is_none (stopped s h))

-- after the last tick the run stops, without waiting for that event
abbrev pub unless_last : AllSettings → Option ℕ → (History → Action RunResult) → Happening → History
    → Action RunResult
unless_last s ticks next happened h =
    if is_last_tick s ticks happened h then steps_on s next happening.Stop h else next h

-- what follows the step of a turn: offsets are put, and the run goes on unless it is over
abbrev pub after_step : AllSettings → Option ℕ → (History → Action RunResult) → Happening → History
    → Action RunResult
after_step s ticks next happens h =
    puts s (tracked s) (goes_on s (unless_last s ticks next happens) happens) h

-- at an event of the loop: the step, and then what follows it
abbrev pub brought : AllSettings → Option ℕ → (History → Action RunResult) → History → Happening
    → Action RunResult
brought s ticks next h happening.Failed = Return (lived h LoopFailed)
brought s ticks next h happens = bind (step s happens h) (after_step s ticks next happens)

-- Run at most so many turns. Each waits for an event, until `longest_wait` milliseconds after the clock.
unfoldable pub run : AllSettings → Option ℕ → ℕ → History → Action RunResult
run s ticks zero h = Return (lived h TurnsSpent)
run s ticks (suc turns) h =
    Ask (OnLoop (Wait (saturating_plus (clock h) longest_wait) (paused s h)))
    (brought s ticks (run s ticks turns) h)

abbrev pub after_start : AllSettings → Option ℕ → ℕ → History → Option (Unit {0}) → Action RunResult
after_start s ticks turns h None = Return (lived h LoopFailed)
after_start s ticks turns h (Some ready) = run s ticks turns h

-- the start of the loop
abbrev pub starts : AllSettings → Ends → Option ℕ → ℕ → History → Action RunResult
starts s ends ticks turns h = Ask (OnLoop (Start ends)) (after_start s ticks turns h)

-- what follows recovery: the offsets of followed files are got, and the loop starts
abbrev pub after_recovery : AllSettings → Ends → Option ℕ → ℕ → Option History → Action RunResult
after_recovery s ends ticks turns None = Return (lived [] DiskFailed)
after_recovery s ends ticks turns (Some h) =
    gets s (tracked s) (λ now. Return (lived now KeeperFailed)) (starts s ends ticks turns) h

-- A run of at most so many turns. If a number of ticks is given, the run stops after the last of them; that
-- step isn't a turn.
unfoldable pub life : AllSettings → Ends → Option ℕ → ℕ → Action RunResult
life s ends ticks turns = bind (recovers s) (after_recovery s ends ticks turns)
