-- A run that stopped after its last tick, and the same run with a Stop of the loop in its place.
use Rattle.std.specs.Prelude.{◌≡◌, ℕ, ◌+◌, List, [], ◌∷◌, ◌++◌, None}
use Rattle.fwd_base.specs.Limits.{longest_wait}
use Rattle.fwd_outside.specs.Program.{entry, Return, Execution}
use Rattle.fwd_outside.specs.Loop.{Wait}
use Rattle.fwd_outside.specs.declared.ends.Ends.{Ends}
use Rattle.fwd_outside.specs.declared.happening.Happening.TheVariants as happening
use Rattle.fwd_settings.specs.declared.settings_types.AllSettings.{AllSettings}
use Rattle.fwd_model.specs.Fact.{History}
use Rattle.fwd_model.specs.Trace.{TraceEntry, OnLoop, history_after}
use Rattle.fwd_model.specs.Settings.{saturating_plus}
use Rattle.fwd_model.specs.Clock.{clock, stopped}
use Rattle.fwd_model.specs.Limits.{paused}
use Rattle.fwd_model.specs.Run.{RunResult, life}

-- a wait that returns Stop
abbrev pub wait_for_stop : AllSettings → History → TraceEntry
wait_for_stop s h =
    entry (OnLoop (Wait (saturating_plus (clock h) longest_wait) (paused s h))) happening.Stop

-- The calls up to the last tick, and those after it. A run without a number of ticks makes the same calls if
-- the loop brings Stop between them. That Stop is a turn.
pub record StopsAfterTicks (s : AllSettings) (ends : Ends) (turns : ℕ) (trace : List TraceEntry)
    (result : RunResult) : Type 0 where
  pub first : List TraceEntry
  pub second : List TraceEntry
  pub is : trace ≡ first ++ second
  pub unstopped : stopped s (history_after first []) ≡ None
  pub same : Execution (life s ends None (turns + 1))
      (first ++ wait_for_stop s (history_after first []) ∷ second) (Return result)
