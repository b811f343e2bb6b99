-- The step of an event, the stop, and the runs that follow.
use Rattle.std.proofs.Common.{arith, ◌≡◌, ℕ, suc, ◌+◌, ◌-◌, ◌<◌, ◌≤◌, Bool, true, false, Option, Result, Ok, Err, refl, subst}
use Rattle.fwd_outside.specs.Program.{Return, bind}
use Rattle.fwd_outside.specs.declared.happening.Happening.{Happening}
use Rattle.fwd_outside.specs.declared.happening.Happening.TheVariants as happening
use Rattle.fwd_settings.specs.declared.settings_types.AllSettings.{AllSettings}
use Rattle.fwd_model.specs.Fact.{History}
use Rattle.fwd_model.specs.Trace.{Action}
use Rattle.fwd_model.specs.CallLogs.{CallLogs, Leads}
use Rattle.fwd_model.proofs.Actions.{goes_on as leads_on, leads_inside, begun_bind, begun_trans}
use Rattle.fwd_model.specs.StepActions.{step}
use Rattle.fwd_model.specs.Run.{RunResult, lived, LoopFailed, TurnsSpent, goes_on, steps_on, after_step, brought, run, is_over}
use Rattle.fwd_engine_run.proofs.StepOffsets.{step_keeps_offsets}
use Rattle.fwd_engine.specs.EngineSteps.{Stepped, Steps, is_failed, as_turn}
use Rattle.fwd_engine.specs.declared.engine.Engine.{Engine}
use Rattle.fwd_engine.specs.declared.engine.EngineStop.{EngineStop}
use Rattle.fwd_engine.specs.declared.engine.EngineStop.TheVariants as stop
use Rattle.fwd_engine.specs.declared.engine.Turn.{Turn}
use Rattle.fwd_engine.specs.declared.engine.Turn.TheVariants as turn
use Rattle.fwd_engine_run.specs.OffsetRows.{Keeps}
use Rattle.fwd_engine_run.specs.RunOutcome.{RunContinues, RunOutcome}
use Rattle.fwd_engine_run.specs.declared.kept_offsets.KeptOffsets.{KeptOffsets}
use Rattle.fwd_engine_run.specs.declared.run_loop.RunEnd.{RunEnd}
use Rattle.fwd_engine_run.proofs.Rows.{keeps_same}

pub brought_is : (s : AllSettings) (ticks : Option ℕ) (next : History → Action RunResult) (h : History) (x : Happening) → is_failed x ≡ false → brought s ticks next h x ≡ bind (step s x h) (after_step s ticks next x)
brought_is s ticks next h happening.Failed is = absurd (cc is)
brought_is s ticks next h happens is = refl

pub failed_is : (s : AllSettings) (ticks : Option ℕ) (next : History → Action RunResult) (h : History) (x : Happening) → is_failed x ≡ true → brought s ticks next h x ≡ Return (lived h LoopFailed)
failed_is s ticks next h happening.Failed is = refl
failed_is s ticks next h happens is = absurd (cc is)

pub over_is : (b : Bool) → turn.Over ≡ as_turn b → b ≡ true
over_is true is = refl
over_is false is = absurd (cc is)

pub more_is : (b : Bool) → turn.More ≡ as_turn b → b ≡ false
more_is true is = absurd (cc is)
more_is false is = refl

-- a step changes no offset that the database has
pub keeps_stepped : {a b : CallLogs} (s : AllSettings) (offsets : KeptOffsets) (h : History) (x : Happening) (after : Engine) (which : Turn) (stepped : Stepped a b s h x after which) → Keeps s offsets h → Keeps s offsets stepped.history
keeps_stepped s offsets h x after which stepped keeps = keeps_same s offsets h stepped.history (step_keeps_offsets s x h stepped.history stepped.did.entries stepped.did.way) keeps

-- the step of `Stop`, and what follows it
module _ (a b : CallLogs) (s : AllSettings) (h : History) (next : History → Action RunResult) (after : Engine) (offsets : KeptOffsets) (keeps : Keeps s offsets h) where
  stopped_on : (which : Turn) (steps : Steps a b s h happening.Stop after (Ok which)) → Leads a b (steps_on s next happening.Stop h) (goes_on s next happening.Stop steps.1.history)
  stopped_on which steps = leads_inside (goes_on s next happening.Stop) steps.1.did

  pub stop_goes : (result : Result Turn EngineStop) → Steps a b s h happening.Stop after result → RunContinues a b s (steps_on s next happening.Stop h) next after offsets result
  stop_goes (Ok turn.More) steps =
      let is : is_over s happening.Stop steps.1.history ≡ false = more_is (is_over s happening.Stop steps.1.history) steps.1.over in
      (steps.1.history, steps.1.at, keeps_stepped s offsets h happening.Stop after turn.More steps.1 keeps, subst (λ (p : Action RunResult). Leads a b (steps_on s next happening.Stop h) p) (rw is refl) (stopped_on turn.More steps))
  stop_goes (Ok turn.Over) steps =
      let is : is_over s happening.Stop steps.1.history ≡ true = over_is (is_over s happening.Stop steps.1.history) steps.1.over in
      (steps.1.history, steps.1.at, subst (λ (p : Action RunResult). Leads a b (steps_on s next happening.Stop h) p) (rw is refl) (stopped_on turn.Over steps))
  stop_goes (Err stop.LoopFault) steps = absurd (cc steps.0)
  stop_goes (Err stop.Memory) steps = begun_bind (goes_on s next happening.Stop) steps.1

-- one turn less is left
pub left : (most counter : ℕ) → counter < most → most - counter ≡ suc (most - (counter + 1))
left most counter more = grind arith

pub none_left : (most counter : ℕ) → most ≤ counter → most - counter ≡ 0
none_left most counter none = grind arith

pub spent : (s : AllSettings) (ticks : Option ℕ) (h : History) → run s ticks 0 h ≡ Return (lived h TurnsSpent)
unfolding run
spent s ticks h = refl

-- calls, and then a run that continues from their result
pub runs_after : {E : Type 0} (a b c : CallLogs) (s : AllSettings) (p q : Action RunResult) (after : Engine) (result : Result RunEnd E) → Leads a b p q → RunOutcome b c s q after result → RunOutcome a c s p after result
runs_after a b c s p q after (Ok end) f g = record { history = g.history; did = leads_on f g.did; at = g.at }
runs_after a b c s p q after (Err e) f g = begun_trans f g
