-- The calls of an engine, with the post-crash state at each crash point.
use Rattle.std.proofs.Common.{◌≡◌, Bool, true, false, List, [], Option, Some, None, Result, Ok, Err, inl, inr, refl, sym, ◌∙◌, subst}
use Rattle.fwd_outside.specs.Program.{Return, Execution}
use Rattle.fwd_outside.specs.AtCrashPoints.{AtCrashPoints, Ends}
use Rattle.fwd_outside.specs.declared.happening.Happening.{Happening}
use Rattle.fwd_outside.specs.declared.happening.Happening.TheVariants as happening
use Rattle.fwd_outside.specs.DiskStates.{Files}
use Rattle.fwd_backlog.specs.Recovered.{AreDurable}
use Rattle.fwd_settings.specs.declared.settings_types.AllSettings.{AllSettings}
use Rattle.fwd_settings.specs.Requirements.{MeetsRequirements}
use Rattle.fwd_model.specs.Fact.{History}
use Rattle.fwd_model.specs.Trace.{Action, TraceEntry}
use Rattle.fwd_model.specs.CallLogs.{CallLogs, Leads, Completes, IsBegun}
use Rattle.fwd_model.specs.RecoveryActions.{recovers}
use Rattle.fwd_model.specs.StepActions.{step}
use Rattle.fwd_model.proofs.Actions.{stays, leads_bind, begun_bind}
use Rattle.fwd_theorem_trace.specs.Past.{logged}
use Rattle.fwd_theorem_trace.specs.Allowed.{EventAllowed}
use Rattle.fwd_theorem_crash.specs.CrashPoint.{CrashPoint, crash_point, LeadsTo}
use Rattle.fwd_theorem_crash.specs.Safety.{IsSafe}
use Rattle.fwd_theorem_crash.specs.StepBoundaries.{HasReached, IsLoaded, HasStepped, takes_event, turn}
use Rattle.fwd_theorem_crash.proofs.StepBoundaries.{step_safe, step_noted, loading_safe, loading_noted, turn_safe, turn_come}
use Rattle.fwd_engine.specs.EngineSteps.{IsAt, BeginOutcome, Steps, TurnOutcome, WaitOutcome, is_failed, waits}
use Rattle.fwd_engine.specs.CrashSafety.{IsAtCrashPoint, IsCrashSafeUpTo, BeginIsCrashSafe, StepIsCrashSafe, TurnIsCrashSafe}
use Rattle.fwd_engine.specs.declared.engine.Engine.{Engine}
use Rattle.fwd_engine.specs.declared.engine.BeginErr.{BeginErr}
use Rattle.fwd_engine.specs.declared.engine.BeginErr.TheVariants as begin_err
use Rattle.fwd_engine.specs.declared.engine.EngineStop.{EngineStop}
use Rattle.fwd_engine.specs.declared.engine.EngineStop.TheVariants as stop
use Rattle.fwd_engine.specs.declared.engine.Turn.{Turn}

-- calls of an action that is safe at each of its crash points
goes : {R : Type 0} (a b : CallLogs) (s : AllSettings) (first : Files) (m : CrashPoint) (act left : Action R) (Behind : CrashPoint → Type 0) (leads : Leads a b act left)
    → AtCrashPoints LeadsTo (IsSafe s first) m leads.entries → ((end : CrashPoint) → Ends LeadsTo m leads.entries end → Behind end) → IsCrashSafeUpTo a b s first m act left Behind
goes a b s first m act left Behind leads safe behind = record { entries = leads.entries; asked = leads.asked; way = leads.way; safe = safe; behind = behind }

module _ (s : AllSettings) (settings : MeetsRequirements s) (full : s.service.full ≡ true) (first : Files) (fresh : AreDurable first) where
  loads_safely : (a b : CallLogs) (left : Action (Option History)) (Behind : CrashPoint → Type 0) (leads : Leads a b (recovers s) left) → ((end : CrashPoint) → Ends LeadsTo (crash_point [] first) leads.entries end → Behind end)
      → IsCrashSafeUpTo a b s first (crash_point [] first) (recovers s) left Behind
  loads_safely a b left Behind leads behind =
      goes a b s first (crash_point [] first) (recovers s) left Behind leads (loading_safe s settings full first fresh leads.entries left leads.way) behind

  pub begins_safely : (a b : CallLogs) (result : Result Engine BeginErr) → BeginOutcome a b s result → BeginIsCrashSafe a b s first result
  begins_safely a b (Ok engine) begins = (
    begins.history,
    loads_safely a b (Return (Some begins.history)) (IsAtCrashPoint s first engine) begins.did
        (λ end led. record {
          come = IsLoaded begins.did.entries begins.history end begins.did.way led;
          at = subst (IsAt engine s) (loading_noted s settings full first fresh end begins.did.entries begins.history begins.did.way led) begins.at;
        }),
  )
  begins_safely a b (Err begin_err.DiskFault) did = loads_safely a b (Return None) (λ _. Unit {0}) did (λ end led. tt)
  begins_safely a b (Err begin_err.Memory) began = (began.0, loads_safely a b began.0 (λ _. Unit {0}) began.1 (λ end led. tt))

  module _ (a b : CallLogs) (m : CrashPoint) (come : HasReached s first m) where
    pub steps_safely : (brought : Happening) (after : Engine) (result : Result Turn EngineStop) → EventAllowed s brought m.past → Steps a b s (logged m.past) brought after result → StepIsCrashSafe a b s first m brought after result
    steps_safely brought after (Ok answer) due steps =
        let did = steps.1.did in (
          steps.1.history,
          goes a b s first m (step s brought (logged m.past)) (Return steps.1.history) (IsAtCrashPoint s first after) did
              (step_safe s settings full first fresh m brought did.entries (Return steps.1.history) come due did.way)
              (λ end led. record {
                come = HasStepped m end brought did.entries steps.1.history come due did.way led;
                at = subst (IsAt after s) (step_noted s settings full first fresh m end brought did.entries steps.1.history come due did.way led) steps.1.at;
              }),
        )
    steps_safely brought after (Err stop.LoopFault) due steps = (steps.1, record { come = come; at = steps.2 })
    steps_safely brought after (Err stop.Memory) due steps =
        let began = steps.1 in (
          began.0,
          goes a b s first m (step s brought (logged m.past)) began.0 (λ _. Unit {0}) began.1
              (step_safe s settings full first fresh m brought began.1.entries began.0 come due began.1.way) (λ end led. tt),
        )

    turned : (after : Engine) (h : History) → Completes a b (turn s (logged m.past)) h → IsAt after s h → (h : History) × IsCrashSafeUpTo a b s first m (turn s (logged m.past)) (Return h) (IsAtCrashPoint s first after)
    turned after h did at = (
      h,
      goes a b s first m (turn s (logged m.past)) (Return h) (IsAtCrashPoint s first after) did (turn_safe s settings full first fresh m did.entries (Return h) come did.way)
          (λ end led.
          let is = turn_come s settings full first fresh m end did.entries h come did.way led in
          record { come = is.0; at = subst (IsAt after s) is.1 at }),
    )

    began_turn : IsBegun a b (turn s (logged m.past)) → (left : Action History) × IsCrashSafeUpTo a b s first m (turn s (logged m.past)) left (λ _. Unit {0})
    began_turn began = (
      began.0,
      goes a b s first m (turn s (logged m.past)) began.0 (λ _. Unit {0}) began.1 (turn_safe s settings full first fresh m began.1.entries began.0 come began.1.way) (λ end led. tt),
    )

    takes_step : (brought : Happening) (h : History) → is_failed brought ≡ false → takes_event s h brought ≡ step s brought h
    takes_step happening.Failed h goes = absurd (cc goes)
    takes_step brought h goes = refl

    takes_failed : (brought : Happening) (h : History) → is_failed brought ≡ true → takes_event s h brought ≡ Return h
    takes_failed happening.Failed h is = refl
    takes_failed brought h is = absurd (cc is)

    pub turns_safely : (after : Engine) (result : Result Turn EngineStop) → TurnOutcome a b s (logged m.past) after result → TurnIsCrashSafe a b s first m after result
    turns_safely after (Ok answer) turns =
        let h = logged m.past in
        let stepped = turns.steps.1 in
        turned after stepped.history
        (leads_bind (takes_event s h) turns.waited (subst (λ (p : Action History). Leads turns.between b p (Return stepped.history)) (sym (takes_step turns.brought h turns.steps.0)) stepped.did)) stepped.at
    turns_safely after (Err stop.LoopFault) turns =
        let h = logged m.past in
        turned after h
        (leads_bind (takes_event s h) turns.waited
        (subst (λ (w : CallLogs). Leads turns.between w (takes_event s h turns.brought) (Return h)) (sym turns.steps.1)
        (subst (λ (p : Action History). Leads turns.between turns.between p (Return h)) (sym (takes_failed turns.brought h turns.steps.0)) (stays turns.between (Return h))))) turns.steps.2
    turns_safely after (Err stop.Memory) (inl turns) =
        let h = logged m.past in
        let began = turns.steps.1 in
        began_turn
        (began.0, leads_bind (takes_event s h) turns.waited (subst (λ (p : Action History). Leads turns.between b p began.0) (sym (takes_step turns.brought h turns.steps.0)) began.1))
    turns_safely after (Err stop.Memory) (inr began) = began_turn (begun_bind (takes_event s (logged m.past)) began)
