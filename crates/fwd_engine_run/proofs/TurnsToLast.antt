-- The turns of a run up to its last tick, whose calls a run without a number of ticks makes too.
use Rattle.std.proofs.Common.{arith, ◌≡◌, ℕ, suc, ◌+◌, ◌-◌, ◌<◌, Bool, true, false, List, [], ◌∷◌, ◌++◌, Option, None, Result, Ok, Err, refl, sym, ◌∙◌, subst}
use Rattle.fwd_outside.specs.Program.{entry, Return, Ask, Execution}
use Rattle.fwd_outside.specs.Log.{LogGrew}
use Rattle.fwd_outside.specs.Loop.{LoopLog, LoopCall, LoopAnswer}
use Rattle.fwd_outside.specs.declared.happening.Happening.{Happening}
use Rattle.fwd_outside.specs.declared.happening.Happening.TheVariants as happening
use Rattle.fwd_outside.proofs.Executions.{way_trans, way_bind}
use Rattle.fwd_outside.proofs.LogGrowth.{grew_none}
use Rattle.fwd_settings.specs.declared.settings_types.AllSettings.{AllSettings}
use Rattle.fwd_model.specs.Fact.{History}
use Rattle.fwd_model.specs.Trace.{Action, TraceEntry, OnLoop}
use Rattle.fwd_model.specs.CallLogs.{CallLogs, Leads, Completes, IsBegun}
use Rattle.fwd_model.proofs.CallLogs.{logs_grew_none, logs_grew_both}
use Rattle.fwd_model.proofs.Actions.{leads_inside, begun_bind, begun_trans}
use Rattle.fwd_model.specs.StepActions.{step}
use Rattle.fwd_model.specs.KeptOffsets.{tracked, puts, gets}
use Rattle.fwd_model.specs.Run.{RunResult, Over, KeeperFailed, LoopFailed, lived, goes_on, steps_on, is_last_tick, unless_last, after_step, brought, run, is_over}
use Rattle.fwd_engine.specs.EngineSteps.{IsAt, Steps, waits}
use Rattle.fwd_engine.specs.declared.engine.Engine.{Engine}
use Rattle.fwd_engine.specs.declared.engine.EngineStop.{EngineStop}
use Rattle.fwd_engine.specs.declared.engine.EngineStop.TheVariants as stop
use Rattle.fwd_engine.specs.declared.engine.Turn.{Turn}
use Rattle.fwd_engine.specs.declared.engine.Turn.TheVariants as turn
use Rattle.fwd_engine_run.specs.OffsetRows.{IsOverAlike, Keeps}
use Rattle.fwd_engine_run.specs.TurnsToLast.{LeadsBoth, TurnTaken, TurnsTaken, end_unless_last}
use Rattle.fwd_engine_run.specs.declared.kept_offsets.KeptOffsets.{KeptOffsets}
use Rattle.fwd_engine_run.specs.declared.run_parts.Paused.{Paused}
use Rattle.fwd_engine_run.specs.declared.run_parts.Paused.TheVariants as paused
use Rattle.fwd_engine_run.specs.declared.turns.TurnEnd.{TurnEnd}
use Rattle.fwd_engine_run.specs.declared.turns.TurnEnd.TheVariants as turn_end
use Rattle.fwd_engine_run.proofs.OffsetActions.{is_done, puts_leave, gets_leave, has_failed}
use Rattle.fwd_engine_run.proofs.RunTurns.{brought_is, failed_is, over_is, more_is, left}

-- ---- two actions at once

pub with_ticks_alone : {a b : CallLogs} {p q p2 q2 : Action RunResult} → LeadsBoth a b p q p2 q2 → Leads a b p p2
with_ticks_alone f = record { entries = f.entries; asked = f.asked; way = f.with_ticks }

pub both_stay : (w : CallLogs) (p q p2 q2 : Action RunResult) → p2 ≡ p → q2 ≡ q → LeadsBoth w w p q p2 q2
both_stay w p q p2 q2 first second = record { entries = []; asked = logs_grew_none w; with_ticks = first; without = second }

both_on : {a b c : CallLogs} {p q p2 q2 p3 q3 : Action RunResult} → LeadsBoth a b p q p2 q2 → LeadsBoth b c p2 q2 p3 q3 → LeadsBoth a c p q p3 q3
both_on {a = a} {b = b} {c = c} {p = p} {q = q} {p2 = p2} {q2 = q2} {p3 = p3} {q3 = q3} f g = record {
  entries = f.entries ++ g.entries;
  asked = logs_grew_both a b c f.entries g.entries f.asked g.asked;
  with_ticks = way_trans p p2 p3 f.entries g.entries f.with_ticks g.with_ticks;
  without = way_trans q q2 q3 f.entries g.entries f.without g.without;
}

-- one call of the loop
pub loop_called_both : (w : CallLogs) (new : LoopLog) (call : LoopCall) (answer : LoopAnswer call) (f g : LoopAnswer call → Action RunResult)
    → LogGrew w.loop new (entry call answer ∷ []) → LeadsBoth w (record w { loop = new }) (Ask (OnLoop call) f) (Ask (OnLoop call) g) (f answer) (g answer)
loop_called_both w new call answer f g grew = record {
  entries = entry (OnLoop call) answer ∷ [];
  asked = record { loop = grew; disk = grew_none w.disk; files = grew_none w.files; keeper = grew_none w.keeper };
  with_ticks = (answer, refl, refl);
  without = (answer, refl, refl);
}

-- ---- calls, and then a turn or all turns

pub turn_after : (a b c : CallLogs) (s : AllSettings) (ticks : Option ℕ) (n : ℕ) (p q p2 q2 : Action RunResult) (after : Engine) (offsets : KeptOffsets) (result : Result TurnEnd EngineStop)
    → LeadsBoth a b p q p2 q2 → TurnTaken b c s ticks n p2 q2 after offsets result → TurnTaken a c s ticks n p q after offsets result
turn_after a b c s ticks n p q p2 q2 after offsets (Ok turn_end.More) f g = (g.0, g.1, g.2, both_on f g.3)
turn_after a b c s ticks n p q p2 q2 after offsets (Ok turn_end.AtLast) f g = (g.0, g.1, g.2, both_on f g.3)
turn_after a b c s ticks n p q p2 q2 after offsets (Ok turn_end.Over) f g = (g.0, g.1, both_on f g.2)
turn_after a b c s ticks n p q p2 q2 after offsets (Err stop.LoopFault) f g = (g.0, both_on f g.1)
turn_after a b c s ticks n p q p2 q2 after offsets (Err stop.Memory) f g = begun_trans (with_ticks_alone f) g

pub pause_after : {E : Type 0} (a b c : CallLogs) (s : AllSettings) (ticks : Option ℕ) (p q p2 q2 : Action RunResult) (after : Engine) (offsets : KeptOffsets) (result : Result Paused E)
    → LeadsBoth a b p q p2 q2 → TurnsTaken b c s ticks p2 q2 after offsets result → TurnsTaken a c s ticks p q after offsets result
pause_after a b c s ticks p q p2 q2 after offsets (Ok (paused.Ended end)) f g = (g.0, g.1, both_on f g.2)
pause_after a b c s ticks p q p2 q2 after offsets (Ok (paused.AtLast n)) f g = (g.0, g.1, g.2, both_on f g.3)
pause_after a b c s ticks p q p2 q2 after offsets (Err e) f g = begun_trans (with_ticks_alone f) g

-- ---- an event, its step, and the puts after it

module _ (a b : CallLogs) (s : AllSettings) (ticks : Option ℕ) (n : ℕ) (h : History) (after : Engine) (x : Happening) where
  -- the event in a run with the number of ticks, and in one without
  abbrev ticked : Action RunResult
  ticked = brought s ticks (run s ticks n) h x

  abbrev free : Action RunResult
  free = brought s None (run s None n) h x

  -- memory ran out in the puts
  pub put_begun : (c : CallLogs) (which : Turn) (steps : Steps a b s h x after (Ok which)) → IsBegun b c (puts s (tracked s) (goes_on s (unless_last s ticks (run s ticks n) x) x) steps.1.history) → IsBegun a c ticked
  put_begun c which steps began =
      let next : History → Action RunResult = run s ticks n in
      let stepped : Leads a b ticked (after_step s ticks next x steps.1.history) =
      subst (λ (p : Action RunResult). Leads a b p (after_step s ticks next x steps.1.history)) (sym (brought_is s ticks next h x steps.0)) (leads_inside (after_step s ticks next x) steps.1.did) in
      begun_trans stepped began

  -- the step wasn't made
  pub not_taken : (offsets : KeptOffsets) (stopped : EngineStop) → Steps a b s h x after (Err stopped) → TurnTaken a b s ticks n ticked free after offsets (Err stopped)
  not_taken offsets stop.LoopFault steps =
      let ends : Action RunResult = Return (lived h LoopFailed) in
      let at : LeadsBoth a a ticked free ends ends = both_stay a ticked free ends ends (sym (failed_is s ticks (run s ticks n) h x steps.0)) (sym (failed_is s None (run s None n) h x steps.0)) in
      (h, subst (λ (w : CallLogs). LeadsBoth a w ticked free ends ends) (sym steps.1) at)
  not_taken offsets stop.Memory steps = subst (λ (p : Action RunResult). IsBegun a b p) (sym (brought_is s ticks (run s ticks n) h x steps.0)) (begun_bind (after_step s ticks (run s ticks n) x) steps.1)

  module _ (c : CallLogs) (offsets : KeptOffsets) where
    -- the puts after a step were made
    abbrev Put : History → Type 0
    Put before = (now : History) × IsAt after s now × Keeps s offsets now × IsOverAlike s before now × Leads b c (puts s (tracked s) is_done before) (is_done now)

    -- the calls of the step and of the puts, whatever the number of ticks and whatever follows
    ways : (which : Turn) (steps : Steps a b s h x after (Ok which)) (put : Put steps.1.history) (number : Option ℕ) (next : History → Action RunResult)
        → Execution (brought s number next h x) (steps.1.did.entries ++ put.4.entries) (goes_on s (unless_last s number next x) x put.0)
    ways which steps put number next =
        let behind : History → Action RunResult = goes_on s (unless_last s number next x) x in
        let first : List TraceEntry = steps.1.did.entries in
        way_trans (brought s number next h x) (puts s (tracked s) behind steps.1.history) (behind put.0) first put.4.entries
        (subst (λ (p : Action RunResult). Execution p first (puts s (tracked s) behind steps.1.history)) (sym (brought_is s number next h x steps.0))
        (way_bind (step s x h) (Return steps.1.history) first (after_step s number next x) steps.1.did.way))
        ((puts_leave s (tracked s) steps.1.history (lived put.0 Over) put.4.entries put.4.way).ways behind)

    leads : (which : Turn) (steps : Steps a b s h x after (Ok which)) (put : Put steps.1.history) (p q : Action RunResult)
        → goes_on s (unless_last s ticks (run s ticks n) x) x put.0 ≡ p → goes_on s (unless_last s None (run s None n) x) x put.0 ≡ q → LeadsBoth a c ticked free p q
    leads which steps put p q first second =
        let entries : List TraceEntry = steps.1.did.entries ++ put.4.entries in
        record {
          entries = entries;
          asked = logs_grew_both a b c steps.1.did.entries put.4.entries steps.1.did.asked put.4.asked;
          with_ticks = subst (λ (left : Action RunResult). Execution ticked entries left) first (ways which steps put ticks (run s ticks n));
          without = subst (λ (left : Action RunResult). Execution free entries left) second (ways which steps put None (run s None n));
        }

    -- the run is over
    pub taken_over : (steps : Steps a b s h x after (Ok turn.Over)) → Put steps.1.history → TurnTaken a c s ticks n ticked free after offsets (Ok turn_end.Over)
    taken_over steps put =
        let now = put.0 in
        let is : is_over s x now ≡ true = put.3 x ∙ over_is (is_over s x steps.1.history) steps.1.over in
        (now, put.1, leads turn.Over steps put (Return (lived now Over)) (Return (lived now Over)) (rw is refl) (rw is refl))

    unended : (steps : Steps a b s h x after (Ok turn.More)) (put : Put steps.1.history) (number : Option ℕ) (next : History → Action RunResult) → goes_on s (unless_last s number next x) x put.0 ≡ unless_last s number next x put.0
    unended steps put number next =
        let is : is_over s x put.0 ≡ false = put.3 x ∙ more_is (is_over s x steps.1.history) steps.1.over in
        rw is refl

    -- the run goes on, or is at its last tick
    taken_by : (steps : Steps a b s h x after (Ok turn.More)) (put : Put steps.1.history) (last : Bool) → is_last_tick s ticks x put.0 ≡ last → TurnTaken a c s ticks n ticked free after offsets (Ok (end_unless_last last))
    taken_by steps put true is =
        let stops : unless_last s ticks (run s ticks n) x put.0 ≡ steps_on s (run s ticks n) happening.Stop put.0 = rw is refl in
        (put.0, put.1, put.2, leads turn.More steps put (steps_on s (run s ticks n) happening.Stop put.0) (run s None n put.0) (unended steps put ticks (run s ticks n) ∙ stops) (unended steps put None (run s None n)))
    taken_by steps put false is =
        let on : unless_last s ticks (run s ticks n) x put.0 ≡ run s ticks n put.0 = rw is refl in
        (put.0, put.1, put.2, leads turn.More steps put (run s ticks n put.0) (run s None n put.0) (unended steps put ticks (run s ticks n) ∙ on) (unended steps put None (run s None n)))

    pub taken_more : (steps : Steps a b s h x after (Ok turn.More)) (put : Put steps.1.history) (end : TurnEnd) → end ≡ end_unless_last (is_last_tick s ticks x put.0) → TurnTaken a c s ticks n ticked free after offsets (Ok end)
    taken_more steps put end is =
        subst (λ (e : TurnEnd). TurnTaken a c s ticks n ticked free after offsets (Ok e)) (sym is) (taken_by steps put (is_last_tick s ticks x put.0) refl)

-- a wait, and what follows its event
pub waited_on : (a b : CallLogs) (s : AllSettings) (ticks : Option ℕ) (h : History) (n : ℕ) (x : Happening) → Completes a b (waits s h) x
    → LeadsBoth a b (run s ticks (suc n) h) (run s None (suc n) h) (brought s ticks (run s ticks n) h x) (brought s None (run s None n) h x)
unfolding run
waited_on a b s ticks h n x did = record {
  entries = did.entries;
  asked = did.asked;
  with_ticks = way_bind (waits s h) (Return x) did.entries (brought s ticks (run s ticks n) h) did.way;
  without = way_bind (waits s h) (Return x) did.entries (brought s None (run s None n) h) did.way;
}

pub unwaited : (a b : CallLogs) (s : AllSettings) (ticks : Option ℕ) (h : History) (n : ℕ) → IsBegun a b (waits s h) → IsBegun a b (run s ticks (suc n) h)
unfolding run
unwaited a b s ticks h n began = begun_bind (brought s ticks (run s ticks n) h) began

-- one turn of those that are left
pub one_more : (a b c : CallLogs) (s : AllSettings) (ticks : Option ℕ) (most taken : ℕ) (h now : History) (after : Engine) (offsets : KeptOffsets) (result : Result TurnEnd EngineStop) → taken < most
    → LeadsBoth a b (run s ticks most h) (run s None most h) (run s ticks (most - taken) now) (run s None (most - taken) now)
    → TurnTaken b c s ticks (most - (taken + 1)) (run s ticks (suc (most - (taken + 1))) now) (run s None (suc (most - (taken + 1))) now) after offsets result
    → TurnTaken a c s ticks (most - (taken + 1)) (run s ticks most h) (run s None most h) after offsets result
one_more a b c s ticks most taken h now after offsets result less leads goes =
    let n : ℕ = suc (most - (taken + 1)) in
    let led : LeadsBoth a b (run s ticks most h) (run s None most h) (run s ticks n now) (run s None n now) =
    subst (λ (k : ℕ). LeadsBoth a b (run s ticks most h) (run s None most h) (run s ticks k now) (run s None k now)) (left most taken less) leads in
    turn_after a b c s ticks (most - (taken + 1)) (run s ticks most h) (run s None most h) (run s ticks n now) (run s None n now) after offsets result led goes

-- the turn of the last tick ends the turns
pub at_last : (a b : CallLogs) (s : AllSettings) (ticks : Option ℕ) (most taken : ℕ) (h : History) (after : Engine) (offsets : KeptOffsets)
    → TurnTaken a b s ticks (most - (taken + 1)) (run s ticks most h) (run s None most h) after offsets (Ok turn_end.AtLast)
    → TurnsTaken {E = Unit {0}} a b s ticks (run s ticks most h) (run s None most h) after offsets (Ok (paused.AtLast ((most - taken) - 1)))
at_last a b s ticks most taken h after offsets turned =
    let same : most - (taken + 1) ≡ (most - taken) - 1 = grind arith in
    subst (λ (n : ℕ). TurnsTaken {E = Unit {0}} a b s ticks (run s ticks most h) (run s None most h) after offsets (Ok (paused.AtLast n))) same turned

-- ---- the gets before the loop starts

module _ (a b : CallLogs) (s : AllSettings) (f g : History → Action RunResult) (h now : History) where
  got_on : (next : History → Action RunResult) → (led : Leads a b (gets s (tracked s) has_failed is_done h) (is_done now)) → Execution (gets s (tracked s) has_failed next h) led.entries (next now)
  got_on next led = (gets_leave s (tracked s) h (lived now Over) led.entries led.way).ways next

  not_got_on : (next : History → Action RunResult) → (led : Leads a b (gets s (tracked s) has_failed is_done h) (has_failed now)) → Execution (gets s (tracked s) has_failed next h) led.entries (has_failed now)
  not_got_on next led = (gets_leave s (tracked s) h (lived now KeeperFailed) led.entries led.way).ways next

  pub gets_both : Leads a b (gets s (tracked s) has_failed is_done h) (is_done now) → LeadsBoth a b (gets s (tracked s) has_failed f h) (gets s (tracked s) has_failed g h) (f now) (g now)
  gets_both led = record { entries = led.entries; asked = led.asked; with_ticks = got_on f led; without = got_on g led }

  pub gets_fail_both : Leads a b (gets s (tracked s) has_failed is_done h) (has_failed now) → LeadsBoth a b (gets s (tracked s) has_failed f h) (gets s (tracked s) has_failed g h) (has_failed now) (has_failed now)
  gets_fail_both led = record { entries = led.entries; asked = led.asked; with_ticks = not_got_on f led; without = not_got_on g led }
