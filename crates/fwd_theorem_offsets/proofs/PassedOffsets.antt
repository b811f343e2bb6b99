-- At each point of a run, something became of all that was complete before an offset that it put.
use Rattle.std.proofs.Common.{◌≡◌, ℕ, true, List, [], ◌∷◌, Option, refl, subst}
use Rattle.fwd_outside.specs.Program.{entry, Return, Ask, Execution}
use Rattle.fwd_outside.specs.declared.ends.Ends.{Ends}
use Rattle.fwd_keeper.specs.Keeper.{KeeperCall, KeeperAnswer, Get, Put, FailAt}
use Rattle.fwd_settings.specs.declared.settings_types.AllSettings.{AllSettings}
use Rattle.fwd_model.specs.Fact.{History}
use Rattle.fwd_model.specs.Trace.{Call, Answer, Action, TraceEntry, OnLoop, OnDisk, OnFiles, OnKeeper, Note}
use Rattle.fwd_model.specs.StepActions.{step}
use Rattle.fwd_model.specs.Run.{RunResult, life}
use Rattle.fwd_theorem_trace.specs.Past.{Past, logged, past_after}
use Rattle.fwd_theorem_trace.specs.Allowed.{IsAllowed, Allowed}
use Rattle.fwd_theorem_trace.proofs.Traversal.{Traverses, traverses_map}
use Rattle.fwd_theorem_trace.proofs.WaitCounts.{is_plain, ArePlain, step_plain}
use Rattle.fwd_theorem_trace.proofs.Run.{IsPlain, Lasts, at_each, steps_step}
use Rattle.fwd_theorem_delivery.specs.BatchOutcomes.{AllBatchOutcomes}
use Rattle.fwd_theorem_delivery.proofs.Results.{gives_walks}
use Rattle.fwd_theorem_delivery.proofs.HistoryInduction.{each_step, each_loading, each_aside}
use Rattle.fwd_theorem_delivery.proofs.BatchRun.{each_lasts}
use Rattle.fwd_theorem_offsets.specs.Passed.{IsPassedBy, ArePassed}

module _ (s : AllSettings) where
  -- something became of each complete batch
  abbrev Decided : History → Type 0
  Decided = AllBatchOutcomes s []

  -- each entry is allowed, and each offset that is put is passed
  abbrev AllowedPassed : Past → Type 0
  AllowedPassed past = Allowed s past × ArePassed s past

  -- a call that isn't on a keeper puts nothing
  plain_passed : (call : Call) (past : Past) → is_plain call ≡ true → IsPassedBy s call past
  plain_passed (OnLoop call) past is = tt
  plain_passed (OnDisk call) past is = tt
  plain_passed (OnFiles call) past is = tt
  plain_passed (OnKeeper call) past is = absurd (cc is)
  plain_passed (Note fact) past is = tt

  -- an action that calls no keeper
  with_passed : {R : Type 0} (Q : R → Past → Type 0) (past : Past) (p : Action R) → ((es : List TraceEntry) (left : Action R) → Execution p es left → ArePlain es) → ArePassed s past → Traverses (Allowed s) Q past p
      → Traverses AllowedPassed Q past p
  with_passed Q past (Return x) plain passed walks = ((walks.0, passed), walks.1)
  with_passed Q past (Ask call go) plain passed walks = (
    (walks.0, passed),
    λ answer.
        with_passed Q (entry call answer ∷ past) (go answer) (λ es left way. (plain (entry call answer ∷ es) left (answer, refl, way)).1)
        (plain_passed call past (plain (entry call answer ∷ []) (go answer) (answer, refl, refl)).0, passed) (walks.1 answer),
  )

  onward_passed : (call : Call) (answer : Answer call) (past : Past) → IsPlain call → IsAllowed s call past → AllowedPassed past → AllowedPassed (entry call answer ∷ past)
  onward_passed (OnLoop call) answer past plain due so = ((due, so.0), (tt, so.1))
  onward_passed (OnDisk call) answer past plain due so = ((due, so.0), (tt, so.1))
  onward_passed (OnFiles call) answer past plain due so = ((due, so.0), (tt, so.1))
  onward_passed (OnKeeper call) answer past plain due so = absurd plain
  onward_passed (Note fact) answer past plain due so = ((due, so.0), (tt, so.1))

  abbrev Both : Past → Type 0
  Both past = AllowedPassed past × Decided (logged past)

  keeper_called : (call : KeeperCall) (answer : KeeperAnswer call) (past : Past) → IsAllowed s (OnKeeper call) past → Both past → Both (entry (OnKeeper call) answer ∷ past)
  keeper_called (Get db path) answer past due so = (((due, so.0.0), (tt, so.0.1)), so.1)
  keeper_called (Put db path place) answer past due so = (((due, so.0.0), (record { allowed = due; decided = so.1 }, so.0.1)), so.1)
  keeper_called (FailAt number) answer past due so = absurd due

  passed_lasts : Lasts s AllowedPassed (λ (past : Past). Decided (logged past))
  passed_lasts = record {
    first = (tt, tt);
    onward = onward_passed;
    loaded = λ past loading. each_loading s Decided (each_lasts s) (logged past) loading;
    called = λ call answer past each. each;
    aside = record { call = keeper_called; fact = λ fact answer past is due so. (((due, so.0.0), (tt, so.0.1)), each_aside s Decided (each_lasts s) fact (logged past) is so.1) };
    stepped = λ x past due ready each.
        let W : History → Past → Type 0 = λ (h : History) (now : Past). (h ≡ logged now) × Unit {0} in
        with_passed (λ (h : History) (now : Past). (h ≡ logged now) × Decided (logged now)) past (step s x (logged past)) (step_plain s x (logged past)) ready.1
        (traverses_map (Allowed s) (λ (h : History) (now : Past). Decided h × W h now) (λ (h : History) (now : Past). (h ≡ logged now) × Decided (logged now)) past (step s x (logged past))
        (λ h now grown is. (is.1.0, subst Decided is.1.0 is.0)) (gives_walks (Allowed s) Decided W past (step s x (logged past)) (each_step s Decided (each_lasts s) x (logged past) each) (steps_step s x past due ready.0)));
  }

  pub passed_so_far : (ends : Ends) (ticks : Option ℕ) (turns : ℕ) (es : List TraceEntry) (left : Action RunResult) → Execution (life s ends ticks turns) es left → ArePassed s (past_after [] es)
  passed_so_far ends ticks turns es left way = (at_each s AllowedPassed (λ (past : Past). Decided (logged past)) passed_lasts ends ticks turns es left way).1
