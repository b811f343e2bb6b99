-- Each refusal, each last retry and each eviction of a run has its cause.
use Rattle.std.proofs.Common.{◌≡◌, ℕ, List, [], ◌∷◌, ◌++◌, Option, sym, ap, ◌∙◌, subst}
use Rattle.fwd_outside.specs.Program.{Execution}
use Rattle.fwd_outside.specs.declared.ends.Ends.{Ends}
use Rattle.fwd_settings.specs.declared.settings_types.AllSettings.{AllSettings}
use Rattle.fwd_model.specs.Fact.{Fact, History, Route, OnRoute, FlushStarted, Exhausted, Evicted, Refused}
use Rattle.fwd_model.specs.Trace.{Action, TraceEntry, history_after}
use Rattle.fwd_model.specs.Run.{RunResult, life}
use Rattle.fwd_theorem_trace.specs.Past.{logged, past_after}
use Rattle.fwd_theorem_trace.specs.Allowed.{RefuseAllowed}
use Rattle.fwd_theorem_trace.proofs.Traversal.{noted_since}
use Rattle.fwd_theorem_trace.proofs.Run.{due_since}
use Rattle.fwd_theorem_delivery.specs.Causes.{HaveCauses}
use Rattle.fwd_theorem_delivery.proofs.TimedFacts.{FactTimed, Timed}
use Rattle.fwd_theorem_delivery.proofs.InputTimes.{noted_at}
use Rattle.fwd_theorem_delivery.proofs.TimedRun.{timed_life}
use Rattle.fwd_theorem_delivery.proofs.RetryWaits.{used_up}

module _ (s : AllSettings) where
  timed_from : (later h : History) → Timed s (later ++ h) → Timed s h
  timed_from [] h timed = timed
  timed_from (fact ∷ later) h timed = timed_from later h timed.1

  pub causes_in_life : (ends : Ends) (ticks : Option ℕ) (turns : ℕ) (es : List TraceEntry) (left : Action RunResult) → Execution (life s ends ticks turns) es left → HaveCauses s (history_after es [])
  causes_in_life ends ticks turns es left way = record {
    refused =
        λ later before b why is.
        let at = noted_at s (past_after [] es) later (Refused b why) before (due_since s ends ticks turns es left way) (noted_since [] es ∙ is) in
        subst (λ (h : History). RefuseAllowed s b why h) at.is at.may;
    exhausted = λ later before r is. let timed = from later (OnRoute r Exhausted) before is in used_up s before r timed.1 timed.0;
    evicted = λ later before r is. (from later (OnRoute r Evicted) before is).0.0;
    sent = λ later before r events is. (from later (OnRoute r (FlushStarted events)) before is).0.1.1.1;
  }
    where
      from : (later : History) (fact : Fact) (before : History) → history_after es [] ≡ later ++ fact ∷ before → Timed s (fact ∷ before)
      from later fact before is = timed_from later (fact ∷ before) (subst (Timed s) (noted_since [] es ∙ is) (timed_life s ends ticks turns es left way))
