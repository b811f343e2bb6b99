-- All facts of a run are in time.
use Rattle.std.proofs.Common.{ℕ, List, [], ◌∷◌, Option, refl}
use Rattle.fwd_outside.specs.Program.{entry, Execution}
use Rattle.fwd_outside.specs.declared.ends.Ends.{Ends}
use Rattle.fwd_settings.specs.declared.settings_types.AllSettings.{AllSettings}
use Rattle.fwd_model.specs.Fact.{Fact, History, Resumed, Saved, Found}
use Rattle.fwd_model.specs.Trace.{Call, Action, TraceEntry, Note, history_after_call}
use Rattle.fwd_model.specs.Run.{RunResult, life}
use Rattle.fwd_theorem_trace.specs.Past.{Past, logged, past_after}
use Rattle.fwd_theorem_trace.specs.Allowed.{IsLoading}
use Rattle.fwd_theorem_trace.proofs.OffsetCalls.{IsOffsetFact}
use Rattle.fwd_theorem_trace.proofs.Run.{IsPlain, Lasts, at_each, due_since}
use Rattle.fwd_theorem_delivery.proofs.TimedFacts.{Timed, Calm, InTime}
use Rattle.fwd_theorem_delivery.proofs.InputTimes.{told_step}

module _ (s : AllSettings) where
  timed_behind : (call : Call) (h : History) → IsPlain call → Timed s h → Timed s (history_after_call call h)
  timed_behind (Note (Found number stream name bytes)) h plain timed = (tt, timed)
  timed_behind (Note fact) h plain timed = absurd plain
  timed_behind call h plain timed = timed

  calm_loading : (h : History) → IsLoading h → Calm s h
  calm_loading [] loading = (λ r. refl, refl)
  calm_loading (Found number stream name bytes ∷ h) loading = calm_loading h loading.1
  calm_loading (fact ∷ h) loading = absurd loading

  timed_aside : (fact : Fact) (answer : Unit {0}) (past : Past) → IsOffsetFact fact → InTime s past × Calm s (logged past) → InTime s (entry (Note fact) answer ∷ past) × Calm s (fact ∷ logged past)
  timed_aside (Resumed input index place) answer past is (in_time, calm) = (λ due. (tt, in_time due.1), calm)
  timed_aside (Saved input index place) answer past is (in_time, calm) = (λ due. (tt, in_time due.1), calm)
  timed_aside fact answer past is so = absurd is

  pub timed_lasts : Lasts s (InTime s) (λ (past : Past). Calm s (logged past))
  timed_lasts = record {
    first = λ due. tt;
    onward = λ call answer past plain is in_time due. timed_behind call (logged past) plain (in_time due.1);
    loaded = λ past loading. calm_loading (logged past) loading;
    called = λ call answer past calm. calm;
    aside = record { call = λ call answer past due so. (λ all. so.0 all.1, so.1); fact = λ fact answer past is due so. timed_aside fact answer past is so };
    stepped = λ x past due in_time calm. told_step s x past in_time calm;
  }

  pub timed_life : (ends : Ends) (ticks : Option ℕ) (turns : ℕ) (es : List TraceEntry) (left : Action RunResult) → Execution (life s ends ticks turns) es left → Timed s (logged (past_after [] es))
  timed_life ends ticks turns es left way = at_each s (InTime s) (λ (past : Past). Calm s (logged past)) timed_lasts ends ticks turns es left way (due_since s ends ticks turns es left way)
