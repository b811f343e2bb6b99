-- At the end of a turn no chunk is open if all were to close.
use Rattle.std.proofs.Common.{◌≡◌, ℕ, true, false, List, [], ◌∷◌, Option, refl, sym, ◌∙◌, subst}
use Rattle.fwd_outside.specs.Program.{entry, Return, Execution}
use Rattle.fwd_outside.specs.declared.ends.Ends.{Ends}
use Rattle.fwd_settings.specs.declared.settings_types.AllSettings.{AllSettings}
use Rattle.fwd_model.specs.Fact.{Fact, History, Resumed, Saved, Found}
use Rattle.fwd_model.specs.Trace.{TraceEntry, Note}
use Rattle.fwd_model.specs.Chunks.{chunks_of, open_chunks}
use Rattle.fwd_model.specs.Run.{RunResult, life}
use Rattle.fwd_theorem_trace.specs.Past.{Past, logged, past_after}
use Rattle.fwd_theorem_trace.specs.Allowed.{IsLoading, IsAllowed, Allowed}
use Rattle.fwd_theorem_trace.specs.Closure.{has_closed}
use Rattle.fwd_theorem_trace.proofs.OffsetCalls.{IsOffsetFact}
use Rattle.fwd_theorem_trace.proofs.Run.{due_onward, Lasts, so_at_end}
use Rattle.fwd_theorem_trace.proofs.ClosedTurns.{IsClosed, none_open, closed_step}

module _ (s : AllSettings) where
  not_yet : (h : History) → IsLoading h → has_closed s h ≡ false
  not_yet [] loading = refl
  not_yet (Found number stream name bytes ∷ h) loading = not_yet h loading.1
  not_yet (fact ∷ h) loading = absurd loading

  closed_aside : (fact : Fact) (answer : Unit {0}) (past : Past) → IsOffsetFact fact → IsAllowed s (Note fact) past → Allowed s past × IsClosed s past
      → Allowed s (entry (Note fact) answer ∷ past) × IsClosed s (entry (Note fact) answer ∷ past)
  closed_aside (Resumed input index place) answer past is due so = ((due, so.0), so.1)
  closed_aside (Saved input index place) answer past is due so = ((due, so.0), so.1)
  closed_aside fact answer past is due so = absurd is

  closed_lasts : Lasts s (Allowed s) (IsClosed s)
  closed_lasts = record {
    first = tt;
    onward = due_onward s;
    loaded = λ past loading has. absurd (cc (sym (not_yet (logged past) loading) ∙ has));
    called = λ call answer past closed. closed;
    aside = record { call = λ call answer past due so. ((due, so.0), so.1); fact = closed_aside };
    stepped = λ brings past due ready closed. closed_step s brings past due ready;
  }

  pub closed_at_end : (ends : Ends) (ticks : Option ℕ) (turns : ℕ) (es : List TraceEntry) (end : RunResult) → Execution (life s ends ticks turns) es (Return end) → has_closed s end.history ≡ true → open_chunks end.history ≡ []
  closed_at_end ends ticks turns es end way has =
      let q = so_at_end s (Allowed s) (IsClosed s) closed_lasts ends ticks turns es end way in
      subst (λ (h : History). open_chunks h ≡ []) (sym q.0)
      (none_open (logged (past_after [] es)) (chunks_of (logged (past_after [] es))) (q.1 (subst (λ (h : History). has_closed s h ≡ true) q.0 has)))
