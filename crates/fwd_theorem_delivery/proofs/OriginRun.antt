-- Over a run, batches are accepted or refused in the order in which they were completed.
use Rattle.std.proofs.Common.{ℕ, Bool, cond, List, [], ◌∷◌, Option, refl, subst}
use Rattle.fwd_outside.specs.Program.{Return, Execution}
use Rattle.fwd_outside.specs.declared.ends.Ends.{Ends}
use Rattle.fwd_outside.specs.declared.happening.Happening.TheVariants as happening
use Rattle.fwd_settings.specs.declared.settings_types.AllSettings.{AllSettings}
use Rattle.fwd_model.specs.Fact.{Fact, Batch, Standard, Happened, Resumed, Saved, Polled, Found, IoFailed}
use Rattle.fwd_model.specs.Trace.{TraceEntry}
use Rattle.fwd_model.specs.Batches.{end_batch, poll_batch}
use Rattle.fwd_model.specs.Run.{RunResult, life}
use Rattle.fwd_theorem_delivery.proofs.HistoryInduction.{Lasts, at_end}
use Rattle.fwd_theorem_delivery.proofs.BatchOrder.{Always, AwaitsDecision, always_still, always_later, owing_arrived}
use Rattle.fwd_theorem_delivery.proofs.AcceptOrder.{always_takes, always_pieces}

module _ (s : AllSettings) where
  always_lasts : Lasts s (Always s)
  always_lasts = record {
    at_first = tt;
    later = λ h now always later. always_later s h now always later;
    found = λ number stream name bytes h always. always_still s (Found number stream name bytes) h (refl, refl) always;
    resumed = λ input index place h always. always_still s (Resumed input index place) h (refl, refl) always;
    saved = λ input index place h always. always_still s (Saved input index place) h (refl, refl) always;
    faulted = λ h always. always_still s IoFailed h (refl, refl) always;
    brought = λ x h none always. (owing_arrived s (Happened x) h refl always).1;
    polled = λ input index poll h always.
        let fact : Fact = Polled input index poll.long poll.bytes in
        always_takes s (poll_batch s h input index poll) (fact ∷ h) (owing_arrived s fact h refl always);
    pieces = λ input conn bytes h always.
        let fact : Fact = Happened (happening.Piece input conn bytes) in
        always_pieces s h input.0 conn.0 bytes (fact ∷ h) (owing_arrived s fact h refl always);
    ended = λ input h reads always.
        let fact : Fact = Happened (happening.InputEnd input) in
        let last : Batch = end_batch s h input.0 (Standard input.0) in
        always_takes s last (fact ∷ h) (subst (λ (b : Bool). AwaitsDecision s (cond b (last ∷ []) []) (fact ∷ h)) reads (owing_arrived s fact h refl always));
  }

  pub always_at_end : (ends : Ends) (ticks : Option ℕ) (turns : ℕ) (es : List TraceEntry) (end : RunResult) → Execution (life s ends ticks turns) es (Return end) → Always s end.history
  always_at_end ends ticks turns es end way = at_end s (Always s) always_lasts ends ticks turns es end way
