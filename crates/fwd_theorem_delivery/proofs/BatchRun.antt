-- Over a run, something becomes of each complete batch.
use Rattle.std.proofs.Common.{ℕ, Bool, cond, List, [], ◌∷◌, Option, None, sym, subst}
use Rattle.fwd_outside.specs.Program.{Return, Execution}
use Rattle.fwd_outside.specs.declared.ends.Ends.{Ends}
use Rattle.fwd_outside.specs.declared.happening.Happening.TheVariants as happening
use Rattle.fwd_settings.specs.declared.settings_types.AllSettings.{AllSettings}
use Rattle.fwd_model.specs.Fact.{Fact, History, Batch, Standard, Happened, Resumed, Saved, Polled, Found, IoFailed}
use Rattle.fwd_model.specs.Trace.{Action, TraceEntry}
use Rattle.fwd_model.specs.Batches.{end_batch, poll_batch}
use Rattle.fwd_model.specs.Acceptance.{ingests}
use Rattle.fwd_model.specs.InputActions.{pieces}
use Rattle.fwd_model.specs.Run.{RunResult, life}
use Rattle.fwd_theorem_delivery.specs.BatchOutcomes.{completed_by, conn_of, BatchOutcomes, AllBatchOutcomes}
use Rattle.fwd_theorem_delivery.proofs.Results.{Yields, gives_so}
use Rattle.fwd_theorem_delivery.proofs.BatchFacts.{ComeInOrder, each_one, each_later, each_settled}
use Rattle.fwd_theorem_delivery.proofs.BatchInput.{came_takes, came_pieces}
use Rattle.fwd_theorem_delivery.proofs.HistoryInduction.{Lasts, at_end}

module _ (s : AllSettings) where
  each_comes : (fact : Fact) (h : History) (p : Action History) → AllBatchOutcomes s [] h → Yields (ComeInOrder (conn_of fact) (completed_by s h fact) (fact ∷ h)) p → Yields (AllBatchOutcomes s []) p
  each_comes fact h p each came =
      gives_so (ComeInOrder (conn_of fact) (completed_by s h fact) (fact ∷ h)) (AllBatchOutcomes s []) p (λ now adds. each_settled s fact h now each adds) came

  pub each_lasts : Lasts s (AllBatchOutcomes s [])
  each_lasts = record {
    at_first = tt;
    later = λ h now each later. each_later s h now each later;
    found = λ number stream name bytes h each. each_one s (Found number stream name bytes) h tt each;
    resumed = λ input index place h each. each_one s (Resumed input index place) h tt each;
    saved = λ input index place h each. each_one s (Saved input index place) h tt each;
    faulted = λ h each. each_one s IoFailed h tt each;
    brought = λ x h none each. (subst (BatchOutcomes (conn_of (Happened x)) []) (sym none) tt, each);
    polled = λ input index poll h each.
        let fact : Fact = Polled input index poll.long poll.bytes in
        let b : Batch = poll_batch s h input index poll in each_comes fact h (ingests s b (fact ∷ h)) each (came_takes s None b (fact ∷ h));
    pieces = λ input conn bytes h each.
        let fact : Fact = Happened (happening.Piece input conn bytes) in
        each_comes fact h (pieces s h input.0 conn.0 bytes (fact ∷ h)) each (came_pieces s h input.0 conn.0 bytes (fact ∷ h));
    ended = λ input h reads each.
        let fact : Fact = Happened (happening.InputEnd input) in
        let last : Batch = end_batch s h input.0 (Standard input.0) in
        each_comes fact h (ingests s last (fact ∷ h)) each
        (subst (λ (b : Bool). Yields (ComeInOrder None (cond b (last ∷ []) []) (fact ∷ h)) (ingests s last (fact ∷ h))) (sym reads) (came_takes s None last (fact ∷ h)));
  }

  pub each_at_end : (ends : Ends) (ticks : Option ℕ) (turns : ℕ) (es : List TraceEntry) (end : RunResult) → Execution (life s ends ticks turns) es (Return end) → AllBatchOutcomes s [] end.history
  each_at_end ends ticks turns es end way = at_end s (AllBatchOutcomes s []) each_lasts ends ticks turns es end way
