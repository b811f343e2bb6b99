use Rattle.std.proofs.Common.{refl, sym, ◌∙◌, ap}
use Rattle.fwd_table.specs.Rows.{has_row}
use Rattle.fwd_model.specs.Fact.{FlushStarted}
use Rattle.fwd_engine_state.specs.Views.{chunk_id}
use Rattle.fwd_engine_state.proofs.CountLemmas.{begun_tally}
use Rattle.fwd_engine_state.proofs.RowChanges.{rows_begun}
use Rattle.fwd_engine_state.proofs.IdleRoutes.{idle_closed, idle_flight}
use Rattle.fwd_engine_state.proofs.ChunksAndAttempts.{fresh_routed, carried_begun}
use Rattle.fwd_engine_state.proofs.lemmas.lemma_begun_route_is_out.Goals as goal

pub returns : goal.returns
returns c s state h r events before idle =
    let none = idle_flight s h r idle in
    let same = rows_begun s r events h none in
    record {
      rows = before.rows ∙ same;
      top = before.top;
      flights = λ link. carried_begun s r (FlushStarted events) h link _ refl none (before.flights link);
      time = before.time;
      ticks = before.ticks;
      closing = before.closing;
      stopped = before.stopped;
      tally = before.tally ∙ sym (begun_tally s h r events);
      numbers = before.numbers;
      fresh = fresh_routed s r (FlushStarted events) h (idle_closed s h r idle before.numbers).1 before.fresh;
      open_owed = λ k still. ap (has_row (chunk_id k)) (sym same) ∙ before.open_owed k still;
    }
