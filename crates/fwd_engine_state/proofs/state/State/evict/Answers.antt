use Rattle.std.proofs.Common.{ℕ, ◌<◌, List, refl, sym, ◌∙◌, ap, subst}
use Rattle.fwd_table.specs.Rows.{on_chunk, resolved_to, owed_rows}
use Rattle.fwd_table.specs.Row.{Row}
use Rattle.fwd_model.specs.Fact.{Evicted}
use Rattle.fwd_engine_state.specs.Views.{chunk_id, output_id, route_of}
use Rattle.fwd_engine_state.proofs.RowsAddedAndRemoved.{rows_ended}
use Rattle.fwd_engine_state.proofs.PendingRows.{open_left_owed}
use Rattle.fwd_engine_state.proofs.IdleRoutes.{idle_closed, idle_flight}
use Rattle.fwd_engine_state.proofs.ChunksAndAttempts.{fresh_routed, carried_lost}
use Rattle.fwd_engine_state.proofs.state.State.evict.Goals as goal

pub returns : goal.returns
returns c s h out before idle =
    let r = route_of c.args.route in
    let closed = idle_closed s h r idle before.numbers in
    record {
      rows = c.resolve.ensures.rows ∙ ap (λ (l : List Row). owed_rows (on_chunk (chunk_id r.chunk) (resolved_to (output_id r.output)) l)) before.rows ∙ rows_ended s r Evicted h refl;
      top = λ m first rise. subst (λ (k : ℕ). k < m) (sym c.resolve.ensures.top) (before.top m first rise);
      flights = λ link. carried_lost s r Evicted h out link _ refl (idle_flight s h r idle) (before.flights link);
      time = before.time;
      ticks = before.ticks;
      closing = before.closing;
      stopped = before.stopped;
      tally = c.add_evicted.ensures s h r refl before.tally;
      numbers = before.numbers;
      fresh = fresh_routed s r Evicted h closed.1 before.fresh;
      open_owed = λ k is. open_left_owed s r Evicted h refl closed.0 k is (before.open_owed k is);
    }
