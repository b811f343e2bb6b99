use Rattle.std.proofs.Common.{◌≤◌, sym, ◌∙◌, ap}
use Rattle.fwd_table.specs.Rows.{has_row}
use Rattle.fwd_model.specs.Chunks.{next}
use Rattle.fwd_engine_state.specs.Views.{chunk_id}
use Rattle.fwd_engine_state.proofs.RowsAddedAndRemoved.{rows_passed}
use Rattle.fwd_engine_state.proofs.RecoveredFiles.{unrouted_none, rise_found, before_found}
use Rattle.fwd_engine_state.proofs.ChunksAndAttempts.{open_found, fresh_found, carried_found}
use Rattle.fwd_engine_state.proofs.state.State.count_unrouted.Goals as goal

pub returns : goal.returns
returns c n stream name bytes s h out before is =
    let past : next h ≤ n = is.0 in
    let moved = rows_passed s n stream name bytes h (before.fresh n past) (next h) before.numbers past (unrouted_none s bytes is.1) in
    record {
      rows = before.rows ∙ moved;
      top = λ m first rise. before.top m first (before_found n m stream name bytes h rise);
      flights = λ link. carried_found s n stream name bytes h out link _ past (before.flights link);
      time = before.time;
      ticks = before.ticks;
      closing = before.closing;
      stopped = before.stopped;
      tally = c.add_unrouted.ensures s h n stream name bytes is.1 before.tally;
      numbers = rise_found n stream name bytes h past before.numbers;
      fresh = fresh_found s n stream name bytes h before.fresh;
      open_owed = λ k still. ap (has_row (chunk_id k)) (sym moved) ∙ before.open_owed k (open_found n stream name bytes h k still);
    }
