use Rattle.std.proofs.Common.{ℕ, ◌<◌, refl, sym, ◌∙◌, ap, subst}
use Rattle.fwd_table.specs.Rows.{has_row, on_chunk, shut_at}
use Rattle.fwd_model.specs.Clock.{clock}
use Rattle.fwd_model.specs.Routes.{rows_of}
use Rattle.fwd_engine_state.specs.Views.{chunk_id}
use Rattle.fwd_engine_state.proofs.RowChanges.{rows_shut}
use Rattle.fwd_engine_state.proofs.PendingRows.{has_on_chunk}
use Rattle.fwd_engine_state.proofs.ChunksAndAttempts.{open_left, fresh_shut, carried_shut}
use Rattle.fwd_engine_state.proofs.state.State.close_chunk.Goals as goal

pub returns : goal.returns
returns c s h out before within =
    let n = c.args.chunk.0 in
    let moved = rows_shut s n h in
    record {
      rows = c.close.ensures.rows ∙ (λ i. on_chunk c.args.chunk (shut_at (before.time i)) (before.rows i)) ∙ moved;
      top = λ m first rise. subst (λ (k : ℕ). k < m) (sym c.close.ensures.top) (before.top m first rise);
      flights = λ link. carried_shut s n h out link _ (before.flights link);
      time = before.time;
      ticks = before.ticks;
      closing = before.closing;
      stopped = before.stopped;
      tally = before.tally;
      numbers = before.numbers;
      fresh = fresh_shut s n h within before.fresh;
      open_owed = λ k still. ap (has_row (chunk_id k)) (sym moved) ∙ has_on_chunk (chunk_id k) (chunk_id n) (shut_at (clock h)) (λ row. refl) (rows_of s h) ∙ before.open_owed k (open_left n h k still);
    }
