use Rattle.std.proofs.Common.{ℕ, ◌<◌, refl, sym, ◌∙◌, ap, subst}
use Rattle.fwd_table.specs.Rows.{has_row, on_chunk, grown}
use Rattle.fwd_model.specs.Fact.{AppendedTo}
use Rattle.fwd_model.specs.Chunks.{chunks_of, next}
use Rattle.fwd_model.specs.Routes.{rows_of}
use Rattle.fwd_engine_state.specs.Views.{chunk_id}
use Rattle.fwd_engine_state.specs.StateRepresents.{NumbersRise}
use Rattle.fwd_engine_state.proofs.RowChanges.{no_more, rows_grown}
use Rattle.fwd_engine_state.proofs.PendingRows.{has_on_chunk}
use Rattle.fwd_engine_state.proofs.ChunksAndAttempts.{open_same, fresh_accepted, within_next, carried_behind}
use Rattle.fwd_engine_state.proofs.state.State.grow_chunk.Goals as goal

pub returns : goal.returns
returns c b to many s h out before is =
    let n = c.args.chunk.0 in
    let moved = rows_grown s n c.args.size b h is.1 in
    record {
      rows = c.grow.ensures.rows ∙ ap (on_chunk c.args.chunk (grown c.args.size)) before.rows ∙ moved;
      top = λ m first rise. subst (λ (k : ℕ). k < m) (sym c.grow.ensures.top) (before.top m first (subst (NumbersRise 0 m) (no_more (chunks_of h)) rise));
      flights = λ link. carried_behind s b n h out link _ (before.flights link);
      time = before.time;
      ticks = before.ticks;
      closing = before.closing;
      stopped = before.stopped;
      tally = c.add_accepted.ensures s h b (AppendedTo n) to many before.tally;
      numbers = subst (NumbersRise 0 (next h)) (sym (no_more (chunks_of h))) before.numbers;
      fresh = fresh_accepted s b (AppendedTo n) h (within_next n h is.0) before.fresh;
      open_owed = λ k still. ap (has_row (chunk_id k)) (sym moved) ∙ has_on_chunk (chunk_id k) (chunk_id n) (grown c.args.size) (λ row. refl) (rows_of s h) ∙ before.open_owed k (open_same b n h k still);
    }
