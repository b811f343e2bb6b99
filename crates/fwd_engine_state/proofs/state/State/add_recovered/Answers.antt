use Rattle.std.proofs.Common.{ℕ, ◌<◌, ◌≤◌, ◌∷◌, ◌++◌, [], None, refl, sym, ◌∙◌, ap, subst, arith}
use Rattle.fwd_outside.specs.declared.home.Home.TheVariants.{Disk}
use Rattle.fwd_table.specs.Rows.{has_row, on_chunk, opened, shut_at}
use Rattle.fwd_model.specs.Chunks.{chunks_of, next}
use Rattle.fwd_model.specs.Routes.{rows_of}
use Rattle.fwd_engine_state.specs.Views.{chunk_id}
use Rattle.fwd_engine_state.specs.StateRepresents.{NumbersRise}
use Rattle.fwd_engine_state.proofs.RowsAddedAndRemoved.{chunks_found, rows_found}
use Rattle.fwd_engine_state.proofs.RecoveredFiles.{loads_is, rise_found}
use Rattle.fwd_engine_state.proofs.ChunkOrder.{next_least, rise_later, rise_last}
use Rattle.fwd_engine_state.proofs.PendingRows.{has_on_chunk, has_also}
use Rattle.fwd_engine_state.proofs.ChunksAndAttempts.{open_found, fresh_found, carried_found}
use Rattle.fwd_engine_state.proofs.state.State.add_recovered.Goals as goal

pub returns : goal.returns
returns c stream name bytes s h out before is =
    let n = c.args.chunk.0 in
    let past : next h ≤ n = is.0 in
    let it = is.1 in
    let least = next_least h in
    let above : c.args.self.now.chunks.top < n = before.top n (omega (arith, past, least)) (rise_later 0 (next h) n (chunks_of h) before.numbers past) in
    let fresh = before.fresh n past in
    let moved = rows_found s n stream name bytes h fresh it.chunk it.found c.args.owed it.mask (next h) before.numbers past in
    record {
      rows = c.close.ensures.rows ∙ ap (on_chunk c.args.chunk (shut_at 0)) (c.insert.ensures.rows above ∙ (λ i. before.rows i ++ opened c.args.chunk None Disk (sym it.of_tag i) (sym it.of_size i) c.args.owed ∷ [])) ∙ moved;
      top = λ m first rise. subst (λ (k : ℕ). k < m) (sym (c.close.ensures.top ∙ c.insert.ensures.top above)) (rise_last 0 m (chunks_of h) _ (subst (NumbersRise 0 m) (chunks_found s n stream name bytes h fresh it.chunk it.found) rise));
      flights = λ link. carried_found s n stream name bytes h out link _ past (before.flights link);
      time = before.time;
      ticks = before.ticks;
      closing = before.closing;
      stopped = before.stopped;
      tally = c.add_loaded.ensures s h n stream name bytes (loads_is s bytes it.chunk it.found it.mask.some) before.tally;
      numbers = rise_found n stream name bytes h past before.numbers;
      fresh = fresh_found s n stream name bytes h before.fresh;
      open_owed = λ k still. ap (has_row (chunk_id k)) (sym moved) ∙ has_on_chunk (chunk_id k) (chunk_id n) (shut_at 0) (λ row. refl) _ ∙ has_also (chunk_id k) (rows_of s h) _ (before.open_owed k (open_found n stream name bytes h k still));
    }
