use Rattle.std.proofs.Common.{◌≡◌, ◌∷◌, List, refl, sym, ◌∙◌, ap, subst, map}
use Rattle.std.specs.Prelude.{filter}
use Rattle.fwd_table.specs.Rows.{has_row}
use Rattle.fwd_model.specs.Fact.{Accepted, NoChunk}
use Rattle.fwd_model.specs.Chunks.{ChunkInfo, chunks_of, next}
use Rattle.fwd_model.specs.Routes.{is_owed, row_of, rows_of}
use Rattle.fwd_engine_state.specs.Views.{chunk_id}
use Rattle.fwd_engine_state.specs.StateRepresents.{NumbersRise}
use Rattle.fwd_engine_state.proofs.RowChanges.{no_more}
use Rattle.fwd_engine_state.proofs.ChunksAndAttempts.{open_same, fresh_accepted, carried_nowhere}
use Rattle.fwd_engine_state.proofs.state.State.accept_unrouted.Goals as goal

pub returns : goal.returns
returns c b to many s h out before =
    let same : rows_of s h ≡ rows_of s (Accepted b NoChunk ∷ h) = ap (λ (cs : List ChunkInfo). map (row_of s h) (filter (is_owed s h) cs)) (sym (no_more (chunks_of h))) in
    record {
      rows = before.rows ∙ same;
      top = λ n first rise. before.top n first (subst (NumbersRise 0 n) (no_more (chunks_of h)) rise);
      flights = λ link. carried_nowhere s b h out link _ (before.flights link);
      time = before.time;
      ticks = before.ticks;
      closing = before.closing;
      stopped = before.stopped;
      tally = c.add_accepted.ensures s h b NoChunk to many before.tally;
      numbers = subst (NumbersRise 0 (next h)) (sym (no_more (chunks_of h))) before.numbers;
      fresh = fresh_accepted s b NoChunk h (λ k above. refl) before.fresh;
      open_owed = λ k is. ap (has_row (chunk_id k)) (sym same) ∙ before.open_owed k (open_same b 0 h k is);
    }
