use Rattle.std.proofs.Common.{◌≡◌, ℕ, ◌<◌, ◌∷◌, ◌++◌, [], Some, inl, inr, sym, ◌∙◌, ap, subst, arith}
use Rattle.std.specs.Prelude.{◌==◌}
use Rattle.std.proofs.lemmas.Bool.{cases_Bool}
use Rattle.fwd_table.specs.Rows.{has_row, opened}
use Rattle.fwd_model.specs.Fact.{Accepted, NewChunk}
use Rattle.fwd_model.specs.Settings.{home_at}
use Rattle.fwd_model.specs.Chunks.{chunks_of, next}
use Rattle.fwd_model.specs.Routes.{rows_of}
use Rattle.fwd_engine_state.specs.Views.{chunk_id}
use Rattle.fwd_engine_state.proofs.RowsAddedAndRemoved.{rows_first}
use Rattle.fwd_engine_state.proofs.ChunkOrder.{rise_append, rise_last}
use Rattle.fwd_engine_state.proofs.PendingRows.{has_also, has_last}
use Rattle.fwd_engine_state.proofs.ChunksAndAttempts.{open_others, fresh_accepted, within_next, carried_first}
use Rattle.fwd_engine_state.proofs.state.State.begin_chunk.Goals as goal

pub returns : goal.returns
returns c b to of many size s h out before is =
    let n = c.args.chunk.0 in
    let new = is.2 in
    let above : c.args.self.now.chunks.top < n = before.top n new.first new.behind in
    let home = sym (ap (home_at s) to ∙ is.0) in
    let moved = rows_first s b n c.args.owed h is.1 new.fresh new.behind in
    let has : (k : ℕ) → has_row (chunk_id k) (rows_of s (Accepted b (NewChunk n) ∷ h)) ≡ has_row (chunk_id k) (rows_of s h ++ opened (chunk_id n) _ _ _ _ c.args.owed ∷ []) = λ k. ap (has_row (chunk_id k)) (sym moved) in
    record {
      rows = c.insert.ensures.rows above ∙ (λ i. before.rows i ++ opened c.args.chunk (Some (record { 0 = sym to i })) (home i) (sym of i) (sym size i) c.args.owed ∷ []) ∙ moved;
      top = λ m first rise. subst (λ (k : ℕ). k < m) (sym (c.insert.ensures.top above)) (rise_last 0 m (chunks_of h) _ rise);
      flights = λ link. carried_first s b n h out link _ new.fresh.0 (before.flights link);
      time = before.time;
      ticks = before.ticks;
      closing = before.closing;
      stopped = before.stopped;
      tally = c.add_accepted.ensures s h b (NewChunk n) to many before.tally;
      numbers = rise_append 0 n (next h) (chunks_of h) _ new.behind (omega arith) (omega arith) new.given;
      fresh = fresh_accepted s b (NewChunk n) h (within_next n h new.given) before.fresh;
      open_owed = λ k still. has k ∙ elim (cases_Bool (n == k)) [ inl same ↦ has_last (chunk_id k) (rows_of s h) _ same | inr differs ↦ has_also (chunk_id k) (rows_of s h) _ (before.open_owed k (open_others b n h k differs still)) ];
    }
