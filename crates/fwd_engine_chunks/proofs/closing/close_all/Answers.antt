use Rattle.std.proofs.Common.{◌≡◌, ℕ, ◌+◌, not, List, None, drop, get_or, map, filter, refl, sym, ◌∙◌, ap, subst, arith}
use Rattle.std.proofs.lemmas.List.{drop_more, drop_all}
use Rattle.fwd_base.specs.declared.ids.ChunkId.{ChunkId}
use Rattle.fwd_table.specs.Row.{Row}
use Rattle.fwd_model.specs.Fact.{History}
use Rattle.fwd_model.specs.Chunks.{ChunkInfo, open_chunks}
use Rattle.fwd_model.specs.CloseActions.{closes_chunk, closes_all}
use Rattle.fwd_model.proofs.Actions.{stays, goes_on, leads_bind, begun_bind, begun_trans}
use Rattle.fwd_model.proofs.Refinement.{refines_err}
use Rattle.fwd_engine_state.proofs.RowChanges.{mapped_twice}
use Rattle.fwd_engine_state.specs.RefinesAction.{with_disk}
use Rattle.fwd_engine_chunks.proofs.ActionResults.{ended, leads_same}
use Rattle.fwd_engine_chunks.proofs.ClosedChunks.{closes_by, AreOpen, Closed, shuts_closed, open_still, all_open, rows_open, all_is, may_close}
use Rattle.fwd_engine_chunks.proofs.closing.close_all.Goals as goal

pub returns-in_err-chunks-clause-acts : goal.returns-in_err-chunks-clause-acts
returns-in_err-chunks-clause-acts g c others h shows =
    refines_err _ (closes_all c.args.run.now h) c.from_residual.result c.from_residual.ensures.0 (_, stays (with_disk (g.D.Disk.call_log c.args.disk.now) others) _)

pub loop-chunk-init : goal.loop-chunk-init
loop-chunk-init g c = (
  omega arith,
  λ others h shows.
      let s = c.args.run.now in
      let numbers_are : map (λ (chunk : ChunkId). chunk.0) c.deref-chunk-items.result.now ≡ map (λ (c : ChunkInfo). c.number) (open_chunks h) =
      ap (map (λ (chunk : ChunkId). chunk.0)) (c.deref-chunk-items.ensures.value ∙ c.in_ok-chunks.ensures)
      ∙ mapped_twice (λ (chunk : ChunkId). chunk.0) (λ (row : Row). row.chunk) (λ (row : Row). row.chunk.0) (λ row. refl) (filter (λ (row : Row). not row.shut) c.table.result.now.rows)
      ∙ ap (λ (rows : List Row). map (λ (row : Row). row.chunk.0) (filter (λ (row : Row). not row.shut) rows)) (c.table.ensures s h None shows.state)
      ∙ rows_open s h shows.state.numbers shows.state.open_owed in (
        h,
        shows,
        subst (λ (ns : List ℕ). AreOpen h ns) (sym numbers_are) (all_open h shows.state.numbers),
        leads_same (with_disk (g.D.Disk.call_log c.args.disk.now) others) _ _ (all_is s h ∙ ap (λ (ns : List ℕ). closes_by s ns h) (sym numbers_are)),
      ),
)

pub returns-in_err-close-clause-acts : goal.returns-in_err-close-clause-acts
returns-in_err-close-clause-acts g c others h shows =
    let s = c.args.run.now in
    let so_far = c.loop-chunk.invariant.1 others h shows in
    let none : ChunkId = record { 0 = 0 } in
    let more = drop_more c.deref-chunk-items.result.now c.loop-chunk.chunk-index none c.loop-chunk-test.true in
    let n : ℕ = (get_or c.deref-chunk-items.result.now c.loop-chunk.chunk-index none).0 in
    let ns : List ℕ = map (λ (chunk : ChunkId). chunk.0) (drop (c.loop-chunk.chunk-index + 1) c.deref-chunk-items.result.now) in
    let each = rw more at so_far.2 in
    let left = rw more at so_far.3 in
    refines_err _ (closes_all s h) c.from_residual-in_err-close.result c.from_residual-in_err-close.ensures.0
    (begun_trans left (begun_bind {p = closes_chunk s n so_far.0} (closes_by s ns) (c.in_err-close.ensures.acts others so_far.0 (may_close s c.loop-chunk.parts so_far.0 n so_far.1 each.0 each.1))))

pub loop-chunk-preserved : goal.loop-chunk-preserved
loop-chunk-preserved g c = (
  let before = c.loop-chunk.invariant.0 in let later = c.in_ok-close.ensures.later in omega (arith, before, later),
  λ others h shows.
      let s = c.args.run.now in
      let so_far = c.loop-chunk.invariant.1 others h shows in
      let now : History = so_far.0 in
      let none : ChunkId = record { 0 = 0 } in
      let more = drop_more c.deref-chunk-items.result.now c.loop-chunk.chunk-index none c.loop-chunk-test.true in
      let n : ℕ = (get_or c.deref-chunk-items.result.now c.loop-chunk.chunk-index none).0 in
      let ns : List ℕ = map (λ (chunk : ChunkId). chunk.0) (drop (c.loop-chunk.chunk-index + 1) c.deref-chunk-items.result.now) in
      let each = rw more at so_far.2 in
      let left = rw more at so_far.3 in
      let acted = c.in_ok-close.ensures.acts others now (may_close s c.loop-chunk.parts now n so_far.1 each.0 each.1) in
      let closed : Closed n now acted.result = ended (Closed n now) (closes_chunk s n now) acted.result acted.did (shuts_closed s n now) in (
        acted.result,
        acted.shows,
        open_still n now acted.result ns closed each.2 each.3,
        goes_on left (leads_bind {p = closes_chunk s n now} (closes_by s ns) acted.did (stays (with_disk (g.D.Disk.call_log c.close.new.disk) others) (closes_by s ns acted.result))),
      ),
)

pub returns-clause-acts : goal.returns-clause-acts
returns-clause-acts g c others h shows =
    let so_far = c.loop-chunk.invariant.1 others h shows in
    let left = rw (drop_all c.loop-chunk.chunk-index c.deref-chunk-items.result.now (omega arith)) at so_far.3 in
    record { result = so_far.0; did = left; shows = so_far.1 }
