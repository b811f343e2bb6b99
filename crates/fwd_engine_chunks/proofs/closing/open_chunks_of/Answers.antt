use Rattle.std.proofs.Common.{List, [], ◌∷◌, ◌++◌, map, filter, not, sym, ◌∙◌, ap, Vec, Global, arith}
use Rattle.fwd_base.specs.declared.ids.ChunkId.{ChunkId}
use Rattle.fwd_table.specs.Row.{Row}
use Rattle.fwd_table.proofs.SlotRows.{all_places}
use Rattle.fwd_engine_chunks.proofs.Scans.{open_more, open_same, open_none}
use Rattle.fwd_engine_chunks.proofs.closing.open_chunks_of.Goals as goal
use Rattle.fwd_engine_chunks.proofs.closing.open_chunks_of.Goals.{in-Some+then-not-row+in_ok-push, in-Some+else-not-row, in_default}

pub loop-place-preserved : goal.loop-place-preserved
loop-place-preserved c =
    elim c.match-row.branch [
      | in-Some+then-not-row+in_ok-push w ↦
          ap (λ (v : Vec ChunkId Global). v.items) w.chunks-is
          ∙ w.in_ok-push.ensures.items
          ∙ ap (λ (l : List ChunkId). l ++ w.in-Some.row.chunk ∷ []) c.loop-place.invariant
          ∙ sym (open_more c.args.table.now.places c.loop-place.place w.in-Some.row w.in-Some.ensures.value w.if-not-row.true)
      | in-Some+else-not-row w ↦
          ap (λ (v : Vec ChunkId Global). v.items) w.chunks-is
          ∙ c.loop-place.invariant
          ∙ sym (open_same c.args.table.now.places c.loop-place.place w.in-Some.row w.in-Some.ensures.value w.if-not-row.false)
      | in_default w ↦
          ap (λ (v : Vec ChunkId Global). v.items) w.chunks-is
          ∙ c.loop-place.invariant
          ∙ sym (open_none c.args.table.now.places c.loop-place.place (sym w.in_default.is ∙ c.row.ensures.value))
    ]

pub returns : goal.returns
returns c =
    let all = all_places c.args.table.now.places c.loop-place.place (omega (arith, c.places-place-end.ensures.count)) in
    c.loop-place.invariant ∙ ap (λ (rows : List Row). map (λ (row : Row). row.chunk) (filter (λ (row : Row). not row.shut) rows)) (all ∙ sym c.places-place-end.ensures.rows)
