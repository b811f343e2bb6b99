use Rattle.std.proofs.Common.{◌&&◌, not, List, refl, sym, ap, ◌∙◌, arith}
use Rattle.fwd_table.specs.Row.{Row}
use Rattle.fwd_table.specs.Rows.{is_row_of}
use Rattle.fwd_table.specs.Usage.{in_file, is_waiting}
use Rattle.fwd_table.proofs.SlotRows.{all_places, none_seen}
use Rattle.fwd_limits.specs.declared.chunk_state.ChunkState.{ChunkState}
use Rattle.fwd_limits.specs.ChunkState.{state_of, waits_beside}
use Rattle.fwd_limits.specs.Evictions.{first_chunk, other_waiting}
use Rattle.fwd_limits.proofs.Sums.{none_goes, first_is}
use Rattle.fwd_limits.proofs.eviction.first_waiting.Goals as goal
use Rattle.fwd_limits.proofs.eviction.first_waiting.Goals.{in-Some+else-is_other, in_default}

pub returns-then-is_other : goal.returns-then-is_other
returns-then-is_other c =
    first_is (state_of c.args.output) (waits_beside c.args.chunk) (λ (row : Row). in_file row && (is_waiting c.args.output row && not (is_row_of c.args.chunk row))) (λ row. refl)
    c.args.table.now.places c.loop-place.place (λ (look : ChunkState). look.chunk) (λ row. refl) c.in-Some.look c.in-Some.ensures (sym c.is_other.ensures ∙ c.if-is_other.true) c.loop-place.invariant
    ∙ ap (λ (rows : List Row). first_chunk (other_waiting c.args.output c.args.chunk rows)) (sym c.places-place-end.ensures.rows)

pub loop-place-preserved : goal.loop-place-preserved
loop-place-preserved c =
    elim c.match-state_in_slot.branch [
      | in-Some+else-is_other w ↦
          none_goes (state_of c.args.output) (waits_beside c.args.chunk) (λ (row : Row). in_file row && (is_waiting c.args.output row && not (is_row_of c.args.chunk row))) (λ row. refl)
          c.args.table.now.places c.loop-place.place w.in-Some.look w.in-Some.ensures (sym w.is_other.ensures ∙ w.if-is_other.false) c.loop-place.invariant
      | in_default w ↦
          ap (other_waiting c.args.output c.args.chunk) (none_seen (state_of c.args.output) c.args.table.now.places c.loop-place.place (sym w.in_default.is ∙ c.state_in_slot.ensures))
          ∙ c.loop-place.invariant
    ]

pub returns : goal.returns
returns c =
    let all = all_places c.args.table.now.places c.loop-place.place (omega (arith, c.places-place-end.ensures.count)) in
    sym (ap first_chunk (ap (other_waiting c.args.output c.args.chunk) (c.places-place-end.ensures.rows ∙ sym all) ∙ c.loop-place.invariant))
