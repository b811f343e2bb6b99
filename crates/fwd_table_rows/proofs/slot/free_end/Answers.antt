use Rattle.std.specs.Prelude.{All}
use Rattle.std.proofs.Common.{◌<◌}
use Rattle.fwd_table_rows.specs.declared.row.Row.{Row}
use Rattle.fwd_table_rows.specs.Slots.{rows_in}
use Rattle.fwd_table_rows.proofs.SlotChanges.{below_rows}
use Rattle.fwd_table_rows.proofs.slot.free_end.Goals as goal

pub returns-then-not-end_below-clause-below : goal.returns-then-not-end_below-clause-below
returns-then-not-end_below-clause-below c =
    let below : All (λ (row : Row). row.chunk.0 < c.args.chunk.0) (rows_in c.close_gaps.new.places.items) = rw c.close_gaps.ensures.rows c.requires.above in
    below_rows c.args.chunk.0 c.close_gaps.new.places.items (c.close_gaps.ensures.own c.requires.own) c.close_gaps.ensures.full below
