use Rattle.std.proofs.Common.{take}
use Rattle.fwd_table_rows.specs.Slots.{rows_in}
use Rattle.fwd_table_rows.specs.Sums.{AreSums}
use Rattle.fwd_table_rows.proofs.slot.sums_of.Given as goal

abbrev pub invariant-loop-index : goal.invariant-loop-index
invariant-loop-index l = AreSums l.sums (rows_in (take l.index l.places.items))
