use Rattle.std.proofs.Common.{◌∙◌, arith}
use Rattle.fwd_table_rows.specs.Slots.{rows_in}
use Rattle.fwd_table.proofs.Usage.{rows_are}
use Rattle.fwd_table_rows.proofs.SlotChanges.{few_standing}
use Rattle.fwd_table.proofs.table.Table.len.Goals as goal

pub overflow_cast-result : goal.overflow_cast-result
overflow_cast-result c =
    let is = rows_are c.self.inside.sums (rows_in c.self.inside.places.items) c.self.invariant.kept.summed in
    let few = few_standing c.self.inside.places.items in
    omega (arith, c.rows.ensures, is, few)

pub returns : goal.returns
returns c = rw (← c.self.view_is) (c.rows.ensures ∙ rows_are c.self.inside.sums (rows_in c.self.inside.places.items) c.self.invariant.kept.summed)
