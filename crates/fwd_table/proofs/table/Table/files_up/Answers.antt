use Rattle.std.proofs.Common.{◌∙◌, arith}
use Rattle.std.specs.Prelude.{◌&&◌}
use Rattle.fwd_table_rows.specs.declared.row.Row.{Row}
use Rattle.fwd_table_rows.specs.Usage.{in_file, flies}
use Rattle.fwd_table_rows.specs.Slots.{rows_in}
use Rattle.fwd_table.proofs.Usage.{files_are, kept_few}
use Rattle.fwd_table_rows.proofs.SlotChanges.{few_standing}
use Rattle.fwd_table.proofs.table.Table.files_up.Goals as goal

pub overflow_cast-result : goal.overflow_cast-result
overflow_cast-result c =
    let rows = rows_in c.self.inside.places.items in
    let is = files_are c.self.inside.sums rows c.self.invariant.kept.summed c.self.invariant.kept.sound in
    let few = kept_few (λ (row : Row). in_file row && flies row) rows in
    let all = few_standing c.self.inside.places.items in
    omega (arith, c.files_up.ensures, is, few, all)

pub returns : goal.returns
returns c = rw (← c.self.view_is) (c.files_up.ensures ∙ files_are c.self.inside.sums (rows_in c.self.inside.places.items) c.self.invariant.kept.summed c.self.invariant.kept.sound)
