use Rattle.std.proofs.Common.{◌∙◌}
use Rattle.fwd_table_rows.specs.Slots.{rows_in}
use Rattle.fwd_table.proofs.Usage.{found_are}
use Rattle.fwd_table.proofs.table.Table.found_bytes.Goals as goal

pub returns : goal.returns
returns c = rw (← c.self.view_is) (c.found_up.ensures ∙ found_are c.self.inside.sums (rows_in c.self.inside.places.items) c.self.invariant.kept.summed c.self.invariant.kept.sound)
