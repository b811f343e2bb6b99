use Rattle.std.proofs.Common.{◌∙◌}
use Rattle.fwd_table_rows.specs.Slots.{rows_in}
use Rattle.fwd_table.proofs.Usage.{memory_is}
use Rattle.fwd_table.proofs.table.Table.memory_bytes.Goals as goal

pub returns : goal.returns
returns c = rw (← c.self.view_is) (c.memory.ensures ∙ memory_is c.args.input.0 c.self.inside.sums (rows_in c.self.inside.places.items) c.requires c.self.invariant.kept.summed c.self.invariant.kept.sound)
