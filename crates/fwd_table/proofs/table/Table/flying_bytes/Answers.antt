use Rattle.fwd_table_rows.specs.Slots.{rows_in}
use Rattle.fwd_table.proofs.Usage.{flying_are}
use Rattle.fwd_table.proofs.table.Table.flying_bytes.Goals as goal

pub returns : goal.returns
returns c = rw (← c.self.view_is) (flying_are c.args.output c.self.inside.sums (rows_in c.self.inside.places.items) c.flying_bytes.result c.flying_bytes.ensures c.self.invariant.kept.summed c.self.invariant.kept.sound)
