use Rattle.fwd_table_rows.specs.Slots.{rows_in}
use Rattle.fwd_table.proofs.Usage.{waiting_are}
use Rattle.fwd_table.proofs.table.Table.waiting_bytes.Goals as goal

pub returns : goal.returns
returns c = rw (← c.self.view_is) (waiting_are c.args.output c.self.inside.sums (rows_in c.self.inside.places.items) c.waiting_bytes.result c.waiting_bytes.ensures c.self.invariant.kept.summed c.self.invariant.kept.sound)
