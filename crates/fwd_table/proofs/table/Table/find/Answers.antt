use Rattle.fwd_table_rows.specs.Slots.{rows_in}
use Rattle.fwd_table_rows.proofs.ChunkRows.{alone_in}
use Rattle.fwd_table.proofs.table.Table.find.Goals as goal

pub returns-in_err-row-clause-alone : goal.returns-in_err-row-clause-alone
returns-in_err-row-clause-alone c = rw (← c.self.view_is) (alone_in c.args.chunk (rows_in c.self.inside.places.items) c.self.invariant.kept.rise)

pub returns-clause-alone : goal.returns-clause-alone
returns-clause-alone c = rw (← c.self.view_is) (alone_in c.args.chunk (rows_in c.self.inside.places.items) c.self.invariant.kept.rise)
