use Rattle.std.proofs.Common.{arith}
use Rattle.fwd_table_rows.specs.declared.row.RowChange.TheVariants.{Shuts, Changes, Resolves}
use Rattle.fwd_table_rows.proofs.RowSums.{change_sound}
use Rattle.fwd_table_rows.proofs.row.Row.apply.Goals as goal

pub returns-in-Shuts-clause-sound : goal.returns-in-Shuts-clause-sound
returns-in-Shuts-clause-sound c sound = rw c.begin.ensures (change_sound (Shuts c.in-Shuts.now) c.args.self.now (omega arith) sound)

pub returns-in-Changes-clause-sound : goal.returns-in-Changes-clause-sound
returns-in-Changes-clause-sound c sound = rw c.change.ensures (change_sound (Changes c.in-Changes.output c.in-Changes.change) c.args.self.now (omega arith) sound)

pub returns-in-Resolves-clause-sound : goal.returns-in-Resolves-clause-sound
returns-in-Resolves-clause-sound c sound = rw c.remove.ensures (change_sound (Resolves c.in-Resolves.output) c.args.self.now (omega arith) sound)
