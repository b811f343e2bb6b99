use Rattle.fwd_table.proofs.table.Table.owed.Goals as goal

pub returns-in-Some-clause-bits : goal.returns-in-Some-clause-bits
returns-in-Some-clause-bits c = rw (← c.self.view_is, ← c.find_row.ensures, c.in-Some.is) c.owed.ensures.bits
