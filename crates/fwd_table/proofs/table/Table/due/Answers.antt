use Rattle.fwd_table_rows.proofs.SlotChanges.{timers_standing}
use Rattle.fwd_table.proofs.table.Table.due.Goals as goal

pub returns-clause-due : goal.returns-clause-due
returns-clause-due c = rw (← c.self.view_is, timers_standing c.self.inside.places.items) c.due_in.ensures
