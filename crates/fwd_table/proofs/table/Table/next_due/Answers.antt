use Rattle.std.proofs.Common.{◌≡◌}
use Rattle.std.specs.Prelude.{filter}
use Rattle.fwd_retry.specs.Timer.{first, is_next}
use Rattle.fwd_retry.proofs.Order.{first_is_first}
use Rattle.fwd_table_rows.specs.Rows.{idle_timers_of}
use Rattle.fwd_table_rows.proofs.SlotChanges.{timers_standing}
use Rattle.fwd_table.proofs.table.Table.next_due.Goals as goal

pub returns-clause-value : goal.returns-clause-value
returns-clause-value c = rw (← c.self.view_is, timers_standing c.self.inside.places.items) c.next_in.ensures

pub returns-clause-first : goal.returns-clause-first
returns-clause-first c =
    let due = filter (is_next c.args.now c.args.after) (idle_timers_of c.args.self.now.rows) in
    let value : c.next_in.result ≡ first due = rw (← c.self.view_is, timers_standing c.self.inside.places.items) c.next_in.ensures in
    rw value (first_is_first due)
