use Rattle.std.proofs.Common.{Bool, ap}
use Rattle.std.specs.Prelude.{◌&&◌}
use Rattle.fwd_retry.specs.declared.timer.Timer.{Timer}
use Rattle.fwd_table_rows.specs.Routes.{is_next_to}
use Rattle.fwd_table_rows.specs.Rows.{idle_timers_of}
use Rattle.fwd_table_rows.specs.Slots.{rows_in}
use Rattle.fwd_table.specs.DueIndex.{is_among, is_listed}
use Rattle.fwd_table.proofs.DueIndex.{first_listed, first_same, none_to_none}
use Rattle.fwd_table.proofs.table.Table.next_due_to.Goals as goal

pub returns-then-outputs-eq0-clause-next : goal.returns-then-outputs-eq0-clause-next
returns-then-outputs-eq0-clause-next c = rw c.if-outputs-eq0.true (none_to_none c.args.now c.args.after (idle_timers_of c.args.self.now.rows))

pub returns-clause-next : goal.returns-clause-next
returns-clause-next c =
    let ts = idle_timers_of (rows_in c.self.inside.places.items) in
    let next : Timer → Bool = λ t. is_next_to c.args.now c.args.outputs c.args.after t in
    rw (← c.self.view_is)
    (first_listed next ts c.next-next.result
    (first_same (λ (t : Timer). is_listed c.in_ok-index.index t && next t) (λ (t : Timer). is_among ts t && next t) c.next-next.result (λ t. ap (λ (b : Bool). b && next t) (c.in_ok-index.ensures.index t)) c.next-next.ensures))
