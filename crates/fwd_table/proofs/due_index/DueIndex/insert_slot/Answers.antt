use Rattle.std.proofs.Common.{◌≡◌, List, subst}
use Rattle.std.specs.Prelude.{◌||◌, OnOk}
use Rattle.fwd_retry.specs.declared.timer.Timer.{Timer}
use Rattle.fwd_table.specs.DueIndex.{is_among, is_listed}
use Rattle.fwd_table.proofs.DueIndex.{slot_timers}
use Rattle.fwd_table.proofs.due_index.DueIndex.insert_slot.Goals as goal

pub returns-in-Some : goal.returns-in-Some
returns-in-Some c =
    subst (λ (ts : List Timer). OnOk c.insert_row.result ((timer : Timer) → is_listed c.insert_row.new.self timer ≡ (is_among ts timer || is_listed c.args.self.now timer)))
    (slot_timers c.args.place.now c.in-Some.row c.in-Some.is) c.insert_row.ensures
