use Rattle.std.specs.Prelude.{◌&&◌, nat_lt}
use Rattle.fwd_retry.specs.declared.timer.Timer.{Timer}
use Rattle.fwd_table_rows.specs.Routes.{is_next_to}
use Rattle.fwd_table.specs.DueIndex.{is_listed, IsFirstThat}
use Rattle.fwd_table.proofs.due_index.DueIndex.next.Given as goal

abbrev pub invariant-loop-output : goal.invariant-loop-output
invariant-loop-output l =
    IsFirstThat (λ (timer : Timer). is_listed l.self timer && (is_next_to l.now l.outputs l.after timer && nat_lt timer.output.0 l.output)) l.first
