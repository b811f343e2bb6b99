use Rattle.fwd_theorem_trace.proofs.WaitCounts.{turn_waits_once, turn_waits_first}
use Rattle.fwd_theorem_trace.proofs.waits.turns_wait_once.Goals as goal

pub returns-clause-whole : goal.returns-clause-whole
returns-clause-whole c s ticks h lived entries way = turn_waits_once s ticks h lived entries way

pub returns-clause-broken_off : goal.returns-clause-broken_off
returns-clause-broken_off c s ticks h entries left way = turn_waits_first s ticks h entries left way
