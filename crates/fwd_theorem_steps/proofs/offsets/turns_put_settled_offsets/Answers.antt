use Rattle.fwd_theorem_steps.proofs.TurnPuts.{turn_puts}
use Rattle.fwd_theorem_steps.proofs.offsets.turns_put_settled_offsets.Goals as goal

pub returns : goal.returns
returns c s ticks h lived entries way loop_stands = turn_puts s ticks h lived entries way loop_stands
