use Rattle.std.proofs.Common.{refl}
use Rattle.fwd_theorem_steps.proofs.ConnectionBytes.{came_from_start, came_since_end}
use Rattle.fwd_theorem_steps.proofs.streams.standard_inputs_hold_what_came.Goals as goal

pub returns-clause-never : goal.returns-clause-never
returns-clause-never c s h input set at kind on = came_from_start s input set at kind h on

pub returns-clause-since : goal.returns-clause-since
returns-clause-since c s later before input set at kind on = came_since_end s input.0 set at kind later before input refl on
