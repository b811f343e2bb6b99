use Rattle.std.proofs.Common.{refl}
use Rattle.fwd_model.specs.Fact.{LineStream, MessageStream}
use Rattle.fwd_theorem_steps.proofs.ConnectionBytes.{Lines, Messages, nothing_kept, came_since, left_by_end}
use Rattle.fwd_theorem_steps.proofs.streams.connections_hold_what_came.Goals as goal

pub returns-clause-joined : goal.returns-clause-joined
returns-clause-joined c s later before input conn set stream at kind none lasts = came_since s input conn set stream at kind later before none lasts

pub returns-clause-left : goal.returns-clause-left
returns-clause-left c s h input conn fact joined ends = left_by_end s h input conn fact joined ends

pub returns-clause-lines : goal.returns-clause-lines
returns-clause-lines c s h conn none = nothing_kept s conn (LineStream conn) (Lines refl) h none

pub returns-clause-messages : goal.returns-clause-messages
returns-clause-messages c s h conn none = nothing_kept s conn (MessageStream conn) (Messages refl) h none
