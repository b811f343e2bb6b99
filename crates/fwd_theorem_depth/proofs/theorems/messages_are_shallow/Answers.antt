use Rattle.fwd_theorem_depth.specs.Shallow.{events_of_content}
use Rattle.fwd_theorem_depth.proofs.Shallow.{all_pass}
use Rattle.fwd_theorem_depth.proofs.MessageDepth.{message_shallow, messages_shallow}
use Rattle.fwd_theorem_depth.proofs.theorems.messages_are_shallow.Goals as goal

pub returns-clause-first : goal.returns-clause-first
returns-clause-first c b s n is = all_pass (events_of_content s) (message_shallow b s n is)

pub returns-clause-all : goal.returns-clause-all
returns-clause-all c = messages_shallow
