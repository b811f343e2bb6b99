use Rattle.fwd_in_forward.proofs.NextMessage.{next_is}
use Rattle.fwd_in_forward.proofs.read_message.MessageReadMessage.read_next.Goals as goal

pub returns-clause-is : goal.returns-clause-is
returns-clause-is c = next_is c.args.bytes.now c.read_message.result c.next_of.result c.read_message.ensures.answer c.next_of.ensures
