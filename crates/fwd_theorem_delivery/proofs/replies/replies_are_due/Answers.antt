use Rattle.fwd_theorem_delivery.proofs.ReplyRun.{due_reply}
use Rattle.fwd_theorem_delivery.proofs.replies.replies_are_due.Goals as goal

pub returns : goal.returns
returns c s ends ticks turns before rest conn bytes answer left way = due_reply s ends ticks turns before rest conn bytes answer left way
