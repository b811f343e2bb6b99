use Rattle.fwd_theorem_delivery.proofs.StepReplies.{answers_piece, brings_messages}
use Rattle.fwd_theorem_delivery.proofs.replies.messages_get_their_replies.Goals as goal

pub returns-clause-answered : goal.returns-clause-answered
returns-clause-answered c s h new input conn bytes entries over way = answers_piece s h new input conn bytes entries over way

pub returns-clause-nothing_else : goal.returns-clause-nothing_else
returns-clause-nothing_else c s h brought conn bytes entries left way has = brings_messages s h brought conn bytes entries left way has
