use Rattle.fwd_theorem_steps.proofs.CompletedReads.{no_line_is_lost, no_message_is_lost}
use Rattle.fwd_theorem_steps.proofs.streams.reads_complete_the_rest.Goals as goal

pub returns-clause-lines : goal.returns-clause-lines
returns-clause-lines c before piece = no_line_is_lost before piece

pub returns-clause-messages : goal.returns-clause-messages
returns-clause-messages c before piece = no_message_is_lost before piece
