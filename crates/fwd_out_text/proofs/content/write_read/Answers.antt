use Rattle.fwd_out_text.proofs.content.write_read.Goals as goal

pub returns-in-None-clause-none : goal.returns-in-None-clause-none
returns-in-None-clause-none c = λ _. c.in_ok-event.ensures.none c.in-None.is
