use Rattle.fwd_replay.proofs.life.renew_keeper.Goals as goal

pub returns : goal.returns
returns c = record { same = c.in_ok-renewed.ensures.same; unasked = c.in_ok-renewed.ensures.notes }
