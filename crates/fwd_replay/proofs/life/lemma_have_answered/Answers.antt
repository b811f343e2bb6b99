use Rattle.fwd_replay.proofs.life.lemma_have_answered.Goals as goal

pub returns : goal.returns
returns c = record { disk = c.is_played.ensures; keeper = c.is_played-2.ensures }
