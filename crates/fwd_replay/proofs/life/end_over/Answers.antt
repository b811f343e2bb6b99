use Rattle.fwd_replay.proofs.Handover.{over_ends}
use Rattle.fwd_replay.proofs.life.end_over.Goals as goal

pub returns : goal.returns
returns c s begins planned most held named over uncut fits =
    over_ends s begins planned c.args.going.now c.args.disk.now held c.args.keeper.now most fits c.lemma_have_answered.ensures c.args.named.now.shown over c.in_ok-text.text uncut (c.in_ok-text.ensures s over.history over.at named)
