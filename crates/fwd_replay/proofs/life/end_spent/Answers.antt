use Rattle.fwd_replay.proofs.Handover.{spent_ends}
use Rattle.fwd_replay.proofs.life.end_spent.Goals as goal

pub returns : goal.returns
returns c s begins planned held named under =
    spent_ends s begins planned c.args.named.now.shown c.args.going.now c.args.disk.now held c.args.keeper.now c.lemma_have_answered.ensures under c.in_ok-text.text (c.in_ok-text.ensures s under.history under.at named)
