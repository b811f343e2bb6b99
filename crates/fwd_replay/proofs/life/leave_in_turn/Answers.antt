use Rattle.fwd_replay.proofs.ShownText.{text_is}
use Rattle.fwd_replay.proofs.life.leave_in_turn.Goals as goal

pub returns : goal.returns
returns g c s begins planned named ready =
    let h = ready.history in
    let below = ready.below in
    (h, below, c.in_ok-cut_turn.ensures s begins planned ready, text_is c.args.named.now.shown s planned c.args.going.now.secure.below.call_log below h c.in_ok-text.text ready.stands.loop.below (c.in_ok-text.ensures s h ready.at named))
