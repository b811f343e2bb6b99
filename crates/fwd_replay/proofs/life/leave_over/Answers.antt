use Rattle.fwd_replay.proofs.Handover.{over_cut}
use Rattle.fwd_replay.proofs.ShownText.{text_is}
use Rattle.fwd_replay.proofs.life.leave_over.Goals as goal

pub returns : goal.returns
returns c s begins planned most named over is fits =
    let h = over.history in
    let crashed = c.in_ok-crash.ensures in (
      h,
      over.below,
      over_cut s begins planned c.args.going.now c.args.disk.now c.crash.new.disk c.args.files.now c.crash.new.files c.args.keeper.now c.crash.new.keeper most c.record_len-since.result c.args.cut over fits c.lemma_have_answered.ensures is c.record_len-since.ensures crashed.0 crashed.1 crashed.2,
      text_is c.args.named.now.shown s planned c.args.going.now.secure.below.call_log over.below h c.in_ok-text.text over.stands.loop.below (c.in_ok-text.ensures s h over.at named),
    )
