use Rattle.fwd_live_poll.proofs.sources.Sources.look.Goals as goal

pub returns-in-Some-Link : goal.returns-in-Some-Link
returns-in-Some-Link c = c.look_at_link.ensures c.args.paused
