use Rattle.fwd_frames.proofs.FirstFeed.{IsFirstFeed-found}
use Rattle.fwd_frames.proofs.line_steps.first_feed.Goals as goal

pub returns : goal.returns
returns c = IsFirstFeed-found c.args.bytes.now c.memchr.result c.memchr.ensures
