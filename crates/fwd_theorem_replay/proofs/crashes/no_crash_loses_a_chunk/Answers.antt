use Rattle.fwd_theorem_replay.proofs.NextRun.{none_lost}
use Rattle.fwd_theorem_replay.proofs.crashes.no_crash_loses_a_chunk.Goals as goal

pub returns : goal.returns
returns c shown s turns lives reported settings full later is = none_lost s settings full shown turns lives reported later is
