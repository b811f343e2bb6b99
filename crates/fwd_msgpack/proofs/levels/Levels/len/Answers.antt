use Rattle.std.proofs.Common.{sym}
use Rattle.fwd_msgpack.proofs.LevelCounts.{length_first}
use Rattle.fwd_msgpack.proofs.levels.Levels.len.Goals as goal

pub returns : goal.returns
returns c = rw (← c.self.view_is) (sym (length_first c.self.inside.counts.items c.self.inside.depth))
