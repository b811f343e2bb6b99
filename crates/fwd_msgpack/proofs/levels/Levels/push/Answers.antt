use Rattle.std.proofs.Common.{length, ap, arith}
use Rattle.fwd_msgpack.proofs.LevelCounts.{pushed, length_first}
use Rattle.fwd_msgpack.proofs.levels.Levels.push.Goals as goal

pub returns : goal.returns
returns c =
    let size = length_first c.self.inside.counts.items c.self.inside.depth in
    rw (← c.self.view_is) (pushed c.self.inside.counts.items c.self.inside.depth c.args.wanted (omega (arith, c.self.invariant, size, ap length c.self.view_is, c.requires)))
