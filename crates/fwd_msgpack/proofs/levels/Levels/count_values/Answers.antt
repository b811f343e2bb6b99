use Rattle.std.proofs.Common.{◌≡◌, ◌-◌, get_or, arith}
use Rattle.std.proofs.lemmas.List.{get_or_read}
use Rattle.fwd_msgpack.proofs.LevelCounts.{taken_many, innermost_some}
use Rattle.fwd_msgpack.proofs.levels.Levels.count_values.Goals as goal

pub returns : goal.returns
returns c =
    let counts = c.self.inside.counts.items in
    let n = c.self.inside.depth in
    let lt = rw (← c.self.view_is) at c.requires in
    let some = innermost_some counts n c.args.n lt in
    let read : c.index_mut.result.now ≡ get_or counts (n - 1) 0 = get_or_read counts (n - 1) c.index_mut.result.now (omega (arith, c.self.invariant, some.0)) c.index_mut.ensures.value 0 in
    rw (read, ← c.self.view_is) (taken_many counts n c.args.n (omega (arith, c.self.invariant)) some.0)
