use Rattle.std.proofs.Common.{◌≡◌, ◌-◌, get_or, sym, arith}
use Rattle.std.proofs.lemmas.List.{get_or_read}
use Rattle.fwd_msgpack.proofs.LevelCounts.{some_open, innermost_at}
use Rattle.fwd_msgpack.proofs.levels.Levels.missing.Goals as goal

pub returns : goal.returns
returns c =
    let counts = c.self.inside.counts.items in
    let n = c.self.inside.depth in
    let wants = rw (← c.self.view_is) at c.requires in
    let some = some_open counts n wants in
    let read : c.index.result.now ≡ get_or counts (n - 1) 0 = get_or_read counts (n - 1) c.index.result.now (omega (arith, c.self.invariant, some)) c.index.ensures 0 in
    rw (read, ← c.self.view_is) (sym (innermost_at counts n some.0))
