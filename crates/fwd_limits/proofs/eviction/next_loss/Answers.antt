use Rattle.std.proofs.Common.{◌≡◌, ◌-◌, min, sym, arith}
use Prim.Native.Nat.{◌^◌}
use Rattle.fwd_limits.specs.Evictions.{fixed}
use Rattle.fwd_limits.proofs.LowestChunks.{fits_by}
use Rattle.fwd_limits.proofs.eviction.next_loss.Goals as goal

pub returns-then-others_bytes-limit : goal.returns-then-others_bytes-limit
returns-then-others_bytes-limit c =
    let limit : c.from-limit.result ≡ c.args.limit = c.from-limit.ensures in
    let both : c.saturating_add-fixed.result ≡ min (fixed c.args.output c.args.chunk c.args.table.now.rows) (2 ^ 128 - 1) = omega (arith, c.saturating_add-fixed.ensures, c.flying_bytes.ensures, c.from-own.ensures, c.own_bytes.ensures) in
    sym
    (fits_by c.args.output c.args.limit c.args.chunk c.args.table.now.rows c.saturating_add-fixed.result (2 ^ 128 - 1) both (omega (arith, limit, c.if-fixed-limit.false)) (omega (arith, c.ranges.limit))
    (omega (arith, limit, c.others_bytes.ensures, c.if-others_bytes-limit.true)))
