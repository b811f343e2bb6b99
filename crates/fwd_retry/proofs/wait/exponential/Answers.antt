use Rattle.std.proofs.Common.{◌*◌, ◌^◌, ◌≤◌, arith}
use Rattle.std.proofs.Math.Nat.{pow-le-pow_right}
use Rattle.fwd_retry.proofs.wait.exponential.Goals as goal

pub returns-then-n-ge64 : goal.returns-then-n-ge64
returns-then-n-ge64 c =
    let power : 2 ^ 64 ≤ 2 ^ c.args.n = pow-le-pow_right (omega arith) c.if-n-ge64.true in
    let product : 1 * 2 ^ c.args.n ≤ c.args.base * 2 ^ c.args.n = grind (arith, c.requires) in
    omega (arith, power, product, c.ranges.cap.fits)
