use Rattle.std.proofs.Common.{◌≡◌, ◌^◌, ◌-◌, ◌<◌, arith, subst}
use Rattle.fwd_float.specs.Format.{format_of}
use Rattle.fwd_float.specs.Ratio.{units_of}
use Rattle.fwd_float.specs.Shortest.{digits_below}
use Rattle.fwd_float.proofs.Quotients.{small_at_top}
use Rattle.fwd_float.proofs.window.raised.Goals as goal

pub returns-after-up-clause-small : goal.returns-after-up-clause-small
returns-after-up-clause-small c =
    let f = format_of c.args.precision in
    let at : 800 ≡ c.up.power = omega arith in
    subst (λ q. digits_below f (units_of c.args.size) q < 2 ^ 64 - 1) at (small_at_top f c.args.size.significand c.args.size.exponent c.requires.significand c.requires.exponent)
