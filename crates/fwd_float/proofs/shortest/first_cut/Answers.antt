use Rattle.std.proofs.Common.{◌≡◌, suc, ◌/◌, ◌%◌, ◌^◌, ◌≤◌, sym, ap, ◌∙◌, arith, add-one, mul-pos, pow_pos}
use Rattle.fwd_float.specs.Format.{format_of}
use Rattle.fwd_float.specs.Ratio.{units_of}
use Rattle.fwd_float.specs.Shortest.{units, digits_below}
use Rattle.fwd_float.proofs.Quotients.{below_next, least_power}
use Rattle.fwd_float.proofs.Search.{with_enough}
use Rattle.fwd_float.proofs.shortest.first_cut.Goals as goal

pub returns-clause-cut : goal.returns-clause-cut
returns-clause-cut c =
    let f = format_of c.args.precision in
    let q = c.window-before.result in
    let s = units_of c.size-size.result in
    let digits : c.whole_part-digits.result ≡ digits_below f s q = c.whole_part-digits.ensures ∙ c.new-ratio.ensures.ratio.whole in
    rw c.size-size.ensures.units (record {
      digits = rw add-one (ap (λ x. x / 10) digits ∙ sym (below_next f s q));
      last = ap (λ x. x % 10) digits;
      exact = (λ t. c.new-ratio.ensures.ratio.exact.0 (c.is_whole.ensures.0 t), λ e. c.is_whole.ensures.1 (c.new-ratio.ensures.ratio.exact.1 e));
    })

pub returns-clause-power : goal.returns-clause-power
returns-clause-power c =
    let f = format_of c.args.precision in
    let size = c.size-size.result in
    (least_power f (units_of size) c.window-before.result (mul-pos c.size-size.ensures.significand.0 (pow_pos size.exponent)) c.window-before.ensures.small, c.window-before.ensures.power)

pub returns-clause-reads : goal.returns-clause-reads
returns-clause-reads c =
    let f = format_of c.args.precision in
    let q = c.window-before.result in
    let many : 2 ^ 60 ≤ digits_below f (units f c.args.bits) q = rw c.size-size.ensures.units c.window-before.ensures.large in
    rw add-one (with_enough f c.args.bits c.requires.0 c.requires.1 (suc q) (omega (arith, below_next f (units f c.args.bits) q)))
