use Rattle.std.proofs.Common.{◌≡◌, ℕ, suc, ◌/◌, ◌^◌, ◌-◌, ◌<◌, ◌≤◌, false, nat_le, ap, sym, ◌∙◌, arith, subst, inl, inr, eq-zero-or-pos, mul-pos, pow_pos}
use Rattle.std.proofs.lemmas.Bool.Decides.{nat_tests}
use Rattle.fwd_float.specs.Format.{format_of}
use Rattle.fwd_float.specs.Ratio.{units_of}
use Rattle.fwd_float.specs.Shortest.{digits_below}
use Rattle.fwd_float.proofs.Quotients.{large_at_zero, below_next}
use Rattle.fwd_float.proofs.window.window.Goals.{In-down}
use Rattle.fwd_float.proofs.window.window.Goals as goal

fewer : (n d : ℕ) → false ≡ nat_le n d → d < n
fewer n d h = grind (arith, nat_tests)

few : (c : In-down) → digits_below (format_of c.args.precision) (units_of c.args.size) c.down.power < 2 ^ 60
few c = fewer _ _ c.down-test.ensures

some : (c : In-down) → 0 < c.down.power
some c =
    let f = format_of c.args.precision in
    let s = units_of c.args.size in
    elim (eq-zero-or-pos c.down.power) [
      | inl z ↦ absurd (omega (arith, few c, subst (λ q. 2 ^ 60 ≤ digits_below f s q) (sym z) (large_at_zero f s (mul-pos c.requires.significand.0 (pow_pos c.args.size.exponent)))))
      | inr p ↦ p
    ]

pub overflow_sub-power : goal.overflow_sub-power
overflow_sub-power c = some c

pub down-smaller : goal.down-smaller
down-smaller c = omega (arith, some c)

pub down-preserved : goal.down-preserved
down-preserved c =
    let f = format_of c.args.precision in
    let s = units_of c.args.size in
    let q = c.down.power - 1 in
    let back : suc q ≡ c.down.power = omega (arith, some c) in
    let next : digits_below f s c.down.power ≡ digits_below f s q / 10 = sym (ap (digits_below f s) back) ∙ below_next f s q in
    record { power = omega arith; small = omega (arith, few c) }
