use Rattle.std.proofs.Common.{◌≡◌, suc, ◌+◌, ◌%◌, sym, ap, ◌∙◌, arith, add-one, inl, inr, true≢false, eq-zero-or-pos}
use Rattle.fwd_float.specs.Format.{format_of}
use Rattle.fwd_float.specs.Shortest.{units, numerator, denominator, digits_below, digits_nearest}
use Rattle.fwd_float.proofs.Search.{nearest_down, nearest_up, nearest_past, nearest_tie}
use Rattle.fwd_float.proofs.shortest.Cut.nearest.Goals.{else-self-eq5-via-then-self-eq5+else-self, else-self-eq5-via-else-self-eq5}
use Rattle.fwd_float.proofs.shortest.Cut.nearest.Goals as goal

pub returns-then-self-lt5 : goal.returns-then-self-lt5
returns-then-self-lt5 c =
    let f = format_of c.args.precision in
    let s = units f c.args.bits in
    rw add-one (rw add-one at c.requires.cut.digits ∙ sym (nearest_down f s c.args.self.before (omega (arith, c.requires.cut.last))))

pub returns-then-self : goal.returns-then-self
returns-then-self c =
    let f = format_of c.args.precision in
    let s = units f c.args.bits in
    let d = rw add-one at c.requires.cut.digits in
    rw add-one (ap (λ x. x + x % 2) d ∙ sym (nearest_tie f s c.args.self.before (omega (arith, c.requires.cut.last)) (c.requires.cut.exact.0 c.if-self.true)))

pub returns : goal.returns
returns c =
    let f = format_of c.args.precision in
    let s = units f c.args.bits in
    let d = rw add-one at c.requires.cut.digits in
    let rest = numerator s % denominator f c.args.self.before in
    let up : digits_nearest f s (suc c.args.self.before) ≡ digits_below f s (suc c.args.self.before) + 1 =
    elim c.else-self-eq5.branch [
      | else-self-eq5-via-then-self-eq5+else-self w ↦ (elim (eq-zero-or-pos rest) [
        | inl z ↦ absurd (true≢false (sym (c.requires.cut.exact.1 z) ∙ w.if-self.false))
        | inr p ↦ nearest_past f s c.args.self.before (omega (arith, c.requires.cut.last, w.if-self-eq5.true)) p
      ])
      | else-self-eq5-via-else-self-eq5 w ↦ nearest_up f s c.args.self.before (omega (arith, c.requires.cut.last, c.if-self-lt5.false, w.if-self-eq5.false))
    ] in
    rw (add-one c.args.self.before) (ap (λ x. x + 1) d ∙ sym up)
