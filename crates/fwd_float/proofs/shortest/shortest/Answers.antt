use Rattle.std.proofs.Common.{◌≡◌, suc, ◌+◌, ◌/◌, ◌<◌, ◌≤◌, sym, ap, ◌∙◌, arith, inl, inr, true≢false}
use Rattle.std.proofs.lemmas.Bool.{cases_lt}
use Rattle.fwd_float.specs.Format.{format_of}
use Rattle.fwd_float.specs.Shortest.{units, has_decimal, digits_below, digits_at, shortest_power, shortest_digits}
use Rattle.fwd_float.proofs.Quotients.{below_next}
use Rattle.fwd_float.proofs.Reading.{has_none}
use Rattle.fwd_float.proofs.Search.{greatest, few_digits}
use Rattle.fwd_float.proofs.shortest.shortest.Goals.{After-next-cut, After-up}
use Rattle.fwd_float.proofs.shortest.shortest.Goals as goal

pub has_decimal-requires-clause-below : goal.has_decimal-requires-clause-below
has_decimal-requires-clause-below c =
    let f = format_of c.args.precision in
    let s = units f c.args.bits in
    let q = c.up.cut.before in
    let two : suc (q + 1) ≡ q + 2 = omega arith in
    ap (λ x. x / 10) c.up.invariant.cut.digits ∙ sym (below_next f s (q + 1)) ∙ ap (digits_below f s) two

-- the loop goes on only below the powers that no float reaches
below_most : (c : After-next-cut) → c.up.cut.before < 709
below_most c =
    elim (cases_lt c.up.cut.before 709) [
      | inl l ↦ l
      | inr g ↦ absurd (true≢false (c.up-test.ensures ∙ has_none (format_of c.args.precision) c.args.bits c.requires.0 c.requires.1 (c.up.cut.before + 2) (omega arith)))
    ]

pub up-smaller : goal.up-smaller
up-smaller c = omega (arith, below_most c, c.next-cut.ensures.before)

pub up-preserved : goal.up-preserved
up-preserved c =
    let two : c.next-cut.result.before + 1 ≡ c.up.cut.before + 2 = omega (arith, c.next-cut.ensures.before) in
    record {
      cut = c.next-cut.ensures.cut (format_of c.args.precision) (units (format_of c.args.precision) c.args.bits) c.up.invariant.cut;
      small = omega (arith, c.next-cut.ensures.digits, c.up.invariant.small);
      power = (omega (arith, c.next-cut.ensures.before, c.up.invariant.power.0), omega (arith, below_most c, c.next-cut.ensures.before));
      reads = ap (has_decimal (format_of c.args.precision) c.args.bits) two ∙ sym c.up-test.ensures;
    }

power_is : (c : After-up) → shortest_power (format_of c.args.precision) c.args.bits ≡ c.up.cut.before + 1
power_is c =
    let f = format_of c.args.precision in
    let q = c.up.cut.before + 1 in
    let two : suc q ≡ c.up.cut.before + 2 = omega arith in
    let below : q ≤ 800 = elim (cases_lt q 801) [ inl l ↦ omega arith | inr g ↦ absurd (true≢false (sym c.up.invariant.reads ∙ has_none f c.args.bits c.requires.0 c.requires.1 q (omega arith))) ] in
    greatest f c.args.bits c.requires.0 c.requires.1 q below c.up.invariant.reads (ap (has_decimal f c.args.bits) two ∙ sym c.up-test.ensures)

pub returns-clause-power : goal.returns-clause-power
returns-clause-power c = sym (power_is (goal.at.returns-clause-power c).After-up)

pub returns-clause-digits : goal.returns-clause-digits
returns-clause-digits c = c.choose.ensures ∙ ap (digits_at (format_of c.args.precision) c.args.bits) (sym (power_is (goal.at.returns-clause-digits c).After-up))

pub returns-clause-few : goal.returns-clause-few
returns-clause-few c =
    let f = format_of c.args.precision in
    let is : c.choose.result ≡ shortest_digits f c.args.bits = c.choose.ensures ∙ ap (digits_at f c.args.bits) (sym (power_is (goal.at.returns-clause-few c).After-up)) in
    rw is (few_digits f c.args.bits c.requires.0 c.requires.1)
