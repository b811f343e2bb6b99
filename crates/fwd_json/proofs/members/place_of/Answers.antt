use Rattle.std.proofs.Common.{◌≡◌, ◌+◌, ◌-◌, ◌/◌, Greater, nat_cmp, arith}
use Rattle.std.specs.Cmp.Lexicographic.{slice_cmp}
use Rattle.fwd_json.specs.PutPair.{key_at}
use Rattle.fwd_json.proofs.Putting.{above_all}
use Rattle.fwd_json.proofs.members.place_of.Goals as goal

pub returns-then-is_above : goal.returns-then-is_above
returns-then-is_above c =
    let ps = c.args.pairs.now in
    let k = c.args.key.now in
    let high = c.len-high.result in
    let above : slice_cmp nat_cmp k (key_at ps (high - 1)) ≡ Greater = grind (arith, c.is_above.ensures) in
    record {
      within = omega (arith, c.len-high.ensures);
      below = λ j lt. above_all ps k (high - 1) c.requires (omega (arith, c.len-high.ensures, c.if-high-gt0.true)) above j (omega (arith, c.if-high-gt0.true));
      here = λ lt. absurd (omega (arith, c.len-high.ensures));
    }

pub halves-preserved-then-is_above-2 : goal.halves-preserved-then-is_above-2
halves-preserved-then-is_above-2 c =
    let ps = c.args.pairs.now in
    let k = c.args.key.now in
    let l = c.halves in
    let middle = l.low + (l.high - l.low) / 2 in
    let above : slice_cmp nat_cmp k (key_at ps middle) ≡ Greater = grind (arith, c.is_above-in-halves.ensures) in
    let h = l.invariant in (
      omega (arith, c.halves-test.true),
      h.1,
      above_all ps k middle c.requires (omega (arith, c.halves-test.true, h.1)) above,
      h.3,
    )
