use Rattle.std.proofs.Common.{◌≡◌, ◌∙◌, List, map, ap, arith}
use Rattle.fwd_value.specs.Val.{Val, vals_of, entries_of}
use Rattle.fwd_value.specs.View.{val_of, pair_of}
use Rattle.fwd_value.specs.Limits.{nestings, entry_nestings}
use Rattle.fwd_value.proofs.Nesting.{nestings_member, nestings_step, key_member, value_member, entries_step}
use Rattle.fwd_value.proofs.value.+nests_within.Goals as goal
use Rattle.fwd_value.proofs.value.+nests_within.Goals.{Pairs::nest_within-then-not-nests_within-via-then-not-nests_within, Pairs::nest_within-then-not-nests_within-via-else-not-nests_within+then-not-nests_within-2}

pub Values::nest_within-returns-then-not-nests_within : goal.Values::nest_within-returns-then-not-nests_within
Values::nest_within-returns-then-not-nests_within t c = (
  λ h. absurd cc,
  λ within.
      let here = nestings_member c.deref-value-items.result.now c.loop-value.value-index c.value-item.result c.loop-value-test.true c.value-item.is in
      let same : map val_of c.deref-value-items.result.now ≡ c.args.self.now = ap (map val_of) c.deref-value-items.ensures.value ∙ c.self.view_is in
      rw c.if-not-nests_within.true at (c.nests_within.ensures.1 (omega (arith, ap (λ (l : List Val). nestings (vals_of l)) same))),
)

pub Values::nest_within-loop-value-preserved : goal.Values::nest_within-loop-value-preserved
Values::nest_within-loop-value-preserved t c =
    nestings_step c.deref-value-items.result.now c.loop-value.value-index c.args.depth c.value-item.result c.loop-value-test.true c.value-item.is c.loop-value.invariant
    (c.nests_within.ensures.0 c.if-not-nests_within.false)

pub Pairs::nest_within-returns-then-not-nests_within : goal.Pairs::nest_within-returns-then-not-nests_within
Pairs::nest_within-returns-then-not-nests_within t c = (
  λ h. absurd cc,
  λ within.
      let one = key_member c.deref-pair-items.result.now c.loop-pair.pair-index c.pair-item.result c.loop-pair-test.true c.pair-item.is in
      let two = value_member c.deref-pair-items.result.now c.loop-pair.pair-index c.pair-item.result c.loop-pair-test.true c.pair-item.is in
      let same : map pair_of c.deref-pair-items.result.now ≡ c.args.self.now = ap (map pair_of) c.deref-pair-items.ensures.value ∙ c.self.view_is in
      let size = ap (λ (l : List (Val × Val)). entry_nestings (entries_of l)) same in
      elim c.then-not-nests_within.branch [
        | Pairs::nest_within-then-not-nests_within-via-then-not-nests_within w ↦ rw w.if-not-nests_within.true at (c.nests_within.ensures.1 (omega (arith, size, within, one)))
        | Pairs::nest_within-then-not-nests_within-via-else-not-nests_within+then-not-nests_within-2 w ↦ rw w.if-not-nests_within-2.true at (w.nests_within-else-not-nests_within.ensures.1 (omega (arith, size, within, two)))
      ],
)

pub Pairs::nest_within-loop-pair-preserved : goal.Pairs::nest_within-loop-pair-preserved
Pairs::nest_within-loop-pair-preserved t c =
    entries_step c.deref-pair-items.result.now c.loop-pair.pair-index c.args.depth c.pair-item.result c.loop-pair-test.true c.pair-item.is c.loop-pair.invariant
    (c.nests_within.ensures.0 c.if-not-nests_within.false)
    (c.nests_within-else-not-nests_within.ensures.0 c.if-not-nests_within-2.false)
