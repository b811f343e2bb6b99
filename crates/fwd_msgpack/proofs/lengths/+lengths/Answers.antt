use Rattle.std.proofs.Common.{◌≡◌, ◌∙◌, ◌<◌, ◌^◌, add-one, sym, arith}
use Rattle.fwd_value.specs.Val.{vals_of, entries_of}
use Rattle.fwd_value.specs.Limits.{value_count, entry_count}
use Rattle.fwd_msgpack.proofs.EncodeLoops.{how_many_is, how_many_entries_is, value_in, pair_in, value_weighs_less, pair_weighs_less, values_lengths_more, pairs_lengths_more}
use Rattle.fwd_msgpack.proofs.lengths.+lengths.Goals as goal
use Rattle.fwd_msgpack.proofs.lengths.+lengths.Goals.{entry_lengths_fit-then-not-lengths_fit-via-then-not-lengths_fit, entry_lengths_fit-then-not-lengths_fit-via-else-not-lengths_fit+then-not-lengths_fit-2}

pub lengths_fit-returns-then-has_length_form : goal.lengths_fit-returns-then-has_length_form
lengths_fit-returns-then-has_length_form t c =
    let n : value_count (vals_of c.in-List.values) ≡ c.len-in-List.result = how_many_is c.in-List.values ∙ sym c.len-in-List.ensures in
    let lt : c.len-in-List.result < 2 ^ 32 = c.has_length_form-in-List.ensures.0 c.if-has_length_form.true in
    rw c.in-List.is (λ h. (omega (arith, n, lt), rw c.as_slice.ensures at (c.all_lengths_fit.ensures.0 h)), λ h. c.all_lengths_fit.ensures.1 (rw c.as_slice.ensures h.1))

pub lengths_fit-returns-else-has_length_form : goal.lengths_fit-returns-else-has_length_form
lengths_fit-returns-else-has_length_form t c =
    let n : value_count (vals_of c.in-List.values) ≡ c.len-in-List.result = how_many_is c.in-List.values ∙ sym c.len-in-List.ensures in
    rw c.in-List.is (λ h. absurd cc, λ h. c.has_length_form-in-List.ensures.1 (omega (arith, h.0, n)))

pub lengths_fit-returns-then-has_length_form-2 : goal.lengths_fit-returns-then-has_length_form-2
lengths_fit-returns-then-has_length_form-2 t c =
    let n : entry_count (entries_of c.in-Map.pairs) ≡ c.len-in-Map.result = how_many_entries_is c.in-Map.pairs ∙ sym c.len-in-Map.ensures in
    let lt : c.len-in-Map.result < 2 ^ 32 = c.has_length_form-in-Map.ensures.0 c.if-has_length_form-2.true in
    rw c.in-Map.is (λ h. (omega (arith, n, lt), rw c.as_slice-then-has_length_form-2.ensures at (c.entry_lengths_fit.ensures.0 h)), λ h. c.entry_lengths_fit.ensures.1 (rw c.as_slice-then-has_length_form-2.ensures h.1))

pub lengths_fit-returns-else-has_length_form-2 : goal.lengths_fit-returns-else-has_length_form-2
lengths_fit-returns-else-has_length_form-2 t c =
    let n : entry_count (entries_of c.in-Map.pairs) ≡ c.len-in-Map.result = how_many_entries_is c.in-Map.pairs ∙ sym c.len-in-Map.ensures in
    rw c.in-Map.is (λ h. absurd cc, λ h. c.has_length_form-in-Map.ensures.1 (omega (arith, h.0, n)))

pub all_lengths_fit-lengths_fit-requires : goal.all_lengths_fit-lengths_fit-requires
all_lengths_fit-lengths_fit-requires t c =
    (omega (arith, c.decreases, value_weighs_less c.args.values.now c.loop-value.value-index c.value-item.result c.loop-value-test.true c.value-item.is), tt)

pub all_lengths_fit-returns-then-not-lengths_fit : goal.all_lengths_fit-returns-then-not-lengths_fit
all_lengths_fit-returns-then-not-lengths_fit t c = (
  λ h. absurd cc,
  λ all.
      let here = value_in c.args.values.now c.loop-value.value-index c.value-item.result c.loop-value-test.true c.value-item.is all in
      rw c.if-not-lengths_fit.true at (c.lengths_fit.ensures.1 here.0),
)

pub all_lengths_fit-loop-value-preserved : goal.all_lengths_fit-loop-value-preserved
all_lengths_fit-loop-value-preserved t c =
    rw add-one (values_lengths_more c.args.values.now c.loop-value.value-index c.value-item.result c.loop-value-test.true c.value-item.is c.loop-value.invariant (c.lengths_fit.ensures.0 c.if-not-lengths_fit.false))

pub entry_lengths_fit-lengths_fit-requires : goal.entry_lengths_fit-lengths_fit-requires
entry_lengths_fit-lengths_fit-requires t c =
    let less = pair_weighs_less c.args.pairs.now c.loop-pair.pair-index c.pair-item.result c.loop-pair-test.true c.pair-item.is in
    (omega (arith, c.decreases, less.0), tt)

pub entry_lengths_fit-lengths_fit-requires-else-not-lengths_fit : goal.entry_lengths_fit-lengths_fit-requires-else-not-lengths_fit
entry_lengths_fit-lengths_fit-requires-else-not-lengths_fit t c =
    let less = pair_weighs_less c.args.pairs.now c.loop-pair.pair-index c.pair-item.result c.loop-pair-test.true c.pair-item.is in
    (omega (arith, c.decreases, less.1), tt)

pub entry_lengths_fit-returns-then-not-lengths_fit : goal.entry_lengths_fit-returns-then-not-lengths_fit
entry_lengths_fit-returns-then-not-lengths_fit t c = (
  λ h. absurd cc,
  λ all.
      let here = pair_in c.args.pairs.now c.loop-pair.pair-index c.pair-item.result c.loop-pair-test.true c.pair-item.is all in
      elim c.then-not-lengths_fit.branch [
        | entry_lengths_fit-then-not-lengths_fit-via-then-not-lengths_fit w ↦ rw w.if-not-lengths_fit.true at (c.lengths_fit.ensures.1 here.0)
        | entry_lengths_fit-then-not-lengths_fit-via-else-not-lengths_fit+then-not-lengths_fit-2 w ↦ rw w.if-not-lengths_fit-2.true at (w.lengths_fit-else-not-lengths_fit.ensures.1 here.1)
      ],
)

pub entry_lengths_fit-loop-pair-preserved : goal.entry_lengths_fit-loop-pair-preserved
entry_lengths_fit-loop-pair-preserved t c =
    rw add-one (pairs_lengths_more c.args.pairs.now c.loop-pair.pair-index c.pair-item.result c.loop-pair-test.true c.pair-item.is c.loop-pair.invariant (c.lengths_fit.ensures.0 c.if-not-lengths_fit.false) (c.lengths_fit-else-not-lengths_fit.ensures.0 c.if-not-lengths_fit-2.false))
