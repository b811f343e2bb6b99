use Rattle.std.proofs.Common.{◌≡◌, ◌+◌, ◌*◌, map, drop}
use Rattle.fwd_value.specs.Val.{vals_of, entries_of}
use Rattle.fwd_value.specs.View.{val_of, pair_of}
use Rattle.fwd_value.specs.Weight.{weight, weights, entry_weights}
use Rattle.fwd_json.specs.WholeVal.{have_no_float, entries_have_no_float}
use Rattle.fwd_json.proofs.reading.+whole.Given as goal

abbrev pub decreases-is_whole : goal.decreases-is_whole
decreases-is_whole l = 2 * weight (val_of l.value.now)

abbrev pub decreases-values_are_whole : goal.decreases-values_are_whole
decreases-values_are_whole l = 2 * weights (vals_of (map val_of l.values.now)) + 1

abbrev pub decreases-pairs_are_whole : goal.decreases-pairs_are_whole
decreases-pairs_are_whole l = 2 * entry_weights (entries_of (map pair_of l.pairs.now)) + 1

abbrev pub invariant-values_are_whole-loop-value : goal.invariant-values_are_whole-loop-value
invariant-values_are_whole-loop-value l = have_no_float (vals_of (map val_of (drop l.value-index l.values))) ≡ have_no_float (vals_of (map val_of l.values))

abbrev pub invariant-pairs_are_whole-loop-pair : goal.invariant-pairs_are_whole-loop-pair
invariant-pairs_are_whole-loop-pair l = entries_have_no_float (entries_of (map pair_of (drop l.pair-index l.pairs))) ≡ entries_have_no_float (entries_of (map pair_of l.pairs))
