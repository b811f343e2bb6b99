use Rattle.std.proofs.Common.{◌≡◌, ◌+◌, ◌*◌, ◌++◌, map, take}
use Rattle.fwd_value.specs.Val.{vals_of, entries_of}
use Rattle.fwd_value.specs.View.{val_of, pair_of}
use Rattle.fwd_value.specs.Weight.{weight, weights, entry_weights}
use Rattle.fwd_json.specs.Text.{more_values, more_pairs}
use Rattle.fwd_json.proofs.text.+write.Given as goal

abbrev pub decreases-write_value : goal.decreases-write_value
decreases-write_value l = 4 * weight (val_of l.value.now)

abbrev pub decreases-write_key : goal.decreases-write_key
decreases-write_key l = 4 * weight (val_of l.key.now) + 1

abbrev pub decreases-write_pair : goal.decreases-write_pair
decreases-write_pair l = 4 * (weight (val_of l.pair.now.0) + weight (val_of l.pair.now.1)) + 2

abbrev pub decreases-write_values : goal.decreases-write_values
decreases-write_values l = 4 * weights (vals_of (map val_of l.values.now)) + 2

abbrev pub decreases-write_more_values : goal.decreases-write_more_values
decreases-write_more_values l = 4 * weights (vals_of (map val_of l.values.now)) + 1

abbrev pub decreases-write_pairs : goal.decreases-write_pairs
decreases-write_pairs l = 4 * entry_weights (entries_of (map pair_of l.pairs.now)) + 2

abbrev pub decreases-write_more_pairs : goal.decreases-write_more_pairs
decreases-write_more_pairs l = 4 * entry_weights (entries_of (map pair_of l.pairs.now)) + 1

abbrev pub invariant-write_more_values-loop-value : goal.invariant-write_more_values-loop-value
invariant-write_more_values-loop-value l = l.out ≡ l.fn.out ++ more_values l.floats (vals_of (map val_of (take l.value-index l.values)))

abbrev pub invariant-write_more_pairs-loop-pair : goal.invariant-write_more_pairs-loop-pair
invariant-write_more_pairs-loop-pair l = l.out ≡ l.fn.out ++ more_pairs l.floats (entries_of (map pair_of (take l.pair-index l.pairs)))
