use Rattle.std.proofs.Common.{map, take}
use Rattle.fwd_value.specs.Val.{vals_of, entries_of}
use Rattle.fwd_value.specs.View.{val_of, pair_of}
use Rattle.fwd_value.specs.Weight.{weight, weights, entry_weights}
use Rattle.fwd_value.specs.Limits.{AllLengthsFit, EntryLengthsFit}
use Rattle.fwd_msgpack.proofs.lengths.+lengths.Given as goal

abbrev pub decreases-lengths_fit : goal.decreases-lengths_fit
decreases-lengths_fit l = weight (val_of l.value.now)

abbrev pub decreases-all_lengths_fit : goal.decreases-all_lengths_fit
decreases-all_lengths_fit l = weights (vals_of (map val_of l.values.now))

abbrev pub decreases-entry_lengths_fit : goal.decreases-entry_lengths_fit
decreases-entry_lengths_fit l = entry_weights (entries_of (map pair_of l.pairs.now))

abbrev pub invariant-all_lengths_fit-loop-value : goal.invariant-all_lengths_fit-loop-value
invariant-all_lengths_fit-loop-value l = AllLengthsFit (vals_of (map val_of (take l.value-index l.values)))

abbrev pub invariant-entry_lengths_fit-loop-pair : goal.invariant-entry_lengths_fit-loop-pair
invariant-entry_lengths_fit-loop-pair l = EntryLengthsFit (entries_of (map pair_of (take l.pair-index l.pairs)))
