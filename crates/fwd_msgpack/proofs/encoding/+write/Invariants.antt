use Rattle.std.proofs.Common.{◌≡◌, ◌++◌, map, take}
use Rattle.fwd_value.specs.Val.{vals_of, entries_of}
use Rattle.fwd_value.specs.View.{val_of, pair_of}
use Rattle.fwd_value.specs.Weight.{weight, weights, entry_weights}
use Rattle.fwd_value.specs.Limits.{AreInRange, EntriesAreInRange}
use Rattle.fwd_msgpack.specs.Canonical.{canonical_all, canonical_entries}
use Rattle.fwd_msgpack.proofs.encoding.+write.Given as goal

abbrev pub decreases-write_value : goal.decreases-write_value
decreases-write_value l = weight (val_of l.value.now)

abbrev pub decreases-write_values : goal.decreases-write_values
decreases-write_values l = weights (vals_of (map val_of l.values.now))

abbrev pub decreases-write_pairs : goal.decreases-write_pairs
decreases-write_pairs l = entry_weights (entries_of (map pair_of l.pairs.now))

abbrev pub invariant-write_values-loop-value : goal.invariant-write_values-loop-value
invariant-write_values-loop-value l = record {
  written : l.out ≡ l.fn.out ++ canonical_all (vals_of (map val_of (take l.value-index l.values)));
  in_range : AreInRange (vals_of (map val_of (take l.value-index l.values)));
}

abbrev pub invariant-write_pairs-loop-pair : goal.invariant-write_pairs-loop-pair
invariant-write_pairs-loop-pair l = record {
  written : l.out ≡ l.fn.out ++ canonical_entries (entries_of (map pair_of (take l.pair-index l.pairs)));
  in_range : EntriesAreInRange (entries_of (map pair_of (take l.pair-index l.pairs)));
}
