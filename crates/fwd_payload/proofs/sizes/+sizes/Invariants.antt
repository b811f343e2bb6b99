use Rattle.std.proofs.Common.{◌-◌, ◌^◌, ◌≤◌, min, map, take, length}
use Rattle.fwd_value.specs.Val.{vals_of, entries_of}
use Rattle.fwd_value.specs.View.{val_of, pair_of}
use Rattle.fwd_value.specs.Weight.{weight, weights, entry_weights}
use Rattle.fwd_msgpack.specs.Canonical.{canonical_all, canonical_entries}
use Rattle.fwd_payload.proofs.sizes.+sizes.Given as goal

abbrev pub decreases-size_of : goal.decreases-size_of
decreases-size_of l = weight (val_of l.value.now)

abbrev pub decreases-sizes_of : goal.decreases-sizes_of
decreases-sizes_of l = weights (vals_of (map val_of l.values.now))

abbrev pub decreases-pair_sizes : goal.decreases-pair_sizes
decreases-pair_sizes l = entry_weights (entries_of (map pair_of l.pairs.now))

-- the bound covers what is written so far
abbrev pub invariant-sizes_of-loop-value : goal.invariant-sizes_of-loop-value
invariant-sizes_of-loop-value l = min (length (canonical_all (vals_of (map val_of (take l.value-index l.values))))) (2 ^ 64 - 1) ≤ l.total

abbrev pub invariant-pair_sizes-loop-pair : goal.invariant-pair_sizes-loop-pair
invariant-pair_sizes-loop-pair l = min (length (canonical_entries (entries_of (map pair_of (take l.pair-index l.pairs))))) (2 ^ 64 - 1) ≤ l.total
