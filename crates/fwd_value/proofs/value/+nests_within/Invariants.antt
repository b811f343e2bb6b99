use Rattle.std.proofs.Common.{◌+◌, ◌*◌, ◌≤◌, map, take}
use Rattle.fwd_value.specs.Val.{vals_of, entries_of}
use Rattle.fwd_value.specs.View.{val_of, pair_of}
use Rattle.fwd_value.specs.Limits.{nestings, entry_nestings}
use Rattle.fwd_value.proofs.value.+nests_within.Given as goal

abbrev pub decreases-Value::nests_within : goal.decreases-Value::nests_within
decreases-Value::nests_within l = 2 * l.depth

abbrev pub decreases-Values::nest_within : goal.decreases-Values::nest_within
decreases-Values::nest_within l = 2 * l.depth + 1

abbrev pub decreases-Pairs::nest_within : goal.decreases-Pairs::nest_within
decreases-Pairs::nest_within l = 2 * l.depth + 1

abbrev pub invariant-Values::nest_within-loop-value : goal.invariant-Values::nest_within-loop-value
invariant-Values::nest_within-loop-value l = nestings (vals_of (map val_of (take l.value-index l.value-items))) ≤ l.depth

abbrev pub invariant-Pairs::nest_within-loop-pair : goal.invariant-Pairs::nest_within-loop-pair
invariant-Pairs::nest_within-loop-pair l = entry_nestings (entries_of (map pair_of (take l.pair-index l.pair-items))) ≤ l.depth
