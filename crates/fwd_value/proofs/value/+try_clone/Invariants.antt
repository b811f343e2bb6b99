use Rattle.std.proofs.Common.{◌≡◌, map, take}
use Rattle.fwd_value.specs.View.{val_of, pair_of}
use Rattle.fwd_value.proofs.value.+try_clone.Given as goal

abbrev pub invariant-Pairs::try_clone-loop-pair : goal.invariant-Pairs::try_clone-loop-pair
invariant-Pairs::try_clone-loop-pair l = map pair_of l.items.items ≡ map pair_of (take l.pair-index l.pair-items)

abbrev pub invariant-Values::try_clone-loop-value : goal.invariant-Values::try_clone-loop-value
invariant-Values::try_clone-loop-value l = map val_of l.items.items ≡ map val_of (take l.value-index l.value-items)
