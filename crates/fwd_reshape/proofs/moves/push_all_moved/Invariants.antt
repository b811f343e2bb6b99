use Rattle.std.proofs.Common.{◌≡◌, ◌++◌, map}
use Rattle.std.specs.Vec.Iter.{into_iter_items}
use Rattle.fwd_value.specs.View.{pair_of}
use Rattle.fwd_reshape.specs.Moves.{moved}
use Rattle.fwd_reshape.proofs.moves.push_all_moved.Given as goal

abbrev pub invariant-loop-pair : goal.invariant-loop-pair
invariant-loop-pair l =
    l.body ++ moved l.rule.remove_prefix l.rule.add_prefix (map pair_of (into_iter_items l.pair-iterator)) ≡ l.fn.body ++ moved l.rule.remove_prefix l.rule.add_prefix l.fn.pairs
