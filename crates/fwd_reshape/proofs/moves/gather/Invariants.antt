use Rattle.std.proofs.Common.{◌≡◌, ◌++◌, map, filter, not}
use Rattle.std.specs.Vec.Iter.{into_iter_items}
use Rattle.fwd_value.specs.View.{pair_of}
use Rattle.fwd_reshape.specs.Moves.{is_matched, moved}
use Rattle.fwd_reshape.proofs.moves.gather.Given as goal

abbrev pub invariant-loop-pair : goal.invariant-loop-pair
invariant-loop-pair l =
    let rest = map pair_of (into_iter_items l.pair-iterator) in
    (l.left ++ filter (λ p. not (is_matched l.rule.wildcards p.0)) rest ≡ filter (λ p. not (is_matched l.rule.wildcards p.0)) l.fn.body)
    × (l.taken ++ moved l.rule.remove_prefix l.rule.add_prefix (filter (λ p. is_matched l.rule.wildcards p.0) rest) ≡ moved l.rule.remove_prefix l.rule.add_prefix (filter (λ p. is_matched l.rule.wildcards p.0) l.fn.body))
