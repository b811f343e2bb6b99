use Rattle.std.proofs.Common.{◌≡◌, ◌+◌, ◌-◌, ◌*◌, map}
use Rattle.fwd_value.specs.View.{val_of, pair_of}
use Rattle.fwd_msgpack.specs.Decoder.{many_at, entries_at, value_at}
use Rattle.fwd_msgpack.proofs.DecodeLoops.{with_front}
use Rattle.fwd_msgpack.proofs.reading.+read.Given as goal

abbrev pub decreases-value_of : goal.decreases-value_of
decreases-value_of l = 3 * l.depth + 2

abbrev pub decreases-list_of : goal.decreases-list_of
decreases-list_of l = 3 * l.depth + 1

abbrev pub decreases-map_of : goal.decreases-map_of
decreases-map_of l = 3 * l.depth + 1

abbrev pub decreases-values_of : goal.decreases-values_of
decreases-values_of l = 3 * l.depth + 3

abbrev pub decreases-pairs_of : goal.decreases-pairs_of
decreases-pairs_of l = 3 * l.depth + 3

abbrev pub invariant-values_of-loop : goal.invariant-values_of-loop
invariant-values_of-loop l = with_front (map val_of l.values.items) (many_at (value_at l.depth) (l.n - l.counter) l.rest) ≡ many_at (value_at l.depth) l.n l.bytes

abbrev pub invariant-pairs_of-loop : goal.invariant-pairs_of-loop
invariant-pairs_of-loop l = with_front (map pair_of l.pairs.items) (entries_at (value_at l.depth) (l.n - l.counter) l.rest) ≡ entries_at (value_at l.depth) l.n l.bytes
