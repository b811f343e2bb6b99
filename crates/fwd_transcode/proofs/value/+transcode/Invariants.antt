use Rattle.std.proofs.Common.{◌+◌, ◌*◌}
use Rattle.fwd_transcode.proofs.Values.{ValuesSoFar, PairsSoFar}
use Rattle.fwd_transcode.proofs.value.+transcode.Given as goal

abbrev pub decreases-transcode_value : goal.decreases-transcode_value
decreases-transcode_value l = 4 * l.depth + 2

abbrev pub decreases-transcode_list : goal.decreases-transcode_list
decreases-transcode_list l = 4 * l.depth + 1

abbrev pub decreases-transcode_map : goal.decreases-transcode_map
decreases-transcode_map l = 4 * l.depth + 1

abbrev pub decreases-transcode_values : goal.decreases-transcode_values
decreases-transcode_values l = 4 * l.depth + 3

abbrev pub decreases-transcode_pairs : goal.decreases-transcode_pairs
decreases-transcode_pairs l = 4 * l.depth + 4

abbrev pub decreases-transcode_pair : goal.decreases-transcode_pair
decreases-transcode_pair l = 4 * l.depth + 3

abbrev pub invariant-transcode_values-loop : goal.invariant-transcode_values-loop
invariant-transcode_values-loop l = ValuesSoFar l.depth l.n l.counter l.rest l.bytes l.fn.out l.out

abbrev pub invariant-transcode_pairs-loop : goal.invariant-transcode_pairs-loop
invariant-transcode_pairs-loop l = PairsSoFar l.depth l.n l.counter l.rest l.bytes l.fn.out l.out
