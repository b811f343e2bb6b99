use Rattle.std.proofs.Common.{◌+◌, ◌*◌}
use Rattle.fwd_out_text.proofs.Members.{IsWritten}
use Rattle.fwd_out_text.proofs.Values.{AreWritten}
use Rattle.fwd_out_text.proofs.encoded_value.+write.Given as goal

abbrev pub decreases-write_value : goal.decreases-write_value
decreases-write_value l = 6 * l.depth + 1

abbrev pub decreases-write_other_value : goal.decreases-write_other_value
decreases-write_other_value l = 6 * l.depth

abbrev pub decreases-write_list : goal.decreases-write_list
decreases-write_list l = 6 * l.depth + 5

abbrev pub decreases-write_values : goal.decreases-write_values
decreases-write_values l = 6 * l.depth + 4

abbrev pub decreases-write_more_values : goal.decreases-write_more_values
decreases-write_more_values l = 6 * l.depth + 3

abbrev pub decreases-write_map : goal.decreases-write_map
decreases-write_map l = 6 * l.depth + 5

abbrev pub decreases-write_pairs : goal.decreases-write_pairs
decreases-write_pairs l = 6 * l.depth + 4

abbrev pub decreases-write_more_pairs : goal.decreases-write_more_pairs
decreases-write_more_pairs l = 6 * l.depth + 3

abbrev pub decreases-write_pair : goal.decreases-write_pair
decreases-write_pair l = 6 * l.depth + 2

abbrev pub invariant-write_more_values-loop : goal.invariant-write_more_values-loop
invariant-write_more_values-loop l = AreWritten l.floats l.depth l.fn.out l.out l.counter l.rest l.bytes

abbrev pub invariant-write_more_pairs-loop : goal.invariant-write_more_pairs-loop
invariant-write_more_pairs-loop l = IsWritten l.floats l.depth l.fn.out l.out l.counter l.rest l.bytes
