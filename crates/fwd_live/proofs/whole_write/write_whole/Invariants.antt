use Rattle.std.proofs.Common.{length, ◌≤◌}
use Rattle.fwd_live.proofs.whole_write.write_whole.Given as goal

abbrev pub invariant-writing : goal.invariant-writing
invariant-writing g l = l.taken ≤ length l.bytes
