use Rattle.std.proofs.Common.{length}
use Rattle.fwd_replay.proofs.names.+stdout_mask.Given as goal

abbrev pub decreases-stdout_mask : goal.decreases-stdout_mask
decreases-stdout_mask l = length l.outputs.now
