use Rattle.std.proofs.Common.{length}
use Rattle.fwd_transcode.proofs.Events.{EventsSoFar}
use Rattle.fwd_transcode.proofs.event.transcode_packed.Given as goal

abbrev pub invariant-loop-rest : goal.invariant-loop-rest
invariant-loop-rest l = EventsSoFar l.count l.rest l.bytes l.fn.out l.out

abbrev pub decreases-loop-rest : goal.decreases-loop-rest
decreases-loop-rest l = length l.rest
