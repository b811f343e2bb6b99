use Rattle.std.proofs.Common.{arith}
use Rattle.fwd_disk_mem.proofs.ImageSteps.{mixed_next}
use Rattle.fwd_disk_mem.proofs.image.mixed_bytes.Goals as goal

pub loop-i-preserved : goal.loop-i-preserved
loop-i-preserved c =
    mixed_next c.args.base.now c.args.bytes.now c.loop-i.new.items c.push.new.self.items c.args.at c.loop-i.i c.mixed_byte.result (omega arith) c.loop-i.invariant c.mixed_byte.ensures c.in_ok-push.ensures.items
