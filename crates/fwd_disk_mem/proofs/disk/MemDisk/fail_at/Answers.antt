use Rattle.fwd_disk_mem.proofs.RecordStep.{number_noted}
use Rattle.fwd_disk_mem.proofs.disk.MemDisk.fail_at.Goals as goal

pub invariant_of-self : goal.invariant_of-self
invariant_of-self c =
    number_noted c.push_number.result c.self.inside.calls.items c.push_number.new.calls.items c.args.call c.self.inside.files c.self.inside.fails.items c.push_number.new.fails.items c.self.inside.made
    c.push_number.ensures.calls_ok c.push_number.ensures.fails_ok c.push_number.ensures.calls_err c.push_number.ensures.fails_err c.self.invariant
