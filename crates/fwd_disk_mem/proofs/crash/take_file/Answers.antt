use Rattle.std.proofs.Common.{None}
use Rattle.fwd_disk_mem.proofs.CrashDisk.{other_file}
use Rattle.fwd_disk_mem.proofs.crash.take_file.Goals as goal

pub returns-in-Some-clause-others : goal.returns-in-Some-clause-others
returns-in-Some-clause-others c = other_file c.args.files.now.entries c.remove.new.self.entries c.args.name.now None c.in-Some.ensures.updates.1 c.in-Some.ensures.updates.3
