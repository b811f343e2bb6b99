use Rattle.fwd_files_mem.proofs.FilePaths.{has_update}
use Rattle.fwd_files_mem.proofs.files.put.Goals as goal

pub returns-clause-ok : goal.returns-clause-ok
returns-clause-ok c = has_update c.args.path c.args.bytes c.args.files.now.entries c.insert.new.self.entries c.in_ok-insert.ensures.updates.0
