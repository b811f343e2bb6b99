use Rattle.std.proofs.Common.{None}
use Rattle.fwd_disk_mem.proofs.Lookup.{set_entry}
use Rattle.fwd_disk_mem.proofs.file_table.FileTable.remove_file.Goals as goal

pub returns : goal.returns
returns c = rw (← c.self.view_is) (set_entry c.self.inside.files.entries c.remove.new.self.entries c.args.name.now None c.remove.ensures.updates.1 c.remove.ensures.updates.3)
