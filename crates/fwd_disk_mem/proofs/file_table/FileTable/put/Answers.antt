use Rattle.std.proofs.Common.{Some}
use Rattle.fwd_disk_mem.proofs.Lookup.{set_entry}
use Rattle.fwd_disk_mem.proofs.file_table.FileTable.put.Goals as goal

pub returns-clause-ok : goal.returns-clause-ok
returns-clause-ok c =
    rw (← c.self.view_is, ← c.in_ok-content.ensures, ← c.in_ok-name.ensures.items) (set_entry c.self.inside.files.entries c.insert.new.self.entries c.in_ok-name.name.items (Some c.in_ok-content.content)
    c.in_ok-insert.ensures.updates.1 c.in_ok-insert.ensures.updates.3)
