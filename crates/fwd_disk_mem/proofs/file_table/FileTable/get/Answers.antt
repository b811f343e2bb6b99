use Rattle.std.proofs.Common.{Some, List, ℕ, sym, ◌∙◌, ap}
use Rattle.fwd_disk_mem.proofs.Lookup.{found_entry}
use Rattle.fwd_disk_mem.proofs.file_table.FileTable.get.Goals as goal

pub returns-in-Some : goal.returns-in-Some
returns-in-Some c =
    rw (← c.self.view_is) (found_entry c.self.inside.files.entries c.args.name.now ∙ sym c.in-Some.ensures.value ∙ ap (λ (b : List ℕ). Some b) (sym c.as_slice.ensures))

pub returns-in-None : goal.returns-in-None
returns-in-None c = rw (← c.self.view_is) (found_entry c.self.inside.files.entries c.args.name.now ∙ sym c.in-None.ensures.value)
