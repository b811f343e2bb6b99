use Rattle.std.proofs.Common.{◌≡◌, List, ℕ, refl, subst}
use Rattle.fwd_outside.specs.File.{content}
use Rattle.fwd_disk_mem.specs.FileTable.{found}
use Rattle.fwd_disk_mem.specs.DiskState.{Seen}
use Rattle.fwd_disk_mem.specs.Entry.{files_of}
use Rattle.fwd_disk_mem.proofs.FolderNames.{names_are_in}
use Rattle.fwd_disk_mem.proofs.disk.MemDisk.names.Goals as goal

pub returns : goal.returns
returns c =
    let names = c.in_ok-names_in.field-0 in
    let folder = c.args.folder.now in
    let are = c.in_ok-names_in.ensures.names in
    let reads = subst (λ (v : Seen). (name : List ℕ) → found c.self.inside.files name ≡ content (files_of v.calls name)) c.self.view_is c.self.invariant.reads in
    rw c.if-not-next_succeeds.false (names, refl, c.in_ok-names_in.ensures.listing, names_are_in folder c.self.inside.files (files_of c.args.self.now.calls) names reads are)
