use Rattle.std.proofs.Common.{◌≡◌, ◌++◌, List, map}
use Rattle.fwd_disk_mem.specs.FileTable.{MemFile, file_of}
use Rattle.fwd_disk_mem.specs.Listing.{AreNames}
use Rattle.fwd_disk_mem.proofs.listing.all_names.Given as goal

abbrev pub invariant-loop-name : goal.invariant-loop-name
invariant-loop-name l = (done : List MemFile) × (done ++ map file_of l.name-iterator ≡ map file_of l.files.entries) × AreNames l.folder done l.names.items
