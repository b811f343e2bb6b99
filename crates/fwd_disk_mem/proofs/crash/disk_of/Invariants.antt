use Rattle.std.proofs.Common.{◌≡◌, ◌++◌, ℕ, List, Global}
use Rattle.std.specs.Prelude.{Vec}
use Rattle.fwd_disk_mem.specs.declared.image.ImageFile.{ImageFile}
use Rattle.fwd_disk_mem.specs.Images.{presets_of}
use Rattle.fwd_disk_mem.proofs.crash.disk_of.Given as goal

abbrev pub invariant-loop-name : goal.invariant-loop-name
invariant-loop-name l =
    (done : List (Vec ℕ Global × ImageFile)) × (done ++ l.name-iterator ≡ l.files.entries) × (l.disk.calls ≡ presets_of done) × (l.disk.faults ≡ 0) × (l.disk.mark ≡ 0)
