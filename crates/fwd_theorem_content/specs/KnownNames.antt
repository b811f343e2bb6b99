-- Disks on which it is known which names have files.
use Rattle.std.specs.Prelude.{◌≡◌, ◌⊎◌, ℕ, IsTrue, List}
use Rattle.fwd_outside.specs.File.{absent}
use Rattle.fwd_outside.specs.DiskStates.{Files}

-- Each name has a file, or has none and a crash leaves none. A file may have unsynced state, as after the end
-- of a process that wrote to it.
abbrev pub NamesAreKnown : Files → Type 0
NamesAreKnown files = (name : List ℕ) → (files name ≡ absent) ⊎ IsTrue (files name).there
