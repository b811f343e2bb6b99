-- A disk as a killed process left it.
use Rattle.std.specs.Prelude.{ℕ, List}
use Rattle.fwd_outside.specs.File.{FileInvariant}
use Rattle.fwd_outside.specs.DiskStates.{Files}
use Rattle.fwd_theorem_content.specs.KnownNames.{NamesAreKnown}

-- Each name has a file, or has none that a crash could bring back. What a read returns is one of the states that
-- a crash may leave. Files may have unsynced state.
pub record IsLeftByKill (files : Files) : Type 0 where
  pub known : NamesAreKnown files
  pub sound : (name : List ℕ) → FileInvariant (files name)
