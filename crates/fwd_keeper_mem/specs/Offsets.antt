-- Offsets by database and path, of which one is set.
use Rattle.std.specs.Prelude.{◌≡◌, ℕ, if◌then◌else◌, List, Some}
use Rattle.fwd_keeper.specs.Keeper.{KeeperGiven, found, is_of}

-- the same offset for each path
abbrev pub SameOffsets : KeeperGiven → KeeperGiven → Type 0
SameOffsets a b = (db path : List ℕ) → found a db path ≡ found b db path

-- a path has this offset now, and the others are unchanged
abbrev pub HasOffset : List ℕ → List ℕ → ℕ → KeeperGiven → KeeperGiven → Type 0
HasOffset db path place old new =
    (other_db other_path : List ℕ)
    → found new other_db other_path
    ≡ (if is_of other_db other_path db path then Some place else found old other_db other_path)
