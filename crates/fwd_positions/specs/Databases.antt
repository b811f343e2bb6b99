-- The databases of a keeper.
use Rattle.std.specs.Prelude.{ℕ, List, ◌≡◌, ◌<◌, length, HoldsAt}
use Rattle.fwd_positions.specs.declared.database.Database.{Database}

-- the database with this index has the name
abbrev pub HasNameAt : List ℕ → List Database → ℕ → Type 0
HasNameAt name databases index =
    (index < length databases) × HoldsAt (λ it. it.name.items ≡ name) databases index
