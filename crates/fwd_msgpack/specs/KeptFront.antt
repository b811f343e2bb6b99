-- What the parts of the encoder leave unchanged.
use Rattle.std.specs.Prelude.{◌≡◌, List, ℕ, length, take}

-- the old bytes are still there, at the front
abbrev pub KeepsFront : List ℕ → List ℕ → Type 0
KeepsFront old new = take (length old) new ≡ old
