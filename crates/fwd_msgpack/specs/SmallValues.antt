-- Values of one byte, several of which are taken at once.
use Rattle.std.specs.Prelude.{◌≡◌, ℕ, ◌-◌, ◌<◌, ◌≤◌, Bool, true, false, List, [], ◌∷◌, ◌++◌, length}
use Rattle.fwd_msgpack.specs.declared.form.Form.{Form}
use Rattle.fwd_msgpack.specs.declared.form.Form.TheVariants as form
use Rattle.fwd_msgpack.specs.declared.scan.Scan.{Scan}
use Rattle.fwd_msgpack.specs.ScanState.{IsOpen, outcome_of}

-- a value of this form is its first byte alone
abbrev pub is_small : Form → Bool
is_small form.Nil = true
is_small (form.Bool t) = true
is_small (form.PositiveFixint n) = true
is_small (form.NegativeFixint z) = true
is_small _ = false

-- the number of values missing at the innermost level
abbrev pub innermost : List ℕ → ℕ
innermost [] = 0
innermost (n ∷ ns) = n

-- k values less are missing at the innermost level
abbrev pub fewer : ℕ → List ℕ → List ℕ
fewer k [] = []
fewer k (n ∷ ns) = (n - k) ∷ ns

-- the bytes before `rest` were taken, and the scan hasn't ended
pub record Passes (old new : Scan) (bytes rest : List ℕ) : Type 0 where
  pub wanting : IsOpen new
  pub some : 0 < length rest
  pub within : length rest ≤ length bytes
  pub seen : new.seen ≡ old.seen
  pub same : (more : List ℕ) → outcome_of new (rest ++ more) ≡ outcome_of old (bytes ++ more)
