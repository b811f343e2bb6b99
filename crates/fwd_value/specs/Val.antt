-- The mathematical values that contracts speak of.
use Rattle.std.specs.Prelude.{ℕ, ℤ, Bool, List, [], ◌∷◌}

mutual
  pub data Val : Type 0 where
    nil : Val
    truth : Bool → Val
    whole : ℤ → Val
    text : List ℕ → Val
    bin : List ℕ → Val
    -- a float is its bits
    float32 : ℕ → Val
    float64 : ℕ → Val
    -- an extension: its type, and its bytes
    ext : ℤ → List ℕ → Val
    list : Vals → Val
    mapping : Entries → Val

  -- the values of a list, in order
  pub data Vals : Type 0 where
    no_vals : Vals
    val : Val → Vals → Vals

  -- the keys and values of a map, in order; a key may occur more than once
  pub data Entries : Type 0 where
    no_entries : Entries
    entry : Val → Val → Entries → Entries

-- the values of a plain list
abbrev pub vals_of : List Val → Vals
vals_of [] = no_vals
vals_of (v ∷ vs) = val v (vals_of vs)

-- the keys and values of a plain list of pairs
abbrev pub entries_of : List (Val × Val) → Entries
entries_of [] = no_entries
entries_of (e ∷ es) = entry e.0 e.1 (entries_of es)
