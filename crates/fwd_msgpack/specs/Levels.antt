-- The number of values still missing at each open level, innermost first.
use Rattle.std.specs.Prelude.{ℕ, zero, suc, List, [], ◌∷◌, slice_index_or}

-- the first n counts, last to first
abbrev pub innermost_counts : List ℕ → ℕ → List ℕ
innermost_counts counts zero = []
innermost_counts counts (suc n) = slice_index_or counts n 0 ∷ innermost_counts counts n

-- the innermost level misses a value
abbrev pub MissesOne : List ℕ → Type 0
MissesOne (suc n ∷ ns) = Unit {0}
MissesOne _ = ⊥

-- one value less is missing at the innermost level
abbrev pub one_less : List ℕ → List ℕ
one_less (suc n ∷ ns) = n ∷ ns
one_less ns = ns

-- without the complete levels at the front
abbrev pub closed : List ℕ → List ℕ
closed [] = []
closed (zero ∷ ns) = closed ns
closed (suc n ∷ ns) = suc n ∷ ns
