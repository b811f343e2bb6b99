-- How a glob and a tag continue.
use Rattle.std.specs.Prelude.{◌≡◌, ◌≢◌, ℕ, List, [], ◌∷◌, ◌++◌}
use Rattle.fwd_route.specs.Glob.{Glob}
use Rattle.fwd_route.specs.declared.Step.{Step}
use Rattle.fwd_route.specs.declared.Step.TheVariants.{Over, Star, Same, Other}

-- both have ended, or the glob continues with a star, or both with one byte, or the glob doesn't match the
-- tag
abbrev pub IsNextStep : List ℕ → List ℕ → Step → Type 0
IsNextStep pattern tag Over = (pattern ≡ []) × (tag ≡ [])
IsNextStep pattern tag (Star behind) = pattern ≡ 42 ∷ behind.now
IsNextStep pattern tag (Same behind rest) =
    (byte : ℕ) × (byte ≢ 42) × (pattern ≡ byte ∷ behind.now) × (tag ≡ byte ∷ rest.now)
IsNextStep pattern tag Other = Glob pattern tag → ⊥

-- the text ends with `end`
abbrev pub IsSuffix : List ℕ → List ℕ → Type 0
IsSuffix end text = (run : List ℕ) × (text ≡ run ++ end)
