-- Globs, as the manual's page on routing has them for Match: `*` matches any run of bytes, also none.
use Rattle.std.specs.Prelude.{◌≡◌, ◌≢◌, ◌↔◌, ℕ, ◌∷◌, ◌++◌, List, [], IsBitSet, Some, slice_get}

-- no byte is a star
abbrev pub HasNoStar : List ℕ → Type 0
HasNoStar [] = Unit {0}
HasNoStar (byte ∷ bytes) = (byte ≢ 42) × HasNoStar bytes

-- the pattern matches the tag
pub data Glob : List ℕ → List ℕ → Type 0 where
  -- a pattern without a star is the tag
  Plain : (pattern tag : List ℕ) → HasNoStar pattern → pattern ≡ tag → Glob pattern tag
  -- with a star, the pattern before it matches a prefix of the tag, and the one after it a suffix
  Star : (pattern tag before behind front run end : List ℕ) → pattern ≡ before ++ 42 ∷ behind
      → tag ≡ front ++ (run ++ end) → Glob before front → Glob behind end → Glob pattern tag

-- bit i of the mask is set exactly if glob i matches
abbrev pub RoutesTo : List (List ℕ) → List ℕ → ℕ → Type 0
RoutesTo globs tag mask =
    (i : ℕ) → IsBitSet mask i ↔ ((glob : List ℕ) × (slice_get globs i ≡ Some glob) × Glob glob tag)
