-- Globs as a computable test, and which of several match a tag.
use Rattle.std.specs.Prelude.{◌≡◌, ◌↔◌, ℕ, ◌+◌, Bool, true, false, ◌&&◌, ◌||◌, ◌==◌, if◌then◌else◌, List, [], ◌∷◌}
use Rattle.fwd_route.specs.Glob.{Glob}

-- whether the test holds of a suffix of the text
abbrev pub some_suffix : (List ℕ → Bool) → List ℕ → Bool
some_suffix test [] = test []
some_suffix test (byte ∷ text) = test (byte ∷ text) || some_suffix test text

-- whether the text begins with the byte and the test holds of the rest
abbrev pub after_byte : ℕ → (List ℕ → Bool) → List ℕ → Bool
after_byte first test [] = false
after_byte first test (byte ∷ text) = byte == first && test text

abbrev pub is_empty : List ℕ → Bool
is_empty [] = true
is_empty (byte ∷ text) = false

-- whether the glob matches the tag
abbrev pub globs : List ℕ → List ℕ → Bool
globs [] = is_empty
globs (byte ∷ glob) = if byte == 42 then some_suffix (globs glob) else after_byte byte (globs glob)

-- the indices, from n on, of the globs that match the tag
abbrev pub matching_from : ℕ → List (List ℕ) → List ℕ → List ℕ
matching_from n [] tag = []
matching_from n (glob ∷ more) tag =
    if globs glob tag then n ∷ matching_from (n + 1) more tag else matching_from (n + 1) more tag

-- the indices of the globs that match the tag
abbrev pub matching_outputs : List (List ℕ) → List ℕ → List ℕ
matching_outputs all tag = matching_from 0 all tag

-- the test decides whether a glob matches
abbrev pub TestDecidesGlobs : Type 0
TestDecidesGlobs = (glob tag : List ℕ) → (globs glob tag ≡ true) ↔ Glob glob tag
