-- Pairs in the byte order of their text keys, and what putting a value at a key makes of them.
use Rattle.std.specs.Prelude.{◌≡◌, ◌≢◌, ℕ, ◌<◌, ◌≤◌, List, [], ◌∷◌, length, slice_index_or}
use Rattle.std.specs.Ordering.{nat_cmp, match_ordering}
use Rattle.std.specs.declared.cmp.Ordering.TheVariants.{Greater}
use Rattle.std.specs.Cmp.Lexicographic.{slice_cmp}
use Rattle.fwd_value.specs.Val.{Val, nil, text}

-- the bytes of a text key
abbrev pub text_of : Val → List ℕ
text_of (text s) = s
text_of _ = []

-- the bytes of the key at an index
abbrev pub key_at : List (Val × Val) → ℕ → List ℕ
key_at ps i = let pair = slice_index_or ps i (nil, nil) in text_of pair.0

-- each key is above those before it
abbrev pub Rises : List (Val × Val) → Type 0
Rises ps = (i j : ℕ) → i < j → j < length ps → slice_cmp nat_cmp (key_at ps j) (key_at ps i) ≡ Greater

-- the keys before an index are below this one, and the key there isn't
pub record IsPlace (ps : List (Val × Val)) (k : List ℕ) (i : ℕ) : Type 0 where
  pub within : i ≤ length ps
  pub below : (j : ℕ) → j < i → slice_cmp nat_cmp k (key_at ps j) ≡ Greater
  pub here : i < length ps → slice_cmp nat_cmp k (key_at ps i) ≢ Greater

-- the pairs, with v at k
abbrev pub put_pair : List ℕ → Val → List (Val × Val) → List (Val × Val)
put_pair k v [] = (text k, v) ∷ []
put_pair k v (p ∷ ps) =
    match_ordering (slice_cmp nat_cmp k (text_of p.0))
    ((text k, v) ∷ (p ∷ ps)) ((p.0, v) ∷ ps) (p ∷ put_pair k v ps)
