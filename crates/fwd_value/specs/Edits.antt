-- What replacing a part of a pair changes.
use Rattle.std.specs.Prelude.{◌≡◌, ℕ, List, set, slice_get, Some}
use Rattle.fwd_value.specs.Val.{Val}

-- the pair at the index has this value, and nothing else changed
pub record ReplacesValue (old : List (Val × Val)) (index : ℕ) (value : Val)
    (new : List (Val × Val)) : Type 0 where
  pub key : Val
  pub former : Val
  pub there : slice_get old index ≡ Some (key, former)
  pub edited : new ≡ set old index (key, value)

-- the pair at the index has this key, and nothing else changed
pub record ReplacesKey (old : List (Val × Val)) (index : ℕ) (key : Val)
    (new : List (Val × Val)) : Type 0 where
  pub former : Val
  pub value : Val
  pub there : slice_get old index ≡ Some (former, value)
  pub edited : new ≡ set old index (key, value)
