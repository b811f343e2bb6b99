-- The weight of a value, which is greater than that of its parts. It is the measure by which recursion ends.
use Rattle.std.specs.Prelude.{ℕ, suc, ◌+◌}
use Rattle.fwd_value.specs.Val.{Val, nil, truth, whole, text, bin, float32, float64, ext, list, mapping, Vals, no_vals, val, Entries, no_entries, entry}

abbrev mutual
  pub weight : Val → ℕ
  weight nil = 1
  weight (truth b) = 1
  weight (whole n) = 1
  weight (text s) = 1
  weight (bin s) = 1
  weight (float32 n) = 1
  weight (float64 n) = 1
  weight (ext t s) = 1
  weight (list vs) = suc (weights vs)
  weight (mapping es) = suc (entry_weights es)

  pub weights : Vals → ℕ
  weights no_vals = 1
  weights (val v vs) = suc (weight v + weights vs)

  pub entry_weights : Entries → ℕ
  entry_weights no_entries = 1
  entry_weights (entry k v es) = suc (weight k + weight v + entry_weights es)
