-- Whether a value has no float.
use Rattle.std.specs.Prelude.{Bool, true, false, ◌&&◌}
use Rattle.fwd_value.specs.Val.{Val, nil, truth, whole, text, bin, float32, float64, ext, list, mapping, Vals, no_vals, val, Entries, no_entries, entry}

-- no value within has one; keys aren't looked at
abbrev mutual
  pub has_no_float : Val → Bool
  has_no_float nil = true
  has_no_float (truth b) = true
  has_no_float (whole n) = true
  has_no_float (text s) = true
  has_no_float (bin s) = true
  has_no_float (float32 n) = false
  has_no_float (float64 n) = false
  has_no_float (ext t s) = true
  has_no_float (list vs) = have_no_float vs
  has_no_float (mapping es) = entries_have_no_float es

  pub have_no_float : Vals → Bool
  have_no_float no_vals = true
  have_no_float (val v vs) = has_no_float v && have_no_float vs

  pub entries_have_no_float : Entries → Bool
  entries_have_no_float no_entries = true
  entries_have_no_float (entry k v es) = has_no_float v && entries_have_no_float es
