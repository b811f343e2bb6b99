-- What comes of a float that is written and read again.
use Rattle.std.specs.Prelude.{◌≡◌, ℕ, Some, option_map}
use Rattle.std.specs.Float.Ieee.{binary64}
use Rattle.serde_json.specs.Read.{number_of}
use Rattle.fwd_float.specs.Laws.{IsFinite}
use Rattle.fwd_value.specs.Val.{float64}
use Rattle.fwd_json.specs.declared.floats.Floats.TheVariants.{Numbers}
use Rattle.fwd_json.specs.LinePairs.{number_value}
use Rattle.fwd_json.specs.Text.{double}

-- the text of a finite float of 64 bits is a number of JSON, whose value is the float with the same bits
abbrev pub ReadsBack : Type 0
ReadsBack =
    (bits : ℕ) → IsFinite binary64 bits
    → option_map (number_value Numbers) (number_of (double Numbers bits)) ≡ Some (float64 bits)
