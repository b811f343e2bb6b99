-- What holds of the text of each float, given by its bits.
use Rattle.std.specs.Prelude.{◌≡◌, ℕ, ◌+◌, ◌-◌, ◌*◌, ◌^◌, ◌<◌, ◌≤◌, Bool, true, ◌++◌, codes, Some, IsTrue, IsFalse, IsAscii, from_bits}
use Rattle.std.specs.Float.{float_is_finite}
use Rattle.std.specs.Fmt.{sign_text}
use Rattle.std.specs.Float.Ieee.{Format, hid, ones, top}
use Rattle.fast_float.specs.Parse.{parse_float}
use Rattle.fast_float.specs.Text.{Parts, text_of, nearest}
use Rattle.ryu.specs.Plain.{IsPlain, IsPlainNumber}
use Rattle.fwd_float.specs.FloatText.{float_text}
use Rattle.fwd_float.specs.Shortest.{units, numerator, denominator, reads_as, shortest_digits, shortest_power}

-- the bits are those of a finite float, sign and all
pub record IsFinite (f : Format) (bits : ℕ) : Type 0 where
  pub fits : bits < 2 * top f
  pub finite : IsTrue (float_is_finite (from_bits f bits))

-- the text is read as that float, the sign of a zero too
abbrev pub ReadsBack : Format → Type 0
ReadsBack f = (bits : ℕ) → IsFinite f bits → parse_float f (float_text f bits) ≡ Some (from_bits f bits)

-- a digit stands before and after the point, and no 0 before another digit, as JSON asks
abbrev pub IsPlainText : Format → Type 0
IsPlainText f = (bits : ℕ) → IsFinite f bits → IsPlainNumber (float_text f bits)

-- such a number's parts, to whose value no float is nearer than the one with these bits
abbrev pub HasParts : Format → Type 0
HasParts f =
    (bits : ℕ) → IsFinite f bits → (negative : Bool) × (parts : Parts)
    × (float_text f bits ≡ sign_text negative ++ text_of parts) × IsPlain parts
    × (nearest f negative parts ≡ from_bits f bits)

abbrev pub IsNullOtherwise : Format → Type 0
IsNullOtherwise f =
    (bits : ℕ) → bits < 2 * top f → IsFalse (float_is_finite (from_bits f bits))
    → float_text f bits ≡ codes "null"

abbrev pub IsAsciiText : Format → Type 0
IsAsciiText f = (bits : ℕ) → bits < 2 * top f → IsAscii (float_text f bits)

-- the bits are those of a finite float above 0
pub record IsSize (f : Format) (bits : ℕ) : Type 0 where
  pub some : 0 < bits
  pub finite : bits < ones f * hid f

-- a decimal of k digits or fewer reads as the float only where the one that is written has k or fewer
abbrev pub HasFewestDigits : Format → Type 0
HasFewestDigits f =
    (bits : ℕ) → IsSize f bits → (power digits k : ℕ) → reads_as f bits power digits ≡ true → digits < 10 ^ k
    → shortest_digits f bits < 10 ^ k

abbrev pub gap : ℕ → ℕ → ℕ
gap m n = (m - n) + (n - m)

-- how far a decimal with the power that is written is from the float
abbrev pub distance : Format → ℕ → ℕ → ℕ
distance f bits digits = gap (numerator (units f bits)) (digits * denominator f (shortest_power f bits))

-- no decimal with that power that reads as the float is nearer to it than the one that is written
abbrev pub IsNearest : Format → Type 0
IsNearest f =
    (bits : ℕ) → IsSize f bits → (digits : ℕ) → reads_as f bits (shortest_power f bits) digits ≡ true
    → distance f bits (shortest_digits f bits) ≤ distance f bits digits
