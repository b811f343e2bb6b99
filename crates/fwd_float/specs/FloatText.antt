-- The JSON text of a float, given by its bits.
use Rattle.std.specs.Prelude.{ℕ, ◌*◌, ◌%◌, List, ◌++◌, ◌==◌, nat_le, codes, if◌then◌else◌, decimal}
use Rattle.std.specs.Float.Ieee.{Format, hid, ones, top}
use Rattle.std.specs.Fmt.{sign_text}
use Rattle.fwd_float.specs.Shortest.{shortest_digits, shortest_power}
use Rattle.fwd_float.specs.Layout.{laid_out}

-- the text of a finite float that is not negative
unfoldable pub size_text : Format → ℕ → List ℕ
size_text f bits =
    if bits == 0 then codes "0.0"
    else laid_out f (decimal (shortest_digits f bits)) (shortest_power f bits)

-- Below the sign bit, `top f`, the bits of infinity are `ones f * hid f`, and those of each NaN are above.
unfoldable pub float_text : Format → ℕ → List ℕ
float_text f bits =
    if nat_le (ones f * hid f) (bits % top f) then codes "null"
    else sign_text (nat_le (top f) bits) ++ size_text f (bits % top f)
