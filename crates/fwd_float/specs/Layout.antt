-- How a decimal is laid out as text: digits * 10 ^ power / 10 ^ 400, the digits given as text.
use Rattle.std.specs.Prelude.{ℕ, ◌+◌, ◌-◌, ◌&&◌, List, [], ◌++◌, length, take, drop, replicate, nat_lt, nat_le, codes, if◌then◌else◌, decimal}
use Rattle.std.specs.Float.Ieee.{Format, binary32, binary64}

-- the most digits before the point, and the most zeros after it, that are written with no exponent
abbrev pub most_digits : Format → ℕ
most_digits binary32 = 13
most_digits binary64 = 16

abbrev pub most_zeros : Format → ℕ
most_zeros binary32 = 5
most_zeros binary64 = 4

-- where the point stands: 400, and so many digits before it, or less so many zeros after it
abbrev pub point_of : List ℕ → ℕ → ℕ
point_of digits power = power + length digits

abbrev pub zeros : ℕ → List ℕ
zeros n = replicate n 48

-- `12.5`, or `12000.0`
abbrev pub with_whole_part : List ℕ → ℕ → List ℕ
with_whole_part digits power =
    if nat_le 400 power then digits ++ zeros (power - 400) ++ codes ".0"
    else take (point_of digits power - 400) digits ++ codes "." ++ drop (point_of digits power - 400) digits

-- `0.00125`
abbrev pub with_zeros : List ℕ → ℕ → List ℕ
with_zeros digits power = codes "0." ++ zeros (400 - point_of digits power) ++ digits

-- `1.25e-7`, or `1e21`
abbrev pub exponent_text : ℕ → List ℕ
exponent_text point =
    if nat_lt 400 point then codes "e" ++ decimal (point - 401) else codes "e-" ++ decimal (401 - point)

abbrev pub with_exponent : List ℕ → ℕ → List ℕ
with_exponent digits power =
    take 1 digits ++ (if nat_lt 1 (length digits) then codes "." ++ drop 1 digits else [])
    ++ exponent_text (point_of digits power)

unfoldable pub laid_out : Format → List ℕ → ℕ → List ℕ
laid_out f digits power =
    let point = point_of digits power in
    if nat_lt 400 point && nat_le point (400 + most_digits f) then with_whole_part digits power
    else (if nat_le point 400 && nat_le 400 (point + most_zeros f) then with_zeros digits power
    else with_exponent digits power)
