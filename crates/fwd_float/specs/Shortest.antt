-- The decimal that is written for a finite float above 0. A decimal is digits * 10 ^ power / 10 ^ 400, so
-- that no power is negative. Its power is the greatest at which some decimal reads as the float, which
-- leaves the fewest digits. Of the decimals with that power that read as the float it is the nearest.
use Rattle.std.specs.Prelude.{ℕ, zero, suc, ◌+◌, ◌-◌, ◌*◌, ◌/◌, ◌%◌, ◌^◌, Bool, false, ◌||◌, ◌==◌, nat_lt, if◌then◌else◌, to_bits}
use Rattle.std.specs.Float.Ieee.{Format, low, hid, round}

-- The float with these bits is units / 2 ^ low f: so many times the least float above 0. The exponent
-- field stands at `hid f`. Where it is 0 the digits have no leading 1.
abbrev pub units : Format → ℕ → ℕ
units f bits =
    if nat_lt bits (hid f) then bits else (hid f + bits % hid f) * 2 ^ (bits / hid f - 1)

unfoldable pub scale : ℕ
scale = 10 ^ 400

-- the float nearest to the decimal has these bits
unfoldable pub reads_as : Format → ℕ → ℕ → ℕ → Bool
reads_as f bits power digits = to_bits f (round f false (digits * 10 ^ power) scale) == bits

-- The float over 10 ^ power / 10 ^ 400, as a fraction. Its whole part is the digits of the decimal at or
-- just below the float, and the next number those of the one just above.
abbrev pub numerator : ℕ → ℕ
numerator size = size * scale

abbrev pub denominator : Format → ℕ → ℕ
denominator f power = 2 ^ low f * 10 ^ power

unfoldable pub digits_below : Format → ℕ → ℕ → ℕ
digits_below f size power = numerator size / denominator f power

-- One of these two reads as the float. Any other decimal with that power is further from the float on
-- the same side, so if it read as the float, then so would the nearer one.
unfoldable pub has_decimal : Format → ℕ → ℕ → Bool
has_decimal f bits power =
    let below = digits_below f (units f bits) power in
    reads_as f bits power below || reads_as f bits power (below + 1)

-- the greatest such power, of those up to a given one
unfoldable pub power_up_to : Format → ℕ → ℕ → ℕ
power_up_to f bits zero = zero
power_up_to f bits (suc power) =
    if has_decimal f bits (suc power) then suc power else power_up_to f bits power

-- No float is as large as 10 ^ 400, so no decimal with a greater power reads as one.
abbrev pub shortest_power : Format → ℕ → ℕ
shortest_power f bits = power_up_to f bits 800

-- the whole number nearest to n / d, and of two that are as near the even one
abbrev pub nearest_whole : ℕ → ℕ → ℕ
nearest_whole n d =
    if nat_lt (2 * (n % d)) d then n / d
    else (if nat_lt d (2 * (n % d)) then n / d + 1 else n / d + n / d % 2)

unfoldable pub digits_nearest : Format → ℕ → ℕ → ℕ
digits_nearest f size power = nearest_whole (numerator size) (denominator f power)

-- The digits with that power: the nearest, if they read as the float, and otherwise the one other neighbour,
-- which then does.
unfoldable pub digits_at : Format → ℕ → ℕ → ℕ
digits_at f bits power =
    let below = digits_below f (units f bits) power in
    let nearest = digits_nearest f (units f bits) power in
    if reads_as f bits power nearest then nearest
    else (if reads_as f bits power below then below else below + 1)

abbrev pub shortest_digits : Format → ℕ → ℕ
shortest_digits f bits = digits_at f bits (shortest_power f bits)
