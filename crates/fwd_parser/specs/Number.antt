-- Numbers from digits.
use Rattle.std.specs.Prelude.{ℕ, ◌+◌, ◌*◌, ◌^◌, ◌==◌, ◌&&◌, not, nat_lt, List, length, take, drop, fold, Option, Some, None, if◌then◌else◌}
use Rattle.std.specs.Char.{is_digit, digit_value, is_ascii_digit}
use Rattle.std.specs.List.{list_all, prefix_len}

-- the number of these digits in a base
abbrev pub value_in : ℕ → List ℕ → ℕ
value_in base digits = fold (λ number c. number * base + digit_value c) 0 digits

-- the number of a text that is one digit or more, if it has at most 64 bits
unfoldable pub number_in : ℕ → List ℕ → Option ℕ
number_in base text =
    let are_digits = not (length text == 0) && list_all (λ c. is_digit c base) text in
    if are_digits && nat_lt (value_in base text) (2 ^ 64) then Some (value_in base text) else None

-- how many decimal digits are at the start, up to a limit
abbrev pub digits_at : ℕ → List ℕ → ℕ
digits_at most text = prefix_len is_ascii_digit (take most text)

-- the number of the decimal digits at the start, as many as there are up to a limit, and the rest of the
-- text
unfoldable pub number_of : ℕ → ℕ → List ℕ → Option (ℕ × List ℕ)
number_of least most text =
    let count = digits_at most text in
    if nat_lt count least then None else Some (value_in 10 (take count text), drop count text)
