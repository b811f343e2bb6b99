-- Decimal numbers in text.
use Rattle.std.specs.Prelude.{ℕ, ◌+◌, ◌-◌, ◌*◌, ◌^◌, Bool, ◌&&◌, nat_lt, if◌then◌else◌, List, length, fold, Option, Some, None}
use Rattle.std.specs.Char.{is_ascii_digit}
use Rattle.std.specs.List.{list_all}

-- the value of decimal digits
abbrev pub decimal : List ℕ → ℕ
decimal digits = fold (λ number digit. number * 10 + (digit - 48)) 0 digits

-- the number, if it has at most 64 bits
abbrev pub within_64_bits : ℕ → Option ℕ
within_64_bits number = if nat_lt number (2 ^ 64) then Some number else None

-- one or more digits
abbrev pub is_digits : List ℕ → Bool
is_digits text = nat_lt 0 (length text) && list_all is_ascii_digit text

-- a number: digits whose value has at most 64 bits
abbrev pub number_of : List ℕ → Option ℕ
number_of text = if is_digits text then within_64_bits (decimal text) else None
