-- The numbers of a configuration.
use Rattle.std.specs.Prelude.{ℕ, ◌+◌, ◌-◌, ◌*◌, ◌==◌, ◌&&◌, ◌||◌, nat_lt, nat_le, if◌then◌else◌, List, [], ◌∷◌, length, codes, Option, Some, None, option_and_then, option_map}
use Rattle.std.specs.List.{before_first, after_first}
use Rattle.std.specs.Str.{str_eq_ignore_ascii_case, byte}
use Rattle.fwd_base.specs.Number.{within_64_bits, is_digits, number_of}
use Rattle.fwd_base.specs.declared.output_options.Retries.{Retries}
use Rattle.fwd_base.specs.declared.output_options.Retries.TheVariants.{Times, Unlimited}

-- the number, if it is in this range
abbrev pub within : ℕ → ℕ → ℕ → Option ℕ
within least most number = if nat_le least number && nat_le number most then Some number else None

-- a number of at least 1
abbrev pub positive_of : List ℕ → Option ℕ
positive_of text = option_and_then (within 1 18446744073709551615) (number_of text)

-- the number of a port: 1 to 65535
abbrev pub port_of : List ℕ → Option ℕ
port_of text = option_and_then (within 1 65535) (number_of text)

-- the decimals of a number; 0 if it has no point
abbrev pub decimals : List ℕ → List ℕ
decimals text =
    let whole = before_first (λ b. b == byte ".") text in
    if nat_lt (length whole) (length text) then after_first (λ b. b == byte ".") text else codes "0"

-- the thousandths that decimals give, further digits cut off
abbrev pub thousandths : List ℕ → ℕ
thousandths [] = 0
thousandths (a ∷ []) = (a - 48) * 100
thousandths (a ∷ b ∷ []) = (a - 48) * 100 + (b - 48) * 10
thousandths (a ∷ b ∷ c ∷ more) = (a - 48) * 100 + (b - 48) * 10 + (c - 48)

-- Seconds as milliseconds: digits, or digits, a point and one to nine digits. They are at least one
-- millisecond and have at most 64 bits.
abbrev pub flush_of : List ℕ → Option ℕ
flush_of text =
    if is_digits (decimals text) && nat_le (length (decimals text)) 9
    then option_and_then
    (λ seconds. option_and_then (within 1 18446744073709551615)
    (within_64_bits (seconds * 1000 + thousandths (decimals text))))
    (number_of (before_first (λ b. b == byte ".") text))
    else None

-- How often to retry: a number, `no_limits` or `False` for no limit, `no_retries` for never, case ignored.
-- Any other text is `BadNumber`.
abbrev pub retries_of : List ℕ → Option Retries
retries_of text =
    if str_eq_ignore_ascii_case text (codes "no_limits") || str_eq_ignore_ascii_case text (codes "false")
    then Some Unlimited
    else (if str_eq_ignore_ascii_case text (codes "no_retries") then Some (Times 0)
    else option_map Times (number_of text))
