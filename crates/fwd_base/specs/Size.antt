-- Sizes in text: digits, and a suffix for thousands, millions or billions.
use Rattle.std.specs.Prelude.{ℕ, ◌*◌, ◌==◌, List, [], ◌∷◌, length, drop, take_while, Option, Some, None, option_and_then, if◌then◌else◌}
use Rattle.std.specs.Char.{is_ascii_digit, eq_ignore_ascii_case}
use Rattle.std.specs.Str.{byte}
use Rattle.fwd_base.specs.Number.{decimal, within_64_bits}

-- the factor of a letter, in either case
abbrev pub unit_of : ℕ → Option ℕ
unit_of letter =
    if eq_ignore_ascii_case letter (byte "K") then Some 1_000
    else (if eq_ignore_ascii_case letter (byte "M") then Some 1_000_000
    else (if eq_ignore_ascii_case letter (byte "G") then Some 1_000_000_000
    else None))

-- the factor of a suffix: nothing, a letter, or a letter and B
abbrev pub factor_of : List ℕ → Option ℕ
factor_of [] = Some 1
factor_of (letter ∷ []) = unit_of letter
factor_of (letter ∷ last ∷ []) = if eq_ignore_ascii_case last (byte "B") then unit_of letter else None
factor_of (letter ∷ last ∷ next ∷ more) = None

-- the size in a text, if it is one
abbrev pub size_of : List ℕ → Option ℕ
size_of text =
    let digits = take_while is_ascii_digit text in
    if length digits == 0 then None
    else option_and_then (λ factor. within_64_bits (decimal digits * factor))
    (factor_of (drop (length digits) text))
