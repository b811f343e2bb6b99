-- A float that is read has 64 bits.
use Rattle.std.proofs.Common.{ℕ, ◌+◌, ◌*◌, ◌<◌, ◌^◌, Bool, List, length, Option, Some, None, IfSome, option_map, option_and_then}
use Rattle.std.specs.Prelude.{T, ◌==◌, if◌then◌else◌, codes, drop, slice_index}
use Rattle.std.specs.Float.Parse.{parse_float, read_float, begins_with, read_word, read_unsigned, sign_len}
use Rattle.std.specs.Float.Numeral.{Parts, minus, has_digits, scan_numeral, nearest_float, numeral_digits, tens_up, tens_down}
use lib.Ieee.{Float, nan, inf, binary64, fits, to_bits}
use lib.Ieee.Bits.{to_bits-lt}
use lib.Ieee.Fits.{round-fits, nan-fits, inf-fits}
use Rattle.fwd_theorem_depth.proofs.Options.{if_mapped, if_then, if_either, if_tested}

pub bits_below : (x : Float) → T (fits binary64 x) → to_bits binary64 x < 2 ^ 64
bits_below x is = to_bits-lt binary64 x is

pub nearest_fits : (negative : Bool) (p : Parts) → T (fits binary64 (nearest_float binary64 negative p))
nearest_fits negative p = round-fits binary64 negative (numeral_digits p * 10 ^ tens_up p) (10 ^ tens_down p)

abbrev Fits : Float → Type 0
Fits x = T (fits binary64 x)

abbrev FitsRead : Float × ℕ → Type 0
FitsRead r = Fits r.0

word_fits : (negative : Bool) (s : List ℕ) → IfSome (read_word negative s) FitsRead
word_fits negative s =
    if_either FitsRead (begins_with s (codes "infinity")) (Some (inf negative, 8))
    (if begins_with s (codes "inf") then Some (inf negative, 3) else (if begins_with s (codes "nan") then Some (nan, 3) else None)) (inf-fits binary64 negative)
    (if_either FitsRead (begins_with s (codes "inf")) (Some (inf negative, 3)) (if begins_with s (codes "nan") then Some (nan, 3) else None) (inf-fits binary64 negative)
    (if_tested FitsRead (begins_with s (codes "nan")) (nan, 3) None (λ is. nan-fits binary64) tt))

unsigned_fits : (negative : Bool) (s : List ℕ) → IfSome (read_unsigned binary64 negative s) FitsRead
unsigned_fits negative s =
    if_either FitsRead (has_digits (scan_numeral s)) (Some (nearest_float binary64 negative (scan_numeral s), (scan_numeral s).len)) (read_word negative s) (nearest_fits negative (scan_numeral s))
    (word_fits negative s)

read_fits : (s : List ℕ) → IfSome (read_float binary64 s) FitsRead
unfolding read_float
read_fits s =
    if_mapped FitsRead FitsRead (λ r. (r.0, sign_len s + r.1)) (read_unsigned binary64 (slice_index s 0 == minus) (drop (sign_len s) s)) (λ r h. h)
    (unsigned_fits (slice_index s 0 == minus) (drop (sign_len s) s))

pub parsed_fits : (s : List ℕ) → IfSome (parse_float binary64 s) (λ x. T (fits binary64 x))
parsed_fits s = if_then FitsRead Fits (λ r. if r.1 == length s then Some r.0 else None) (read_float binary64 s) (λ r h. if_tested Fits (r.1 == length s) r.0 None (λ is. h) tt) (read_fits s)
