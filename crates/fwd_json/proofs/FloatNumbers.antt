-- A plain number with a point or an exponent is read as a float.
use Rattle.std.proofs.Common.{◌≡◌, ℕ, ◌<◌, List, [], ◌∷◌, ◌++◌, length, get_or, Bool, true, false, not, Float, Some, T, refl, sym, ap, ◌∙◌, arith, lt-ltb, ne_eqb}
use Rattle.std.specs.Prelude.{from_bits, to_bits, option_map}
use Rattle.std.specs.Char.{digit_value}
use Rattle.std.specs.Float.{binary64, float_is_finite}
use Rattle.std.specs.Fmt.{sign_text}
use Rattle.std.specs.Str.Parse.{AllDigits}
use lib.Ieee.{nan, inf, fin, is_nan}
use lib.Ieee.Bits.{to_bits-of_bits}
use Rattle.fast_float.specs.Parse.{parse_float}
use Rattle.fast_float.specs.Text.{Parts, text_of, nearest, IsWellFormed}
use Rattle.fast_float.proofs.Writing.{scan-text_of, parse_float-text_of}
use Rattle.ryu.specs.Plain.{IsPlain, IsPlainNumber}
use Rattle.serde_json.specs.Data.{float}
use Rattle.serde_json.specs.Read.{number_of, number_from, float_of, is_integer}
use Rattle.fwd_float.specs.FloatText.{float_text}
use Rattle.fwd_float.specs.Laws.{IsFinite}
use Rattle.fwd_value.specs.Val.{float64}
use Rattle.fwd_json.specs.declared.floats.Floats.TheVariants.{Numbers}
use Rattle.fwd_json.specs.LinePairs.{number_value}

no_minus : (ds rest : List ℕ) → AllDigits 10 ds → 0 < length ds → get_or (ds ++ rest) 0 0 ≡ 45 → ⊥
no_minus [] rest h some e = omega arith
no_minus (d ∷ ds) rest h some e = let digit : digit_value d < 10 = h.0 in let is : d ≡ 45 = e in grind arith

number_of-text_of : (sign : Bool) (p : Parts) → IsWellFormed p → 0 < length p.whole → number_of (sign_text sign ++ text_of p) ≡ number_from sign p
unfolding number_of
number_of-text_of true p h some = ap (number_from true) (scan-text_of p h)
number_of-text_of false p h some = rw (ne_eqb (get_or (text_of p) 0 0) 45 (no_minus p.whole _ h.whole_digits some)) (ap (number_from false) (scan-text_of p h))

not_integer : (p : Parts) (point : Bool) → p.point ≡ point → IsPlain p → is_integer p ≡ false
not_integer p true e h = rw (e, lt-ltb _ _ h.whole)
not_integer p false e h = let marked = h.marked e in rw (e, lt-ltb _ _ h.whole, ne_eqb (length p.exponent) 0 (λ z. omega arith))

as_float : (sign : Bool) (p : Parts) → is_integer p ≡ false → number_from sign p ≡ float_of sign p
as_float true p e = rw e
as_float false p e = rw e

number_of-plain : (s : List ℕ) (x : Float) → IsPlainNumber s → parse_float binary64 s ≡ Some x → float_is_finite x ≡ true → number_of s ≡ Some (float x)
number_of-plain s x h parses finite =
    let read = sym (parse_float-text_of binary64 h.0 h.1 h.3.well_formed h.3.whole) ∙ ap (parse_float binary64) (sym h.2) ∙ parses in
    let same : nearest binary64 h.0 h.1 ≡ x = cc in
    ap number_of h.2 ∙ number_of-text_of h.0 h.1 h.3.well_formed h.3.whole ∙ as_float h.0 h.1 (not_integer h.1 h.1.point refl h.3) ∙ rw same (rw finite)

-- a finite float is a number
is_number : (x : Float) → float_is_finite x ≡ true → T (not (is_nan x))
unfolding float_is_finite is_nan
is_number nan e = absurd (cc e)
is_number (inf s) e = tt
is_number (fin s m e) h = tt

pub reads_back : (bits : ℕ) → IsFinite binary64 bits → IsPlainNumber (float_text binary64 bits) → parse_float binary64 (float_text binary64 bits) ≡ Some (from_bits binary64 bits)
    → option_map (number_value Numbers) (number_of (float_text binary64 bits)) ≡ Some (float64 bits)
reads_back bits finite plain back =
    ap (option_map (number_value Numbers)) (number_of-plain (float_text binary64 bits) (from_bits binary64 bits) plain back finite.finite)
    ∙ ap (λ (b : ℕ). Some (float64 b)) (to_bits-of_bits binary64 bits finite.fits (is_number (from_bits binary64 bits) finite.finite))
