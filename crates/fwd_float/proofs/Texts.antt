-- The text of a float is read back.
use Rattle.std.proofs.Common.{◌≡◌, Bool, ℕ, ◌+◌, ◌*◌, ◌%◌, ◌^◌, ◌<◌, ◌≤◌, true, false, nat_le, List, [], ◌∷◌, ◌++◌, Some, IsAscii, refl, sym, ap, ◌∙◌, subst, inl, inr, arith, true≢false, eq-zero-or-pos, zero-mul}
use Rattle.std.proofs.lemmas.Bool.{cases_lt, le-ltb, lt-leb, le-leb, ne_eqb}
use Rattle.std.proofs.lemmas.Float.{T_from_false}
use Rattle.std.proofs.lemmas.Fmt.{length-decimal-le}
use Rattle.std.proofs.lemmas.Str.Ascii.{IsAscii-nil, IsAscii-cons}
use Rattle.std.specs.Prelude.{codes}
use Rattle.std.specs.Float.{float_is_finite}
use Rattle.std.specs.Fmt.{sign_text}
use lib.Ieee.{Format, binary32, binary64, prec, hid, ones, top, of_bits, is_nan, round}
use lib.Ieee.Bits.{nan_bits_is, nan_bits_above}
use lib.Ieee.Scale.{round_same}
use Rattle.core.proofs.dec2flt.ExactLemmas.{ten_to_pos}
use Rattle.fast_float.specs.Parse.{parse_float}
use Rattle.fast_float.specs.Text.{Parts, nearest, digits_of, tens_up, tens_down, text_of}
use Rattle.fast_float.proofs.Extremes.{nearest_of_zero}
use Rattle.fast_float.proofs.Writing.{parse_float-text_of, IsAscii-text_of}
use Rattle.ryu.specs.Plain.{IsPlain, IsPlainNumber}
use Rattle.ryu.specs.Sign.{IsSignAndSize}
use Rattle.ryu.proofs.Signs.{parts, signed, finite_number}
use Rattle.fwd_float.specs.Laws.{IsFinite}
use Rattle.fwd_float.specs.FloatText.{size_text, float_text}
use Rattle.fwd_float.specs.Shortest.{scale, reads_as, shortest_digits, shortest_power}
use Rattle.fwd_float.proofs.Quotients.{scale_pos}
use Rattle.fwd_float.proofs.Reading.{to_float, none_zero}
use Rattle.fwd_float.proofs.Search.{found, chosen_reads, few_digits, below_bound}
use Rattle.fwd_float.proofs.Written.{IsWritten, written, zero_written}

-- a size's text, and the decimal that it writes, which reads as the size
pub record IsSizeText (f : Format) (bits : ℕ) (text : List ℕ) : Type 0 where
  pub digits : ℕ
  pub power : ℕ
  pub written : IsWritten text digits power
  pub nearest : of_bits f bits ≡ round f false (digits * 10 ^ power) scale

zero_size : (f : Format) → IsSizeText f 0 (size_text f 0)
unfolding size_text
zero_size f = record { digits = 0; power = 0; written = zero_written; nearest = (nearest_of_zero f (0 * 10 ^ 0) scale scale_pos (zero-mul (10 ^ 0))).0 }

some_size : (f : Format) (bits : ℕ) → 0 < bits → bits < ones f * hid f → IsSizeText f bits (size_text f bits)
unfolding size_text
some_size f bits S F =
    let d = shortest_digits f bits in
    let q = shortest_power f bits in
    let reads : reads_as f bits q d ≡ true = chosen_reads f bits S F q (found f bits S F) in
    let few : d < 10 ^ 18 = fewer f d (few_digits f bits S F) in
    let D : 0 < d = elim (eq-zero-or-pos d) [ inl z ↦ absurd (true≢false (sym (ap (reads_as f bits q) (sym z) ∙ reads) ∙ none_zero f bits S F q)) | inr p ↦ p ] in
    let power : q ≤ 900 = omega (arith, below_bound f bits S F 800) in
    rw (ne_eqb bits 0 (λ e. omega arith)) (record {
      digits = d;
      power = q;
      written = written f d q D (omega arith) power (omega (arith, length-decimal-le 18 d (omega arith) few (omega arith)));
      nearest = to_float f bits S F q d reads;
    })
  where
    fewer : (f : Format) (d : ℕ) → d ≤ 10 * 2 ^ (prec f + 2) → d < 10 ^ 18
    fewer binary32 d h = omega arith
    fewer binary64 d h = omega arith

size_is : (f : Format) (bits : ℕ) → bits < ones f * hid f → IsSizeText f bits (size_text f bits)
size_is f bits F = elim (eq-zero-or-pos bits) [ inl z ↦ subst (λ b. IsSizeText f b (size_text f b)) (sym z) (zero_size f) | inr p ↦ some_size f bits p F ]

finite_text : (f : Format) (bits : ℕ) → bits % top f < ones f * hid f → float_text f bits ≡ sign_text (nat_le (top f) bits) ++ size_text f (bits % top f)
unfolding float_text
finite_text f bits l = rw (lt-leb (ones f * hid f) (bits % top f) l) refl

other_text : (f : Format) (bits : ℕ) → ones f * hid f ≤ bits % top f → float_text f bits ≡ codes "null"
unfolding float_text
other_text f bits g = rw (le-leb (ones f * hid f) (bits % top f) g) refl

module _ (f : Format) (bits : ℕ) (is : IsFinite f bits) where
  split : IsSignAndSize f (of_bits f bits) (nat_le (top f) bits) (bits % top f)
  split = parts f (of_bits f bits) bits refl is.fits (finite_number (of_bits f bits) is.finite)

  small : bits % top f < ones f * hid f
  small = split.finite.0 is.finite

  size : IsSizeText f (bits % top f) (size_text f (bits % top f))
  size = size_is f (bits % top f) small

  text : float_text f bits ≡ sign_text (nat_le (top f) bits) ++ text_of size.written.parts
  text = finite_text f bits small ∙ ap (λ t. sign_text (nat_le (top f) bits) ++ t) size.written.same

  is_nearest : nearest f (nat_le (top f) bits) size.written.parts ≡ of_bits f bits
  is_nearest =
      let p = size.written.parts in
      let same = round_same f false (size.digits * 10 ^ size.power) scale (digits_of p * 10 ^ tens_up p) (10 ^ tens_down p) scale_pos (ten_to_pos (tens_down p)) (sym size.written.worth) in
      signed f (of_bits f bits) (nat_le (top f) bits) (bits % top f) _ _ split (size.nearest ∙ same)

  pub reads_back : parse_float f (float_text f bits) ≡ Some (of_bits f bits)
  reads_back = ap (parse_float f) text ∙ parse_float-text_of f (nat_le (top f) bits) size.written.parts size.written.plain.well_formed size.written.plain.whole ∙ ap Some is_nearest

  pub has_parts : (negative : Bool) × (p : Parts) × (float_text f bits ≡ sign_text negative ++ text_of p) × IsPlain p × (nearest f negative p ≡ of_bits f bits)
  has_parts = (nat_le (top f) bits, size.written.parts, text, size.written.plain, is_nearest)

  pub is_plain : IsPlainNumber (float_text f bits)
  is_plain = (nat_le (top f) bits, size.written.parts, text, size.written.plain)

  pub is_ascii : IsAscii (float_text f bits)
  is_ascii = rw text (IsAscii-text_of (nat_le (top f) bits) size.written.parts size.written.plain.well_formed)

-- ---- which floats have which text
is_finite : (f : Format) (bits : ℕ) → bits < 2 * top f → bits % top f < ones f * hid f → IsFinite f bits
is_finite f bits h l =
    let number = T_from_false (is_nan (of_bits f bits)) (sym (nan_bits_is f bits) ∙ nan_bits_above f bits ∙ le-ltb (ones f * hid f) (bits % top f) (native.Mathlib.Nat.le_of_lt l)) in
    record { fits = h; finite = (parts f (of_bits f bits) bits refl h number).finite.1 l }

pub null_otherwise : (f : Format) (bits : ℕ) → bits < 2 * top f → float_is_finite (of_bits f bits) ≡ false → float_text f bits ≡ codes "null"
null_otherwise f bits h e =
    elim (cases_lt (bits % top f) (ones f * hid f)) [ inl l ↦ absurd (true≢false (sym (is_finite f bits h l).finite ∙ e)) | inr g ↦ other_text f bits g ]

pub all_ascii : (f : Format) (bits : ℕ) → bits < 2 * top f → IsAscii (float_text f bits)
all_ascii f bits h =
    elim (cases_lt (bits % top f) (ones f * hid f)) [
      | inl l ↦ is_ascii f bits (is_finite f bits h l)
      | inr g ↦ rw (other_text f bits g) (IsAscii-cons 110 (117 ∷ 108 ∷ 108 ∷ []) (omega arith) (IsAscii-cons 117 (108 ∷ 108 ∷ []) (omega arith) (IsAscii-cons 108 (108 ∷ []) (omega arith) (IsAscii-cons 108 [] (omega arith) IsAscii-nil))))
    ]
