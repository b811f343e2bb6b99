-- Each layout writes its decimal, as well-formed parts of that value.
use Rattle.std.proofs.Common.{◌≡◌, ℕ, ◌+◌, ◌-◌, ◌*◌, ◌^◌, ◌<◌, ◌≤◌, Bool, true, false, cond, ◌&&◌, nat_lt, nat_le, List, [], ◌∷◌, ◌++◌, length, get_or, take, drop, refl, sym, ap, ◌∙◌, subst, inl, inr, arith, true≢false, append-nil, append_assoc, length-append, length-take, length-drop, take-append-drop, pow-add, decimal}
use Rattle.std.proofs.lemmas.Bool.{cases_lt, lt-ltb, le-ltb, lt-leb, le-leb, ltb-true, ltb-false}
use Rattle.std.proofs.lemmas.Bool.Decides.{nat_tests}
use Rattle.std.proofs.lemmas.Fmt.{decimal_is_IsNumeral, decimal_nonempty, first_decimal}
use Rattle.std.proofs.lemmas.List.{length-replicate, get_or_append_left, get_or-take}
use Rattle.std.specs.Fmt.{sign_text}
use Rattle.std.specs.Str.Parse.{digits_value, AllDigits}
use lib.Ieee.{Format}
use Rattle.fast_float.specs.Text.{Parts, digits_of, tens_up, tens_down, text_of, exponent_text}
use Rattle.fast_float.proofs.DigitsLemmas.{digits_value-append}
use Rattle.fast_float.proofs.Extremes.{tens_eq}
use Rattle.fast_float.proofs.Rows.{AllDigits-take, AllDigits-drop, AllDigits-append}
use Rattle.ryu.specs.Plain.{IsPlain}
use Rattle.ryu.proofs.Texts.{AllDigits-zeros, value_zeros}
use Rattle.fwd_float.specs.Layout.{most_digits, most_zeros, point_of, zeros, with_whole_part, with_zeros, with_exponent, laid_out}
use Rattle.fwd_float.specs.Shortest.{scale}

-- the text is plain parts of the value digits * 10 ^ power / 10 ^ 400
pub record IsWritten (text : List ℕ) (digits power : ℕ) : Type 0 where
  pub parts : Parts
  pub same : text ≡ text_of parts
  pub plain : IsPlain parts
  pub worth : digits_of parts * 10 ^ tens_up parts * scale ≡ digits * 10 ^ power * 10 ^ tens_down parts

abbrev parts_of : List ℕ → Bool → List ℕ → Bool → List ℕ → Parts
parts_of whole point fraction negative exponent =
    record { whole = whole; point = point; fraction = fraction; exponent_negative = negative; exponent = exponent; len = length (whole ++ (cond point (46 ∷ fraction) [] ++ exponent_text negative exponent)) }

-- a numeral with a point and no exponent
pointed : (whole fraction : List ℕ) (digits power : ℕ) → AllDigits 10 whole → AllDigits 10 fraction → 0 < length whole → (get_or whole 0 0 ≡ 48 → length whole ≡ 1) → 0 < length fraction
    → digits_value 10 (whole ++ fraction) * 10 ^ 0 * scale ≡ digits * 10 ^ power * 10 ^ (length fraction + 0) → IsWritten (whole ++ 46 ∷ fraction) digits power
pointed whole fraction digits power w f some first more worth = record {
  parts = parts_of whole true fraction false [];
  same = ap (λ l. whole ++ 46 ∷ l) (sym (append-nil fraction));
  plain = record {
    well_formed = record { whole_digits = w; fraction_digits = f; exponent_digits = tt; no_point = λ e. absurd (true≢false e); no_exponent = λ _. refl; len_is = refl };
    whole = some;
    no_leading_zero = first;
    fraction = λ _. more;
    marked = λ e. absurd (true≢false e);
  };
  worth = worth;
}

-- the digits of a number above 0
record AreDigits (ds : List ℕ) (d : ℕ) : Type 0 where
  all : AllDigits 10 ds
  value : digits_value 10 ds ≡ d
  some : 0 < length ds
  first : 48 < get_or ds 0 0

decimal_digits : (d : ℕ) → 0 < d → d < 2 ^ 64 → AreDigits (decimal d) d
decimal_digits d D h = let e = decimal_is_IsNumeral d h in record { all = e.0.1; value = e.1; some = decimal_nonempty d h; first = first_decimal d D h }

module _ (ds : List ℕ) (d : ℕ) (is : AreDigits ds d) where
  whole_form : (power : ℕ) → 400 ≤ power → IsWritten (ds ++ zeros (power - 400) ++ 46 ∷ 48 ∷ []) d power
  unfolding scale
  whole_form power h =
      let k = power - 400 in
      let whole = ds ++ zeros k in
      let long : length whole ≡ length ds + k = length-append ds _ ∙ ap (λ n. length ds + n) (length-replicate k 48) in
      let first = get_or_append_left ds (zeros k) 0 0 is.some in
      let value : digits_value 10 (whole ++ 48 ∷ []) ≡ d * 10 ^ k * 10 = rw (digits_value-append whole, digits_value-append ds, value_zeros k, length-replicate k, is.value) (omega arith) in
      let back : k + 400 ≡ power = omega arith in
      let tens : 10 ^ k * scale ≡ 10 ^ power = sym (pow-add 10 k 400) ∙ ap (λ n. 10 ^ n) back in
      pointed whole (48 ∷ []) d power (AllDigits-append _ _ is.all (AllDigits-zeros k)) (omega arith, tt) (omega (arith, is.some)) (λ e. absurd (omega (arith, is.first))) (omega arith)
      (ap (λ v. v * 1 * scale) value ∙ regroup d (10 ^ k) scale (10 ^ power) tens)
    where
      turn : (d t s : ℕ) → d * t * 10 * 1 * s ≡ d * (t * s) * 10
      turn d t s = grind arith

      regroup : (d t s p : ℕ) → t * s ≡ p → d * t * 10 * 1 * s ≡ d * p * 10
      regroup d t s p e = turn d t s ∙ ap (λ z. d * z * 10) e

  split_at : (n : ℕ) → 0 < n → get_or (take n ds) 0 0 ≡ 48 → length (take n ds) ≡ 1
  split_at n some e = absurd (omega (arith, get_or-take n ds 0 0 some, is.first))

  split_form : (power n : ℕ) → power < 400 → 0 < n → n + (400 - power) ≡ length ds → IsWritten (take n ds ++ 46 ∷ drop n ds) d power
  unfolding scale
  split_form power n h some long =
      let places : length (drop n ds) + 0 ≡ 400 - power = omega (arith, length-drop n ds) in
      pointed (take n ds) (drop n ds) d power (AllDigits-take n ds is.all) (AllDigits-drop n ds is.all) (omega (arith, length-take n ds)) (split_at n some) (omega (arith, length-drop n ds))
      (rw (take-append-drop, places, is.value) (tens_eq d 0 400 power (400 - power) (omega arith)))

  zeros_form : (power z : ℕ) → power + z + length ds ≡ 400 → IsWritten (48 ∷ 46 ∷ (zeros z ++ ds)) d power
  unfolding scale
  zeros_form power z sum =
      let fraction = zeros z ++ ds in
      let long : length fraction ≡ z + length ds = length-append _ ds ∙ ap (λ n. n + length ds) (length-replicate z 48) in
      let places : length fraction + 0 ≡ 400 - power = omega arith in
      let worth : digits_value 10 (48 ∷ fraction) ≡ d = digits_value-append (zeros z) ds ∙ rw (value_zeros z) (omega (arith, is.value)) in
      pointed (48 ∷ []) fraction d power (omega arith, tt) (AllDigits-append _ _ (AllDigits-zeros z) is.all) (omega arith) (λ _. refl) (omega (arith, is.some))
      (rw (worth, places) (tens_eq d 0 400 power (400 - power) (omega arith)))

  -- one digit, perhaps a point and the others, and an exponent
  exponent_form : (power size : ℕ) (point negative : Bool) → size < 1000 → (point ≡ true → 1 < length ds) → (point ≡ false → length ds ≡ 1)
      → cond negative 0 size + 400 ≡ power + (length ds - 1 + cond negative size 0)
      → IsWritten ((take 1 ds ++ cond point (46 ∷ drop 1 ds) []) ++ 101 ∷ (sign_text negative ++ decimal size)) d power
  unfolding scale
  exponent_form power size point negative small more one places =
      let e = decimal_is_IsNumeral size (omega arith) in
      let some = decimal_nonempty size (omega arith) in
      record {
        parts = parts_of (take 1 ds) point (drop 1 ds) negative (decimal size);
        same = rw (exponent_is negative (decimal size) some) (append_assoc (take 1 ds) _ _);
        plain = record {
          well_formed = record {
            whole_digits = AllDigits-take 1 ds is.all;
            fraction_digits = AllDigits-drop 1 ds is.all;
            exponent_digits = e.0.1;
            no_point = λ p. Rattle.std.proofs.lemmas.List.drop_all 1 ds (omega (arith, one p));
            no_exponent = λ p. absurd (omega (arith, ap length p));
            len_is = refl;
          };
          whole = omega (arith, length-take 1 ds, is.some);
          no_leading_zero = split_at 1 (omega arith);
          fraction = λ p. omega (arith, more p, length-drop 1 ds);
          marked = λ _. some;
        };
        worth = rw (take-append-drop 1 ds, e.1, length-drop 1 ds, is.value) (tens_eq d _ 400 power _ places);
      }
    where
      exponent_is : (s : Bool) (xs : List ℕ) → 0 < length xs → exponent_text s xs ≡ 101 ∷ (sign_text s ++ xs)
      exponent_is s [] h = absurd (omega arith)
      exponent_is s (x ∷ xs) h = refl

-- the layouts themselves
module _ (f : Format) (d power : ℕ) (D : 0 < d) (fits : d < 2 ^ 64) (small : power ≤ 900) (short : length (decimal d) ≤ 20) where
  is_digits : AreDigits (decimal d) d
  is_digits = decimal_digits d D fits

  whole_part : 400 < point_of (decimal d) power → IsWritten (with_whole_part (decimal d) power) d power
  whole_part h =
      elim (cases_lt power 400) [
        | inl l ↦
            let n = point_of (decimal d) power - 400 in
            rw (lt-leb 400 power l) (subst (λ t. IsWritten t d power) (sym (append_assoc (take n (decimal d)) (46 ∷ []) (drop n (decimal d)))) (split_form (decimal d) d is_digits power n l (omega arith) (omega arith)))
        | inr g ↦ rw (le-leb 400 power g) (whole_form (decimal d) d is_digits power g)
      ]

  zeros_part : point_of (decimal d) power ≤ 400 → IsWritten (with_zeros (decimal d) power) d power
  zeros_part h = zeros_form (decimal d) d is_digits power (400 - point_of (decimal d) power) (omega arith)

  exponent_part : IsWritten (with_exponent (decimal d) power) d power
  exponent_part =
      let ds = decimal d in
      let some = decimal_nonempty d fits in
      let more : nat_lt 1 (length ds) ≡ true → 1 < length ds = λ e. ltb-true 1 (length ds) e in
      let one : nat_lt 1 (length ds) ≡ false → length ds ≡ 1 = λ e. omega (arith, ltb-false 1 (length ds) e) in
      elim (cases_lt 400 (point_of ds power)) [
        | inl l ↦ rw (lt-ltb 400 (point_of ds power) l) (exponent_form ds d is_digits power (point_of ds power - 401) (nat_lt 1 (length ds)) false (omega arith) more one (omega arith))
        | inr g ↦ rw (le-ltb 400 (point_of ds power) g) (exponent_form ds d is_digits power (401 - point_of ds power) (nat_lt 1 (length ds)) true (omega arith) more one (omega arith))
      ]

  choose : (P : List ℕ → Type 0) (a b c e : Bool) (x y z : List ℕ) → (a ≡ true → P x) → (c ≡ true → P y) → P z → P (cond (a && b) x (cond (c && e) y z))
  choose P true true c e x y z p q r = p refl
  choose P true false true true x y z p q r = q refl
  choose P true false true false x y z p q r = r
  choose P true false false e x y z p q r = r
  choose P false b true true x y z p q r = q refl
  choose P false b true false x y z p q r = r
  choose P false b false e x y z p q r = r

  pub written : IsWritten (laid_out f (decimal d) power) d power
  unfolding laid_out
  written =
      let point = point_of (decimal d) power in
      choose (λ t. IsWritten t d power) (nat_lt 400 point) (nat_le point (400 + most_digits f)) (nat_le point 400) (nat_le 400 (point + most_zeros f)) _ _ _ (λ e. whole_part (ltb-true 400 point e)) (λ e. zeros_part (at_most point 400 e)) exponent_part
    where
      at_most : (a b : ℕ) → nat_le a b ≡ true → a ≤ b
      at_most a b e = grind (arith, nat_tests)

pub zero_written : IsWritten (48 ∷ 46 ∷ 48 ∷ []) 0 0
zero_written = pointed (48 ∷ []) (48 ∷ []) 0 0 (omega arith, tt) (omega arith, tt) (omega arith) (λ _. refl) (omega arith) (native.Mathlib.Nat.zero-mul scale)
