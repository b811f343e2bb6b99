-- Numbers in digits, digit by digit.
use Rattle.std.proofs.Common.{◌≡◌, ℕ, zero, suc, ◌+◌, ◌-◌, ◌*◌, ◌^◌, ◌<◌, ◌≤◌, ◌&&◌, ◌∙◌, sym, ap, cond, ltb, eqb, Bool, true, false, List, [], ◌∷◌, length, take, drop, get_or, fold, Option, Some, None, refl, arith}
use Rattle.std.specs.Char.{is_digit, digit_value, is_ascii_digit}
use Rattle.std.specs.List.{list_all}
use Rattle.std.proofs.lemmas.Bool.Decides.{nat_tests}
use Rattle.std.proofs.lemmas.Nat.{pow-add}
use Rattle.std.proofs.lemmas.List.{at_drop_more, length-take, length-drop, take_all}
use Rattle.std.proofs.lemmas.List.Sums.{prefix_len-le-length}
use Rattle.std.proofs.Math.Nat.{pow-suc, pow-succ', pow-le-pow_right, mul-le-mul_left, mul-le-mul_right, mul_assoc}
use Rattle.fwd_parser.specs.Number.{number_in, number_of, value_in, digits_at}

-- a number with further digits appended
abbrev pub with_digits : ℕ → ℕ → List ℕ → ℕ
with_digits base number digits = fold (λ n c. n * base + digit_value c) number digits

-- a number with further digits appended, if they are digits and it has at most 64 bits
abbrev pub number_from : ℕ → ℕ → List ℕ → Option ℕ
number_from base n cs =
    cond (list_all (λ c. is_digit c base) cs && ltb (with_digits base n cs) (2 ^ 64)) (Some (with_digits base n cs)) None

grows : (base n : ℕ) → 2 ≤ base → n ≤ n * base
grows zero n h = absurd (omega arith)
grows (suc base) n h = grind arith

pub with_digits-least : (base number : ℕ) (digits : List ℕ) → 2 ≤ base → number ≤ with_digits base number digits
with_digits-least base number [] h = omega arith
with_digits-least base number (digit ∷ digits) h =
    let more = with_digits-least base (number * base + digit_value digit) digits h in
    let first = grows base number h in
    omega arith

step : (base n c : ℕ) (cs : List ℕ) → digit_value c < base → number_from base n (c ∷ cs) ≡ number_from base (n * base + digit_value c) cs
step base n c cs h =
    let digit : ltb (digit_value c) base ≡ true = grind (arith, nat_tests) in
    rw digit refl

pub number_from_step : (base n i : ℕ) (cs : List ℕ) → i < length cs → digit_value (get_or cs i 0) < base → number_from base n (drop i cs) ≡ number_from base (n * base + digit_value (get_or cs i 0)) (drop (i + 1) cs)
number_from_step base n i cs within digit =
    at_drop_more (number_from base n) cs i 0 within ∙ step base n (get_or cs i 0) (drop (i + 1) cs) digit

stopped : (base n c : ℕ) (cs : List ℕ) (digit small : Bool) → ltb (digit_value c) base ≡ digit → ltb (n * base + digit_value c) (2 ^ 64) ≡ small → 2 ≤ base → ((digit_value c < base) × (n * base + digit_value c < 2 ^ 64) → ⊥) → number_from base n (c ∷ cs) ≡ None
stopped base n c cs false small d s h past_it = rw d refl
stopped base n c cs true true d s h past_it = absurd (past_it (grind (arith, nat_tests), grind (arith, nat_tests)))
stopped base n c cs true false d s h past_it =
    let least = with_digits-least base (n * base + digit_value c) cs h in
    let past : ltb (with_digits base (n * base + digit_value c) cs) (2 ^ 64) ≡ false = grind (arith, nat_tests) in
    rw (d, past) (elim (list_all (λ c. is_digit c base) cs) as (λ b. cond (b && false) (Some (with_digits base (n * base + digit_value c) cs)) None ≡ None) [ true ↦ refl | false ↦ refl ])

-- a byte that isn't a further digit, or that takes the number past 64 bits, gives no number
pub number_from_stop : (base n i : ℕ) (cs : List ℕ) → i < length cs → 2 ≤ base → ((digit_value (get_or cs i 0) < base) × (n * base + digit_value (get_or cs i 0) < 2 ^ 64) → ⊥) → number_from base n (drop i cs) ≡ None
number_from_stop base n i cs within h past_it =
    at_drop_more (number_from base n) cs i 0 within ∙ stopped base n (get_or cs i 0) (drop (i + 1) cs) _ _ refl refl h past_it

decimal_digit : (c : ℕ) → is_ascii_digit c ≡ true → digit_value c < 10
decimal_digit c h = grind (arith, nat_tests)

one_more : (k : ℕ) → 1 + k ≡ suc k
one_more k = omega arith

-- the counted bytes are digits
pub digits_are : (most : ℕ) (text : List ℕ) → list_all (λ c. is_digit c 10) (take (digits_at most text) text) ≡ true
digits_are zero text = refl
digits_are (suc most) [] = refl
digits_are (suc most) (c ∷ text) = first (digits_are most text) _ refl
  where
    first : list_all (λ c. is_digit c 10) (take (digits_at most text) text) ≡ true → (b : Bool) → is_ascii_digit c ≡ b → list_all (λ c. is_digit c 10) (take (cond b (1 + digits_at most text) 0) (c ∷ text)) ≡ true
    first more false e = refl
    first more true e =
        let digit : ltb (digit_value c) 10 ≡ true = let d = decimal_digit c e in grind (arith, nat_tests) in
        rw (one_more (digits_at most text), digit) more

ten_pos : (k : ℕ) → 1 ≤ 10 ^ k
ten_pos zero = omega arith
ten_pos (suc k) = let e = pow-suc 10 k in let h = ten_pos k in omega arith

within : (k n : ℕ) → n < (n + 1) * 10 ^ k
within k n = let h = mul-le-mul_left (n + 1) (ten_pos k) in omega arith

below : (k n v w : ℕ) → v < 10 → w < (n * 10 + v + 1) * 10 ^ k → w < (n + 1) * 10 ^ suc k
below k n v w digit h =
    let power = ap (λ x. (n + 1) * x) (pow-succ' 10 k) in
    let apart = mul_assoc (n + 1) 10 (10 ^ k) in
    let more : n * 10 + v + 1 ≤ (n + 1) * 10 = omega arith in
    let least = mul-le-mul_right (10 ^ k) more in
    omega arith

and_left : (x y : Bool) → (x && y) ≡ true → x ≡ true
and_left true y e = refl
and_left false y e = e

and_right : (x y : Bool) → (x && y) ≡ true → y ≡ true
and_right true y e = e
and_right false y e = cc

-- n digits give a number below the power of ten
digits_below : (n : ℕ) (cs : List ℕ) → list_all (λ c. is_digit c 10) cs ≡ true → with_digits 10 n cs < (n + 1) * 10 ^ length cs
digits_below n [] all = within 0 n
digits_below n (c ∷ cs) all =
    let first = and_left (ltb (digit_value c) 10) _ all in
    let digit : digit_value c < 10 = grind (arith, nat_tests) in
    let more = digits_below (n * 10 + digit_value c) cs (and_right (ltb (digit_value c) 10) _ all) in
    below (length cs) n (digit_value c) _ digit more

-- no more digits are counted than there are bytes
pub digits_within : (most : ℕ) (text : List ℕ) → digits_at most text ≤ length text
digits_within most text =
    let h = prefix_len-le-length is_ascii_digit (take most text) in
    let k = length-take most text in
    omega arith

pub digits_most : (most : ℕ) (text : List ℕ) → digits_at most text ≤ most
digits_most most text =
    let h = prefix_len-le-length is_ascii_digit (take most text) in
    let k = length-take most text in
    omega arith

taken : (most : ℕ) (text : List ℕ) → length (take (digits_at most text) text) ≡ digits_at most text
taken most text =
    let h = digits_within most text in
    let k = length-take (digits_at most text) text in
    omega arith

-- the counted digits give a number below the power of ten
pub number_below : (most : ℕ) (text : List ℕ) → value_in 10 (take (digits_at most text) text) < 10 ^ digits_at most text
number_below most text =
    let h = digits_below 0 (take (digits_at most text) text) (digits_are most text) in
    let k = ap (λ (n : ℕ). 10 ^ n) (taken most text) in
    omega arith

pub power_most : (k most : ℕ) → k ≤ most → 10 ^ k ≤ 10 ^ most
power_most k most h = pow-le-pow_right (omega arith) h

-- a fraction of k digits, in billionths
pub in_billionths : (k n : ℕ) → k ≤ 9 → n < 10 ^ k → n * 10 ^ (9 - k) < 1_000_000_000
in_billionths k n h below =
    let whole : k + (9 - k) ≡ 9 = omega arith in
    let e = pow-add 10 k (9 - k) in
    let powers : 10 ^ k * 10 ^ (9 - k) ≡ 10 ^ 9 = sym e ∙ ap (λ (m : ℕ). 10 ^ m) whole in
    let least : (n + 1) * 10 ^ (9 - k) ≤ 10 ^ k * 10 ^ (9 - k) = mul-le-mul_right (10 ^ (9 - k)) (omega arith) in
    let one = ten_pos (9 - k) in
    let apart : (n + 1) * 10 ^ (9 - k) ≡ n * 10 ^ (9 - k) + 10 ^ (9 - k) = grind arith in
    omega arith

-- the number of a text that isn't empty
pub number_in-is : (base : ℕ) (text : List ℕ) → 0 < length text → number_in base text ≡ number_from base 0 text
unfolding number_in
number_in-is base [] h = absurd (omega arith)
number_in-is base (c ∷ text) h =
    let e : eqb (length (c ∷ text)) 0 ≡ false = grind (arith, nat_tests) in
    rw e refl

pub number_in-empty : (base : ℕ) (text : List ℕ) → length text ≡ 0 → number_in base text ≡ None
unfolding number_in
number_in-empty base [] h = refl
number_in-empty base (c ∷ text) h = absurd (omega arith)

-- a number with no digits left
pub number_from-end : (base n : ℕ) → n < 2 ^ 64 → number_from base n [] ≡ Some n
number_from-end base n h =
    let fits : ltb n (2 ^ 64) ≡ true = grind (arith, nat_tests) in
    rw fits refl

-- the counted digits give a number of at most 64 bits
pub digits_number : (most : ℕ) (text : List ℕ) → most ≤ 18 → 0 < digits_at most text → number_in 10 (take (digits_at most text) text) ≡ Some (value_in 10 (take (digits_at most text) text))
digits_number most text h some =
    let ds = take (digits_at most text) text in
    let there : 0 < length ds = rw (taken most text) some in
    let small = number_below most text in
    let power = power_most (digits_at most text) 18 (let m = digits_most most text in omega arith) in
    let fits : ltb (value_in 10 ds) (2 ^ 64) ≡ true = grind (arith, nat_tests) in
    number_in-is 10 ds there ∙ rw (digits_are most text, fits) refl

found_value : (least most : ℕ) (text ds : List ℕ) (count found : ℕ) → count ≡ digits_at most text → least ≤ count → 1 ≤ least → most ≤ 18 → number_in 10 ds ≡ Some found → ds ≡ take count text → found ≡ value_in 10 (take (digits_at most text) text)
found_value least most text ds count found e enough one fits is same =
    let some : 0 < digits_at most text = omega arith in
    let all = ap (number_in 10) (same ∙ ap (λ (n : ℕ). take n text) e) ∙ digits_number most text fits some in
    let value : Some found ≡ Some (value_in 10 (take (digits_at most text) text)) = sym is ∙ all in
    cc

-- the number of the counted digits, and what follows them
pub number_of_is : (least most : ℕ) (text ds : List ℕ) (count found : ℕ) → count ≡ digits_at most text → least ≤ count → 1 ≤ least → most ≤ 18 → number_in 10 ds ≡ Some found → ds ≡ take count text → Some (found, take (length text - count) (drop count text)) ≡ number_of least most text
unfolding number_of
number_of_is least most text ds count found e enough one fits is same =
    let test : ltb (digits_at most text) least ≡ false = grind (arith, nat_tests) in
    let value = found_value least most text ds count found e enough one fits is same in
    let long = length-drop count text in
    let rest = take_all (length text - count) (drop count text) (omega arith) ∙ ap (λ (n : ℕ). drop n text) e in
    rw test (λ i. Some (value i, rest i))

pub found_below : (least most : ℕ) (text ds : List ℕ) (count found : ℕ) → count ≡ digits_at most text → least ≤ count → 1 ≤ least → most ≤ 18 → number_in 10 ds ≡ Some found → ds ≡ take count text → found < 10 ^ most
found_below least most text ds count found e enough one fits is same =
    let value = found_value least most text ds count found e enough one fits is same in
    let below_count = number_below most text in
    let power = power_most (digits_at most text) most (digits_most most text) in
    omega arith
