-- The words that are written are read back.
use Rattle.std.proofs.Common.{◌≡◌, ℕ, ◌+◌, ◌-◌, ◌*◌, ◌^◌, ◌<◌, ◌≤◌, ◌==◌, ◌&&◌, ◌||◌, nat_lt, Bool, true, false, if◌then◌else◌, List, [], ◌∷◌, ◌++◌, length, decimal, Option, Some, None, Ok, refl, ◌∙◌, ap, arith}
use Rattle.std.specs.List.{list_all, list_any}
use Rattle.std.specs.Char.{is_ascii_digit, digit_value}
use Rattle.std.specs.Str.Parse.{AllDigits, digits_value_after}
use Rattle.std.proofs.lemmas.Fmt.{decimal_is_IsNumeral}
use Rattle.std.proofs.lemmas.Bool.{lt-ltb, le-leb}
use Rattle.std.proofs.lemmas.Bool.Decides.{nat_tests}
use Rattle.fwd_base.specs.Number as base
use Rattle.fwd_base.proofs.Decimal.{with_digits}
use Rattle.fwd_script.specs.declared.refusal.ScheduleKind.TheVariants.{BadNumber}
use Rattle.fwd_script.specs.Writable.{Lacks}
use Rattle.fwd_script.specs.Words.{Left, at_most, judged, number_of, number_to, split_at_byte, then_read, word}
use Rattle.fwd_script.proofs.ByteSplit.{both}

-- a word, and the rest of its line
abbrev pub spaced : List ℕ → Left → List ℕ
spaced w None = w
spaced w (Some rest) = w ++ 32 ∷ rest

no_byte : (b c : Bool) → (b || c) ≡ false → (b ≡ false) × (c ≡ false)
no_byte true c is = absurd (cc is)
no_byte false c is = (refl, is)

pub parted_at : (byte : ℕ) (w rest : List ℕ) → Lacks byte w → split_at_byte byte (w ++ byte ∷ rest) ≡ both w (Some rest)
parted_at byte [] rest lacks = let same : (byte == byte) ≡ true = grind (arith, nat_tests) in ap (λ (b : Bool). if b then both [] (Some rest) else both (byte ∷ (split_at_byte byte rest).0) (split_at_byte byte rest).1) same
parted_at byte (x ∷ xs) rest lacks =
    let parts = no_byte (x == byte) (list_any (λ (y : ℕ). y == byte) xs) lacks in
    ap (λ (b : Bool). if b then both [] (Some (xs ++ byte ∷ rest)) else both (x ∷ (split_at_byte byte (xs ++ byte ∷ rest)).0) (split_at_byte byte (xs ++ byte ∷ rest)).1) parts.0
    ∙ ap (λ (p : List ℕ × Option (List ℕ)). both (x ∷ p.0) p.1) (parted_at byte xs rest parts.1)

pub parted_whole : (byte : ℕ) (w : List ℕ) → Lacks byte w → split_at_byte byte w ≡ both w None
parted_whole byte [] lacks = refl
parted_whole byte (x ∷ xs) lacks =
    let parts = no_byte (x == byte) (list_any (λ (y : ℕ). y == byte) xs) lacks in
    ap (λ (b : Bool). if b then both [] (Some xs) else both (x ∷ (split_at_byte byte xs).0) (split_at_byte byte xs).1) parts.0
    ∙ ap (λ (p : List ℕ × Option (List ℕ)). both (x ∷ p.0) p.1) (parted_whole byte xs parts.1)

pub word_is_read : (w : List ℕ) (rest : Left) → Lacks 32 w → word (Some (spaced w rest)) ≡ Ok (both w rest)
word_is_read w None lacks = ap (λ (p : List ℕ × Left). Ok p) (parted_whole 32 w lacks)
word_is_read w (Some rest) lacks = ap (λ (p : List ℕ × Left). Ok p) (parted_at 32 w rest lacks)

-- digits are digits, and none is a space or a line feed
digit_is : (c : ℕ) → digit_value c < 10 → is_ascii_digit c ≡ true
digit_is c small = grind (arith, nat_tests)

all_digits : (ds : List ℕ) → AllDigits 10 ds → list_all is_ascii_digit ds ≡ true
all_digits [] digits = refl
all_digits (c ∷ cs) digits = ap (λ (b : Bool). b && list_all is_ascii_digit cs) (digit_is c digits.0) ∙ all_digits cs digits.1

digit_apart : (byte c : ℕ) → byte < 48 → digit_value c < 10 → (c == byte) ≡ false
digit_apart byte c low small = grind (arith, nat_tests)

pub digits_lack : (byte : ℕ) → byte < 48 → (ds : List ℕ) → AllDigits 10 ds → Lacks byte ds
digits_lack byte low [] digits = refl
digits_lack byte low (c ∷ cs) digits =
    let apart : (c == byte) ≡ false = digit_apart byte c low digits.0 in
    ap (λ (b : Bool). b || list_any (λ (x : ℕ). x == byte) cs) apart ∙ digits_lack byte low cs digits.1

digit_worth : (c : ℕ) → digit_value c < 10 → c - 48 ≡ digit_value c
digit_worth c small = grind (arith, nat_tests)

-- the value of the digits that a number writes
digits_written : (number : ℕ) (ds : List ℕ) → AllDigits 10 ds → with_digits number ds ≡ digits_value_after 10 number ds
digits_written number [] digits = refl
digits_written number (c ∷ cs) digits =
    ap (λ (worth : ℕ). with_digits (number * 10 + worth) cs) (digit_worth c digits.0) ∙ digits_written (number * 10 + digit_value c) cs digits.1

number_of_decimal : (n most : ℕ) → n ≤ most → n < 2 ^ 64 → number_of most (decimal n) ≡ Some n
number_of_decimal n most fits small =
    let is = decimal_is_IsNumeral n small in
    let some : nat_lt 0 (length (decimal n)) ≡ true = lt-ltb 0 (length (decimal n)) is.0.0 in
    ap (λ (b : Bool). at_most most (if b && list_all is_ascii_digit (decimal n) then base.within_64_bits (base.decimal (decimal n)) else None)) some
    ∙ ap (λ (b : Bool). at_most most (if b then base.within_64_bits (base.decimal (decimal n)) else None)) (all_digits (decimal n) is.0.1)
    ∙ ap (λ (v : ℕ). at_most most (base.within_64_bits v)) (digits_written 0 (decimal n) is.0.1 ∙ is.1)
    ∙ ap (λ (b : Bool). at_most most (if b then Some n else None)) (lt-ltb n (2 ^ 64) small)
    ∙ ap (λ (b : Bool). if b then Some n else None) (le-leb n most fits)

pub number_is_read : (n most : ℕ) → n ≤ most → n < 2 ^ 64 → (rest : Left) → number_to most (Some (spaced (decimal n) rest)) ≡ Ok (n, rest)
number_is_read n most fits small rest =
    ap (then_read (λ (digits : List ℕ). judged BadNumber (number_of most digits))) (word_is_read (decimal n) rest (digits_lack 32 (omega arith) (decimal n) (decimal_is_IsNumeral n small).0.1))
    ∙ ap (λ (o : Option ℕ). judged BadNumber o rest) (number_of_decimal n most fits small)
