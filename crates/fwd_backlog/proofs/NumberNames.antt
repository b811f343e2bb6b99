-- The name of a number determines it.
use Rattle.std.proofs.Common.{◌≡◌, ◌≢◌, ℕ, zero, suc, ◌+◌, ◌-◌, ◌*◌, ◌/◌, ◌%◌, ◌^◌, ◌<◌, ◌&&◌, Bool, true, false, if◌then◌else◌, All, Contains, List, [], ◌∷◌, ◌++◌, length, length-append, take, drop, fold, Option, Some, None, refl, sym, ◌∙◌, ap, subst, arith, lit≤}
use Rattle.std.proofs.lemmas.Grind.{common_steps}
use Rattle.std.proofs.lemmas.Bool.{lt-ltb}
use Rattle.std.proofs.lemmas.List.{take_at, drop_at}
use Rattle.std.proofs.lemmas.List.Elements.{All-nil, All-cons, All-append, All-contains}
use Rattle.std.proofs.lemmas.List.Folds.{list_all-append}
use Rattle.std.proofs.lemmas.List.Sums.{fold_push}
use Rattle.std.proofs.lemmas.Str.{IsAscii-append, IsUtf8-from_ascii}
use Rattle.std.proofs.Math.Nat.{pow-suc}
use Rattle.std.specs.Char.{is_ascii_digit}
use Rattle.std.specs.List.{list_all}
use Rattle.std.specs.Prelude.{IsAscii, nat_eq, nat_lt}
use Rattle.std.specs.Str.{bytes_eq}
use Rattle.fwd_base.specs.Limits.{numbers_end}
use Rattle.fwd_base.specs.Number.{decimal, is_digits, within_64_bits, number_of}
use Rattle.fwd_outside.specs.Disk.{IsFileName}
use Rattle.fwd_chunk.specs.Name.{digits}
use Rattle.fwd_chunk.proofs.Digits.{no_digits, one_digit}
use Rattle.fwd_backlog.specs.Serial.{flb, is_chunk_name, serial_or_zero, serial_number}

-- the name of the file of a number
abbrev pub numbered : ℕ → List ℕ
numbered number = digits 20 number ++ flb

more_digits : (count n : ℕ) → digits (suc count) n ≡ digits count (n / 10) ++ (48 + n % 10) ∷ []
more_digits count n = one_digit (suc count) count n (omega arith)

length_digits : (count n : ℕ) → length (digits count n) ≡ count
length_digits zero n = ap length (no_digits n)
length_digits (suc count) n = ap length (more_digits count n) ∙ length-append (digits count (n / 10)) ((48 + n % 10) ∷ []) ∙ (let front : length (digits count (n / 10)) ≡ count = length_digits count (n / 10) in omega arith)

decimal_digits : (count n : ℕ) → n < 10 ^ count → decimal (digits count n) ≡ n
decimal_digits zero n less = ap decimal (no_digits n) ∙ omega (arith, less)
decimal_digits (suc count) n less =
    let power : 10 ^ suc count ≡ 10 ^ count * 10 = pow-suc 10 count in
    let front : decimal (digits count (n / 10)) ≡ n / 10 = decimal_digits count (n / 10) (omega arith) in
    ap decimal (more_digits count n)
    ∙ fold_push (λ number digit. number * 10 + (digit - 48)) 0 (digits count (n / 10)) (48 + n % 10)
    ∙ ap (λ (m : ℕ). m * 10 + (48 + n % 10 - 48)) front
    ∙ omega arith

one_is_digit : (n : ℕ) → is_ascii_digit (48 + n % 10) ≡ true
one_is_digit n = grind (arith, common_steps)

all_digits : (count n : ℕ) → list_all is_ascii_digit (digits count n) ≡ true
all_digits zero n = ap (list_all is_ascii_digit) (no_digits n)
all_digits (suc count) n =
    ap (list_all is_ascii_digit) (more_digits count n)
    ∙ list_all-append is_ascii_digit (digits count (n / 10)) ((48 + n % 10) ∷ [])
    ∙ ap (λ (b : Bool). b && (is_ascii_digit (48 + n % 10) && true)) (all_digits count (n / 10))
    ∙ ap (λ (b : Bool). b && true) (one_is_digit n)

number_is : (n : ℕ) → n < numbers_end → number_of (digits 20 n) ≡ Some n
number_is n small =
    let long : length (digits 20 n) ≡ 20 = length_digits 20 n in
    let are : is_digits (digits 20 n) ≡ true = ap (λ (l : ℕ). nat_lt 0 l && list_all is_ascii_digit (digits 20 n)) long ∙ all_digits 20 n in
    let value : decimal (digits 20 n) ≡ n = decimal_digits 20 n (omega (arith, small)) in
    ap (λ (b : Bool). if b then within_64_bits (decimal (digits 20 n)) else None) are
    ∙ ap within_64_bits value
    ∙ ap (λ (b : Bool). if b then Some n else None) (lt-ltb n (2 ^ 64) (omega (arith, small)))

pub serial_numbered : (n : ℕ) → n < numbers_end → serial_number (numbered n) ≡ n
serial_numbered n small =
    let front : take 20 (numbered n) ≡ digits 20 n = take_at (digits 20 n) flb 20 (length_digits 20 n) in
    let end : drop 20 (numbered n) ≡ flb = drop_at (digits 20 n) flb 20 (length_digits 20 n) in
    ap (λ (l : List ℕ). if bytes_eq l flb then serial_or_zero (number_of (take 20 (numbered n))) else 0) end
    ∙ ap (λ (l : List ℕ). serial_or_zero (number_of l)) front
    ∙ ap serial_or_zero (number_is n small)
    ∙ ap (λ (b : Bool). if b then n else 0) (lt-ltb n numbers_end small)

pub chunk_numbered : (n : ℕ) → is_chunk_name (numbered n) ≡ true
chunk_numbered n =
    let long : length (numbered n) - length flb ≡ length (digits 20 n) = omega (arith, length-append (digits 20 n) flb) in
    let end : drop (length (numbered n) - length flb) (numbered n) ≡ flb = ap (λ (k : ℕ). drop k (numbered n)) long ∙ drop_at (digits 20 n) flb (length (digits 20 n)) refl in
    rw end refl

ascii_digits : (count n : ℕ) → IsAscii (digits count n)
ascii_digits zero n = subst IsAscii (sym (no_digits n)) (λ i. lit≤ tt)
ascii_digits (suc count) n = subst IsAscii (sym (more_digits count n)) (IsAscii-append (digits count (n / 10)) ((48 + n % 10) ∷ []) (ascii_digits count (n / 10)) one)
  where
    one : IsAscii ((48 + n % 10) ∷ [])
    one zero = omega arith
    one (suc i) = lit≤ tt

abbrev IsPlain : ℕ → Type 0
IsPlain byte = byte ≢ 47

plain_digits : (count n : ℕ) → All IsPlain (digits count n)
plain_digits zero n = subst (All IsPlain) (sym (no_digits n)) (All-nil IsPlain)
plain_digits (suc count) n =
    subst (All IsPlain) (sym (more_digits count n)) (All-append IsPlain (digits count (n / 10)) ((48 + n % 10) ∷ []) (plain_digits count (n / 10)) (All-cons IsPlain (48 + n % 10) [] (λ is. omega (arith, is)) (All-nil IsPlain)))

plain_flb : All IsPlain flb
plain_flb = All-cons IsPlain 46 (102 ∷ 108 ∷ 98 ∷ []) (λ is. cc is) (All-cons IsPlain 102 (108 ∷ 98 ∷ []) (λ is. cc is) (All-cons IsPlain 108 (98 ∷ []) (λ is. cc is) (All-cons IsPlain 98 [] (λ is. cc is) (All-nil IsPlain))))

ascii_flb : IsAscii flb
ascii_flb = grind (arith, common_steps)

pub name_numbered : (n : ℕ) → IsFileName (numbered n)
name_numbered n = record {
  text = IsUtf8-from_ascii (numbered n) (IsAscii-append (digits 20 n) flb (ascii_digits 20 n) ascii_flb);
  plain = λ inside. All-contains IsPlain (numbered n) 47 (All-append IsPlain (digits 20 n) flb (plain_digits 20 n) plain_flb) inside refl;
}
