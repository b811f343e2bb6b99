-- BYTES are read back as the bytes that were written.
use Rattle.std.proofs.Common.{◌≡◌, ℕ, zero, suc, ◌/◌, ◌%◌, ◌<◌, ◌≤◌, ◌==◌, ◌&&◌, ◌||◌, nat_le, nat_lt, Bool, true, false, if◌then◌else◌, List, [], ◌∷◌, ◌++◌, length, slice_index, codes, Option, Some, None, Result, Ok, refl, sym, ◌∙◌, ap, arith, inl, inr}
use Rattle.std.specs.List.{flat_map, list_all, list_any}
use Rattle.std.proofs.lemmas.List.Folds.{list_any-append}
use Rattle.std.proofs.lemmas.Bool.{and_parts, cases_lt, lt-ltb, le-leb}
use Rattle.std.proofs.lemmas.Bool.Decides.{nat_tests}
use Rattle.hex.specs.Hex.{IsBytes, encode_lower, encode_with, lower_digits}
use Rattle.hex.specs.declared.error.FromHexError.{FromHexError}
use Rattle.hex.proofs.HexLemmas.{decode_of-encode_lower}
use Rattle.fwd_base.specs.Limits.{longest_piece}
use Rattle.fwd_script.specs.declared.refusal.ScheduleKind.TheVariants.{BadHex, BadNumber}
use Rattle.fwd_script.specs.Words.{decoded, escaped, in_front, judged, octets, piece, then_read, unescaped}
use Rattle.fwd_script.specs.Text.{byte_text, is_text, octets_text}
use Rattle.fwd_script.specs.Writable.{Lacks}
use Rattle.fwd_script.proofs.WrittenWords.{parted_whole}

same_byte : (x y : ℕ) → (x == y) ≡ true → x ≡ y
same_byte x y is = grind (arith, nat_tests)

-- a byte other than a backslash stands for itself
plain_one : (x : ℕ) (rest : List ℕ) → (x == 92) ≡ false → unescaped (x ∷ rest) ≡ in_front (Some x) (unescaped rest)
plain_one x [] is = ap (λ (b : Bool). if b then None else Some (x ∷ [])) is
plain_one x (y ∷ rest) is = ap (λ (b : Bool). if b then in_front (escaped y) (unescaped rest) else in_front (Some x) (unescaped (y ∷ rest))) is

one_byte : (x : ℕ) (rest : List ℕ) → unescaped (byte_text x ++ rest) ≡ in_front (Some x) (unescaped rest)
one_byte x rest = by (x == 10) (x == 13) (x == 9) (x == 92) refl refl refl refl
  where
    by : (a b c d : Bool) → (x == 10) ≡ a → (x == 13) ≡ b → (x == 9) ≡ c → (x == 92) ≡ d
        → unescaped ((if a then codes "\\n" else if b then codes "\\r" else if c then codes "\\t" else if d then codes "\\\\" else x ∷ []) ++ rest) ≡ in_front (Some x) (unescaped rest)
    by true b c d ia ib ic id = ap (λ (v : ℕ). in_front (Some v) (unescaped rest)) (sym (same_byte x 10 ia))
    by false true c d ia ib ic id = ap (λ (v : ℕ). in_front (Some v) (unescaped rest)) (sym (same_byte x 13 ib))
    by false false true d ia ib ic id = ap (λ (v : ℕ). in_front (Some v) (unescaped rest)) (sym (same_byte x 9 ic))
    by false false false true ia ib ic id = ap (λ (v : ℕ). in_front (Some v) (unescaped rest)) (sym (same_byte x 92 id))
    by false false false false ia ib ic id = plain_one x rest id

escapes_read : (bytes : List ℕ) → unescaped (flat_map byte_text bytes) ≡ Some bytes
escapes_read [] = refl
escapes_read (x ∷ xs) = one_byte x (flat_map byte_text xs) ∙ ap (in_front (Some x)) (escapes_read xs)

-- the hex digits have high codes
abbrev all_high : ℕ → Bool
all_high zero = true
all_high (suc n) = nat_le 48 (slice_index lower_digits n) && all_high n

high_at : (n k : ℕ) → all_high n ≡ true → k < n → nat_le 48 (slice_index lower_digits k) ≡ true
high_at zero k all lt = absurd (omega (arith, lt))
high_at (suc n) k all lt =
    let parts = and_parts (nat_le 48 (slice_index lower_digits n)) (all_high n) all in
    elim (cases_lt k n) [
      | inl below ↦ high_at n k parts.1 below
      | inr top ↦
          let same : k ≡ n = omega (arith, lt, top) in
          rw same parts.0
    ]

high_apart : (byte c : ℕ) → byte < 48 → nat_le 48 c ≡ true → (c == byte) ≡ false
high_apart byte c low high = grind (arith, nat_tests)

digit_apart : (byte k : ℕ) → byte < 48 → k < 16 → (slice_index lower_digits k == byte) ≡ false
digit_apart byte k low small = high_apart byte (slice_index lower_digits k) low (high_at 16 k refl small)

hex_lacks : (byte : ℕ) → byte < 48 → (bytes : List ℕ) → IsBytes bytes → Lacks byte (encode_lower bytes)
unfolding encode_with
hex_lacks byte low [] is = refl
hex_lacks byte low (b ∷ rest) is =
    let fits : b < 256 = is 0 in
    let high : b / 16 < 16 = omega arith in
    let last : b % 16 < 16 = omega arith in
    ap (λ (c : Bool). c || ((slice_index lower_digits (b % 16) == byte) || list_any (λ (x : ℕ). x == byte) (encode_lower rest))) (digit_apart byte (b / 16) low high)
    ∙ ap (λ (c : Bool). c || list_any (λ (x : ℕ). x == byte) (encode_lower rest)) (digit_apart byte (b % 16) low last)
    ∙ hex_lacks byte low rest (λ k. is (suc k))

pub octets_read : (bytes : List ℕ) → IsBytes bytes → octets (Some (octets_text bytes)) ≡ Ok (bytes, None)
octets_read bytes is = by (list_all is_text bytes)
  where
    by : (b : Bool) → octets (Some (if b then codes "t:" ++ flat_map byte_text bytes else codes "x:" ++ encode_lower bytes)) ≡ Ok (bytes, None)
    by true = ap (λ (o : Option (List ℕ)). judged BadHex o None) (escapes_read bytes)
    by false =
        rw (parted_whole 32 (encode_lower bytes) (hex_lacks 32 (omega arith) bytes is))
        (ap (λ (r : Result (List ℕ) FromHexError). judged BadHex (decoded r) None) (decode_of-encode_lower bytes is))

pub piece_read : (bytes : List ℕ) → IsBytes bytes → 0 < length bytes → length bytes ≤ longest_piece → piece (Some (octets_text bytes)) ≡ Ok (bytes, None)
piece_read bytes is some most =
    ap (then_read (λ (read : List ℕ). judged BadNumber (if nat_lt 0 (length read) && nat_le (length read) longest_piece then Some read else None))) (octets_read bytes is)
    ∙ ap (λ (b : Bool). judged BadNumber (if b && nat_le (length bytes) longest_piece then Some bytes else None) None) (lt-ltb 0 (length bytes) some)
    ∙ ap (λ (b : Bool). judged BadNumber (if b then Some bytes else None) None) (le-leb (length bytes) longest_piece most)

-- no line feed
pub lacks_append : (byte : ℕ) (xs ys : List ℕ) → Lacks byte xs → Lacks byte ys → Lacks byte (xs ++ ys)
lacks_append byte xs ys none none2 =
    list_any-append (λ (x : ℕ). x == byte) xs ys ∙ ap (λ (b : Bool). b || list_any (λ (x : ℕ). x == byte) ys) none ∙ none2

byte_lacks : (x : ℕ) → Lacks 10 (byte_text x)
byte_lacks x = by (x == 10) (x == 13) (x == 9) (x == 92) refl
  where
    by : (a b c d : Bool) → (x == 10) ≡ a → Lacks 10 (if a then codes "\\n" else if b then codes "\\r" else if c then codes "\\t" else if d then codes "\\\\" else x ∷ [])
    by true b c d ia = refl
    by false true c d ia = refl
    by false false true d ia = refl
    by false false false true ia = refl
    by false false false false ia = ap (λ (b : Bool). b || false) ia

escapes_lack : (bytes : List ℕ) → Lacks 10 (flat_map byte_text bytes)
escapes_lack [] = refl
escapes_lack (x ∷ xs) = lacks_append 10 (byte_text x) (flat_map byte_text xs) (byte_lacks x) (escapes_lack xs)

pub octets_lack : (bytes : List ℕ) → IsBytes bytes → Lacks 10 (octets_text bytes)
octets_lack bytes is = by (list_all is_text bytes)
  where
    by : (b : Bool) → Lacks 10 (if b then codes "t:" ++ flat_map byte_text bytes else codes "x:" ++ encode_lower bytes)
    by true = escapes_lack bytes
    by false = hex_lacks 10 (omega arith) bytes is
