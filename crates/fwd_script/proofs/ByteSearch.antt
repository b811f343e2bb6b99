-- A search for a byte.
use Rattle.std.proofs.Common.{◌≡◌, ℕ, ◌==◌, Bool, true, false, List, length, Option, Some, None, unwrap_or, refl, sym, arith}
use Rattle.std.specs.List.{position_or_len}
use Rattle.std.proofs.lemmas.List.Sums.{position_or_len_is}
use Rattle.memchr.specs.Find.{IsFirstByte, is_byte}

not_true : (b : Bool) → (b ≡ true → ⊥) → b ≡ false
not_true true never = absurd (never refl)
not_true false never = refl

pub place_found : (wanted : ℕ) (text : List ℕ) (found : Option ℕ) → IsFirstByte (is_byte wanted) text found → unwrap_or found (length text) ≡ position_or_len (λ byte. byte == wanted) text
place_found wanted text None h = sym (position_or_len_is (λ byte. byte == wanted) text (length text) 0 (omega arith) (λ k l. not_true _ (λ e. h k (omega arith) l e)) (λ l. absurd (omega (arith, l))))
place_found wanted text (Some k) h =
    sym (position_or_len_is (λ byte. byte == wanted) text k 0 (omega (arith, h.0.high)) (λ j l. not_true _ (λ e. h.0.before j (omega arith) l e)) (λ l. h.1))
