-- The value of decimal digits grows with each digit.
use Rattle.std.proofs.Common.{◌≡◌, ℕ, ◌+◌, ◌-◌, ◌*◌, ◌<◌, ◌≤◌, List, [], ◌∷◌, length, drop, get_or, fold, arith}
use Rattle.std.proofs.lemmas.List.{at_drop_more}
use Rattle.fwd_base.specs.Number.{decimal}

-- the value of a number followed by further digits
abbrev pub with_digits : ℕ → List ℕ → ℕ
with_digits number digits = fold (λ n digit. n * 10 + (digit - 48)) number digits

pub with_digits-least : (number : ℕ) (digits : List ℕ) → number ≤ with_digits number digits
with_digits-least number [] = omega arith
with_digits-least number (digit ∷ digits) =
    let more = with_digits-least (number * 10 + (digit - 48)) digits in
    omega arith

pub with_digits-step : (number : ℕ) (digits : List ℕ) (i : ℕ) → i < length digits → with_digits number (drop i digits) ≡ with_digits (number * 10 + (get_or digits i 0 - 48)) (drop (i + 1) digits)
with_digits-step number digits i within = at_drop_more (with_digits number) digits i 0 within

-- a value above a bound is above it with more digits
pub decimal-past : (number : ℕ) (digits : List ℕ) (i most : ℕ) → i < length digits → with_digits number (drop i digits) ≡ decimal digits → (number * 10 + (get_or digits i 0 - 48) < most → ⊥) → decimal digits < most → ⊥
decimal-past number digits i most within is past small =
    past (omega (arith, with_digits-least (number * 10 + (get_or digits i 0 - 48)) (drop (i + 1) digits), with_digits-step number digits i within))
