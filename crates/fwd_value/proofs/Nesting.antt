-- The nesting of lists, from that of their members.
use Rattle.std.proofs.Common.{◌≡◌, ℕ, zero, suc, ◌+◌, ◌≤◌, ◌<◌, List, [], ◌∷◌, map, length, take, get_or, ap, add-one, arith}
use Rattle.fwd_value.specs.Val.{vals_of, entries_of}
use Rattle.fwd_value.specs.View.{val_of, pair_of}
use Rattle.fwd_value.specs.Limits.{nesting, nestings, entry_nestings}
use Rattle.fwd_value.specs.declared.value.Value.{Value}

pub nestings_member : (xs : List Value) (i : ℕ) (v : Value) → i < length xs → v ≡ get_or xs i v → nesting (val_of v) ≤ nestings (vals_of (map val_of xs))
nestings_member [] i v lt e = absurd (omega arith)
nestings_member (x ∷ xs) zero v lt e = let same : nesting (val_of v) ≡ nesting (val_of x) = ap (λ (y : Value). nesting (val_of y)) e in omega arith
nestings_member (x ∷ xs) (suc i) v lt e = omega (arith, nestings_member xs i v (omega arith) e)

nestings_more : (xs : List Value) (i d : ℕ) (v : Value) → i < length xs → v ≡ get_or xs i v → nestings (vals_of (map val_of (take i xs))) ≤ d → nesting (val_of v) ≤ d
    → nestings (vals_of (map val_of (take (suc i) xs))) ≤ d
nestings_more [] i d v lt e so_far here = absurd (omega arith)
nestings_more (x ∷ xs) zero d v lt e so_far here = let same : nesting (val_of v) ≡ nesting (val_of x) = ap (λ (y : Value). nesting (val_of y)) e in omega arith
nestings_more (x ∷ xs) (suc i) d v lt e so_far here = omega (arith, nestings_more xs i d v (omega arith) e (omega arith) here)

pub nestings_step : (xs : List Value) (i d : ℕ) (v : Value) → i < length xs → v ≡ get_or xs i v → nestings (vals_of (map val_of (take i xs))) ≤ d → nesting (val_of v) ≤ d
    → nestings (vals_of (map val_of (take (i + 1) xs))) ≤ d
nestings_step xs i d v lt e so_far here = rw add-one (nestings_more xs i d v lt e so_far here)

pub key_member : (xs : List (Value × Value)) (i : ℕ) (p : Value × Value) → i < length xs → p ≡ get_or xs i p → nesting (val_of p.0) ≤ entry_nestings (entries_of (map pair_of xs))
key_member [] i p lt e = absurd (omega arith)
key_member (x ∷ xs) zero p lt e = let same : nesting (val_of p.0) ≡ nesting (val_of x.0) = ap (λ (y : Value × Value). nesting (val_of y.0)) e in omega arith
key_member (x ∷ xs) (suc i) p lt e = omega (arith, key_member xs i p (omega arith) e)

pub value_member : (xs : List (Value × Value)) (i : ℕ) (p : Value × Value) → i < length xs → p ≡ get_or xs i p → nesting (val_of p.1) ≤ entry_nestings (entries_of (map pair_of xs))
value_member [] i p lt e = absurd (omega arith)
value_member (x ∷ xs) zero p lt e = let same : nesting (val_of p.1) ≡ nesting (val_of x.1) = ap (λ (y : Value × Value). nesting (val_of y.1)) e in omega arith
value_member (x ∷ xs) (suc i) p lt e = omega (arith, value_member xs i p (omega arith) e)

entries_more : (xs : List (Value × Value)) (i d : ℕ) (p : Value × Value) → i < length xs → p ≡ get_or xs i p → entry_nestings (entries_of (map pair_of (take i xs))) ≤ d → nesting (val_of p.0) ≤ d → nesting (val_of p.1) ≤ d
    → entry_nestings (entries_of (map pair_of (take (suc i) xs))) ≤ d
entries_more [] i d p lt e so_far here there = absurd (omega arith)
entries_more (x ∷ xs) zero d p lt e so_far here there =
    let one : nesting (val_of p.0) ≡ nesting (val_of x.0) = ap (λ (y : Value × Value). nesting (val_of y.0)) e in
    let two : nesting (val_of p.1) ≡ nesting (val_of x.1) = ap (λ (y : Value × Value). nesting (val_of y.1)) e in
    omega arith
entries_more (x ∷ xs) (suc i) d p lt e so_far here there = omega (arith, entries_more xs i d p (omega arith) e (omega arith) here there)

pub entries_step : (xs : List (Value × Value)) (i d : ℕ) (p : Value × Value) → i < length xs → p ≡ get_or xs i p → entry_nestings (entries_of (map pair_of (take i xs))) ≤ d → nesting (val_of p.0) ≤ d → nesting (val_of p.1) ≤ d
    → entry_nestings (entries_of (map pair_of (take (i + 1) xs))) ≤ d
entries_step xs i d p lt e so_far here there = rw add-one (entries_more xs i d p lt e so_far here there)
