-- Encoding values one after another, as a loop does.
use Rattle.std.proofs.Common.{◌≡◌, ℕ, zero, suc, ◌<◌, List, [], ◌∷◌, ◌++◌, map, length, take, get_or, Result, Ok, Err, OnOk, refl, sym, ap, ◌∙◌, append_assoc, arith}
use Rattle.std.proofs.lemmas.List.{append-nil}
use Rattle.fwd_value.specs.Val.{Val, vals_of, entries_of}
use Rattle.fwd_value.specs.View.{val_of, pair_of}
use Rattle.fwd_value.specs.Weight.{weight, weights, entry_weights}
use Rattle.fwd_value.specs.Limits.{value_count, entry_count, LengthsFit, AllLengthsFit, EntryLengthsFit, IsInRange, AreInRange, EntriesAreInRange}
use Rattle.fwd_value.specs.declared.value.Value.{Value}
use Rattle.fwd_msgpack.specs.Canonical.{canonical, canonical_all, canonical_entries}

pub how_many_is : (vs : List Val) → value_count (vals_of vs) ≡ length vs
how_many_is [] = refl
how_many_is (v ∷ vs) = ap suc (how_many_is vs)

pub how_many_entries_is : (es : List (Val × Val)) → entry_count (entries_of es) ≡ length es
how_many_entries_is [] = refl
how_many_entries_is (e ∷ es) = ap suc (how_many_entries_is es)

pub value_in : (vs : List Value) (i : ℕ) (v : Value) → i < length vs → v ≡ get_or vs i v → AllLengthsFit (vals_of (map val_of vs)) → LengthsFit (val_of v) × (weight (val_of v) < weights (vals_of (map val_of vs)))
value_in [] i v lt e h = absurd (omega arith)
value_in (x ∷ xs) zero v lt e h = rw e (h.0, omega arith)
value_in (x ∷ xs) (suc i) v lt e h = let k = value_in xs i v (omega arith) e h.1 in (k.0, omega (arith, k.1))

pub pair_in : (ps : List (Value × Value)) (i : ℕ) (p : Value × Value) → i < length ps → p ≡ get_or ps i p → EntryLengthsFit (entries_of (map pair_of ps))
    → LengthsFit (val_of p.0) × LengthsFit (val_of p.1) × (weight (val_of p.0) < entry_weights (entries_of (map pair_of ps))) × (weight (val_of p.1) < entry_weights (entries_of (map pair_of ps)))
pair_in [] i p lt e h = absurd (omega arith)
pair_in (x ∷ xs) zero p lt e h = rw e (h.0, h.1, omega arith, omega arith)
pair_in (x ∷ xs) (suc i) p lt e h = let k = pair_in xs i p (omega arith) e h.2 in (k.0, k.1, omega (arith, k.2), omega (arith, k.3))

pub values_more : (vs : List Value) (i : ℕ) (v : Value) → i < length vs → v ≡ get_or vs i v
    → canonical_all (vals_of (map val_of (take (suc i) vs))) ≡ canonical_all (vals_of (map val_of (take i vs))) ++ canonical (val_of v)
values_more [] i v lt e = absurd (omega arith)
values_more (x ∷ xs) zero v lt e = rw e (append-nil (canonical (val_of x)))
values_more (x ∷ xs) (suc i) v lt e =
    ap (λ (t : List ℕ). canonical (val_of x) ++ t) (values_more xs i v (omega arith) e) ∙ sym (append_assoc (canonical (val_of x)) (canonical_all (vals_of (map val_of (take i xs)))) (canonical (val_of v)))

pub pairs_more : (ps : List (Value × Value)) (i : ℕ) (p : Value × Value) → i < length ps → p ≡ get_or ps i p
    → canonical_entries (entries_of (map pair_of (take (suc i) ps))) ≡ canonical_entries (entries_of (map pair_of (take i ps))) ++ (canonical (val_of p.0) ++ canonical (val_of p.1))
pairs_more [] i p lt e = absurd (omega arith)
pairs_more (x ∷ xs) zero p lt e = rw e (ap (λ (t : List ℕ). canonical (val_of x.0) ++ t) (append-nil (canonical (val_of x.1))))
pairs_more (x ∷ xs) (suc i) p lt e =
    let k = canonical (val_of x.0) in
    let v = canonical (val_of x.1) in
    let more = canonical_entries (entries_of (map pair_of (take i xs))) in
    let last = canonical (val_of p.0) ++ canonical (val_of p.1) in
    let one : k ++ (v ++ canonical_entries (entries_of (map pair_of (take (suc i) xs)))) ≡ k ++ (v ++ (more ++ last)) = ap (λ (t : List ℕ). k ++ (v ++ t)) (pairs_more xs i p (omega arith) e) in
    one ∙ ap (λ (t : List ℕ). k ++ t) (sym (append_assoc v more last)) ∙ sym (append_assoc k (v ++ more) last)

pub on_ok : {A E : Type 0} (r : Result A E) (P Q : Type 0) → (P → Q) → OnOk r P → OnOk r Q
on_ok (Ok x) P Q f h = f h
on_ok (Err e) P Q f h = tt

pub values_in_range : (vs : List Value) (i : ℕ) (v : Value) → i < length vs → v ≡ get_or vs i v
    → AreInRange (vals_of (map val_of (take i vs))) → IsInRange (val_of v) → AreInRange (vals_of (map val_of (take (suc i) vs)))
values_in_range [] i v lt e so_far here = absurd (omega arith)
values_in_range (x ∷ xs) zero v lt e so_far here = rw (← e) (here, tt)
values_in_range (x ∷ xs) (suc i) v lt e so_far here = (so_far.0, values_in_range xs i v (omega arith) e so_far.1 here)

pub pairs_in_range : (ps : List (Value × Value)) (i : ℕ) (p : Value × Value) → i < length ps → p ≡ get_or ps i p
    → EntriesAreInRange (entries_of (map pair_of (take i ps))) → IsInRange (val_of p.0) → IsInRange (val_of p.1) → EntriesAreInRange (entries_of (map pair_of (take (suc i) ps)))
pairs_in_range [] i p lt e so_far here there = absurd (omega arith)
pairs_in_range (x ∷ xs) zero p lt e so_far here there = rw (← e) (here, there, tt)
pairs_in_range (x ∷ xs) (suc i) p lt e so_far here there = (so_far.0, so_far.1, pairs_in_range xs i p (omega arith) e so_far.2 here there)

-- ---- the test of lengths, as a loop does it

pub value_weighs_less : (vs : List Value) (i : ℕ) (v : Value) → i < length vs → v ≡ get_or vs i v → weight (val_of v) < weights (vals_of (map val_of vs))
value_weighs_less [] i v lt e = absurd (omega arith)
value_weighs_less (x ∷ xs) zero v lt e = rw e (omega arith)
value_weighs_less (x ∷ xs) (suc i) v lt e = omega (arith, value_weighs_less xs i v (omega arith) e)

pub pair_weighs_less : (ps : List (Value × Value)) (i : ℕ) (p : Value × Value) → i < length ps → p ≡ get_or ps i p
    → (weight (val_of p.0) < entry_weights (entries_of (map pair_of ps))) × (weight (val_of p.1) < entry_weights (entries_of (map pair_of ps)))
pair_weighs_less [] i p lt e = absurd (omega arith)
pair_weighs_less (x ∷ xs) zero p lt e = rw e (omega arith, omega arith)
pair_weighs_less (x ∷ xs) (suc i) p lt e = let k = pair_weighs_less xs i p (omega arith) e in (omega (arith, k.0), omega (arith, k.1))

pub values_lengths_more : (vs : List Value) (i : ℕ) (v : Value) → i < length vs → v ≡ get_or vs i v
    → AllLengthsFit (vals_of (map val_of (take i vs))) → LengthsFit (val_of v) → AllLengthsFit (vals_of (map val_of (take (suc i) vs)))
values_lengths_more [] i v lt e so_far here = absurd (omega arith)
values_lengths_more (x ∷ xs) zero v lt e so_far here = rw (← e) (here, tt)
values_lengths_more (x ∷ xs) (suc i) v lt e so_far here = (so_far.0, values_lengths_more xs i v (omega arith) e so_far.1 here)

pub pairs_lengths_more : (ps : List (Value × Value)) (i : ℕ) (p : Value × Value) → i < length ps → p ≡ get_or ps i p
    → EntryLengthsFit (entries_of (map pair_of (take i ps))) → LengthsFit (val_of p.0) → LengthsFit (val_of p.1) → EntryLengthsFit (entries_of (map pair_of (take (suc i) ps)))
pairs_lengths_more [] i p lt e so_far here there = absurd (omega arith)
pairs_lengths_more (x ∷ xs) zero p lt e so_far here there = rw (← e) (here, there, tt)
pairs_lengths_more (x ∷ xs) (suc i) p lt e so_far here there = (so_far.0, so_far.1, pairs_lengths_more xs i p (omega arith) e so_far.2 here there)
