-- Writing texts one after another, as a loop does.
use Rattle.std.proofs.Common.{◌≡◌, ◌==◌, ℕ, zero, suc, ◌+◌, ◌-◌, ◌<◌, ◌≤◌, List, [], ◌∷◌, ◌++◌, map, length, take, drop, get_or, refl, sym, ap, ◌∙◌, append_assoc, add-one, add-zero, arith, true, ne_eqb, le-ltb}
use Rattle.std.proofs.lemmas.Bool.{or_parts, not-true, ltb-false}
use Rattle.json.specs.Run.{is_stop, is_plain}
use Rattle.json.specs.Written.{PlainBetween}
use Rattle.std.proofs.lemmas.List.{append-nil, take-append-drop, take_all, take_more}
use Rattle.fwd_value.specs.Val.{vals_of, entries_of}
use Rattle.fwd_value.specs.View.{val_of, pair_of}
use Rattle.fwd_value.specs.Weight.{weight, weights, entry_weights}
use Rattle.fwd_value.specs.declared.value.Value.{Value}
use Rattle.fwd_json.specs.declared.floats.Floats.{Floats}
use Rattle.fwd_json.specs.Text.{escaped, escapes, json, more_values, more_pairs, pair_text}

escapes_suc : (bytes : List ℕ) (i : ℕ) → i < length bytes → escapes (take (suc i) bytes) ≡ escapes (take i bytes) ++ escaped (get_or bytes i 0)
escapes_suc [] i lt = absurd (omega arith)
escapes_suc (c ∷ bytes) zero lt = append-nil (escaped c)
escapes_suc (c ∷ bytes) (suc i) lt = ap (λ (t : List ℕ). escaped c ++ t) (escapes_suc bytes i (omega arith)) ∙ sym (append_assoc (escaped c) (escapes (take i bytes)) (escaped (get_or bytes i 0)))

pub escapes_more : (bytes : List ℕ) (i : ℕ) → i < length bytes → escapes (take (i + 1) bytes) ≡ escapes (take i bytes) ++ escaped (get_or bytes i 0)
escapes_more bytes i lt = rw add-one (escapes_suc bytes i lt)

-- one more byte after bytes that need no escape
pub plain_more : (bytes : List ℕ) (i : ℕ) → i < length bytes → escapes (take i bytes) ≡ take i bytes → escaped (get_or bytes i 0) ≡ get_or bytes i 0 ∷ []
    → escapes (take (i + 1) bytes) ≡ take (i + 1) bytes
plain_more bytes i lt so_far plain =
    escapes_more bytes i lt ∙ ap (λ (t : List ℕ). t ++ escaped (get_or bytes i 0)) so_far ∙ ap (λ (t : List ℕ). take i bytes ++ t) plain ∙ sym (take_more bytes i 0 lt)

-- a byte that is no quote, no backslash and no control character
escaped_plain : (c : ℕ) → is_plain c ≡ true → escaped c ≡ c ∷ []
unfolding escaped
escaped_plain c plain =
    let parts = or_parts _ _ (not-true (is_stop c) plain) in
    let marks = or_parts (c == 34) _ parts.0 in
    let above : 32 ≤ c = ltb-false c 32 parts.1 in
    rw (
      marks.0,
      marks.1,
      ne_eqb c 8 (λ e. omega arith),
      ne_eqb c 9 (λ e. omega arith),
      ne_eqb c 10 (λ e. omega arith),
      ne_eqb c 12 (λ e. omega arith),
      ne_eqb c 13 (λ e. omega arith),
      le-ltb c 32 above,
    )

-- n more such bytes after bytes that need no escape
pub plain_wide : (bytes : List ℕ) (i n : ℕ) → i + n ≤ length bytes → escapes (take i bytes) ≡ take i bytes → PlainBetween bytes i (i + n)
    → escapes (take (i + n) bytes) ≡ take (i + n) bytes
plain_wide bytes i zero room so_far plain = rw add-zero so_far
plain_wide bytes i (suc n) room so_far plain =
    let next : i + suc n ≡ (i + n) + 1 = omega arith in
    rw next (plain_more bytes (i + n) (omega arith) (plain_wide bytes i n (omega arith) so_far (λ k p q. plain k p (omega arith))) (escaped_plain (get_or bytes (i + n) 0) (plain (i + n) (omega arith) (omega arith))))

escapes-append : (a b : List ℕ) → escapes (a ++ b) ≡ escapes a ++ escapes b
escapes-append [] b = refl
escapes-append (c ∷ a) b = ap (λ (t : List ℕ). escaped c ++ t) (escapes-append a b) ∙ sym (append_assoc (escaped c) (escapes a) (escapes b))

-- a run of bytes that need no escape, and the bytes after it
pub escapes_run : (bytes : List ℕ) (n : ℕ) → escapes (take n bytes) ≡ take n bytes → escapes bytes ≡ take n bytes ++ escapes (drop n bytes)
escapes_run bytes n plain =
    ap escapes (sym (take-append-drop n bytes)) ∙ escapes-append (take n bytes) (drop n bytes) ∙ ap (λ (t : List ℕ). t ++ escapes (drop n bytes)) plain

-- a run, and the byte after it
pub run_extends : (before all out run_out new rest behind : List ℕ) (n : ℕ) → out ++ escapes rest ≡ before ++ escapes all → escapes (take n rest) ≡ take n rest → run_out ≡ out ++ take n rest
    → behind ≡ drop n rest → 1 ≤ length behind → new ≡ run_out ++ escaped (get_or behind 0 0) → new ++ escapes (take (length behind - 1) (drop 1 behind)) ≡ before ++ escapes all
run_extends before all out run_out new rest [] n so_far plain ran is some put = absurd (omega (arith, some))
run_extends before all out run_out new rest (c ∷ more) n so_far plain ran is some put =
    ap (λ (t : List ℕ). new ++ escapes t) (take_all (length (c ∷ more) - 1) more (omega arith)) ∙ ap (λ (t : List ℕ). t ++ escapes more) put ∙ append_assoc run_out (escaped c) (escapes more)
    ∙ ap (λ (t : List ℕ). t ++ escapes (c ∷ more)) ran ∙ append_assoc out (take n rest) (escapes (c ∷ more)) ∙ ap (λ (t : List ℕ). out ++ (take n rest ++ escapes t)) is
    ∙ ap (λ (t : List ℕ). out ++ t) (sym (escapes_run rest n plain)) ∙ so_far

values_suc : (floats : Floats) (vs : List Value) (i : ℕ) (v : Value) → i < length vs → v ≡ get_or vs i v
    → more_values floats (vals_of (map val_of (take (suc i) vs))) ≡ more_values floats (vals_of (map val_of (take i vs))) ++ 44 ∷ json floats (val_of v)
values_suc floats [] i v lt e = absurd (omega arith)
values_suc floats (x ∷ xs) zero v lt e = rw e (append-nil (44 ∷ json floats (val_of x)))
values_suc floats (x ∷ xs) (suc i) v lt e =
    ap (λ (t : List ℕ). (44 ∷ json floats (val_of x)) ++ t) (values_suc floats xs i v (omega arith) e) ∙ sym (append_assoc (44 ∷ json floats (val_of x)) (more_values floats (vals_of (map val_of (take i xs)))) (44 ∷ json floats (val_of v)))

pub values_more : (floats : Floats) (vs : List Value) (i : ℕ) (v : Value) → i < length vs → v ≡ get_or vs i v
    → more_values floats (vals_of (map val_of (take (i + 1) vs))) ≡ more_values floats (vals_of (map val_of (take i vs))) ++ 44 ∷ json floats (val_of v)
values_more floats vs i v lt e = rw add-one (values_suc floats vs i v lt e)

pairs_suc : (floats : Floats) (ps : List (Value × Value)) (i : ℕ) (p : Value × Value) → i < length ps → p ≡ get_or ps i p
    → more_pairs floats (entries_of (map pair_of (take (suc i) ps))) ≡ more_pairs floats (entries_of (map pair_of (take i ps))) ++ 44 ∷ pair_text floats (pair_of p)
pairs_suc floats [] i p lt e = absurd (omega arith)
pairs_suc floats (x ∷ xs) zero p lt e = rw e (append-nil (44 ∷ pair_text floats (pair_of x)))
pairs_suc floats (x ∷ xs) (suc i) p lt e =
    ap (λ (t : List ℕ). (44 ∷ pair_text floats (pair_of x)) ++ t) (pairs_suc floats xs i p (omega arith) e) ∙ sym (append_assoc (44 ∷ pair_text floats (pair_of x)) (more_pairs floats (entries_of (map pair_of (take i xs)))) (44 ∷ pair_text floats (pair_of p)))

pub pairs_more : (floats : Floats) (ps : List (Value × Value)) (i : ℕ) (p : Value × Value) → i < length ps → p ≡ get_or ps i p
    → more_pairs floats (entries_of (map pair_of (take (i + 1) ps))) ≡ more_pairs floats (entries_of (map pair_of (take i ps))) ++ 44 ∷ pair_text floats (pair_of p)
pairs_more floats ps i p lt e = rw add-one (pairs_suc floats ps i p lt e)

pub value_weighs_less : (vs : List Value) (i : ℕ) (v : Value) → i < length vs → v ≡ get_or vs i v → weight (val_of v) < weights (vals_of (map val_of vs))
value_weighs_less [] i v lt e = absurd (omega arith)
value_weighs_less (x ∷ xs) zero v lt e = rw e (omega arith)
value_weighs_less (x ∷ xs) (suc i) v lt e = omega (arith, value_weighs_less xs i v (omega arith) e)

pub pair_weighs_less : (ps : List (Value × Value)) (i : ℕ) (p : Value × Value) → i < length ps → p ≡ get_or ps i p
    → (weight (val_of p.0) + weight (val_of p.1)) < entry_weights (entries_of (map pair_of ps))
pair_weighs_less [] i p lt e = absurd (omega arith)
pair_weighs_less (x ∷ xs) zero p lt e = rw e (omega arith)
pair_weighs_less (x ∷ xs) (suc i) p lt e = omega (arith, pair_weighs_less xs i p (omega arith) e)
