-- The first of the timers to one output, and to the outputs of a mask.
use Rattle.std.proofs.Common.{◌≡◌, ◌↔◌, ◌⊎◌, inl, inr, ℕ, ◌+◌, ◌<◌, ◌≤◌, ◌^◌, Bool, true, false, Option, Some, None, refl, sym, ◌∙◌, arith}
use Rattle.std.specs.Prelude.{◌==◌, ◌&&◌, ◌||◌, nat_lt, nat_le, IsTrue}
use Rattle.std.specs.Int.{bit_at}
use Rattle.std.specs.declared.ops.Bound.{Bound}
use Rattle.std.specs.declared.ops.Bound.TheVariants.{Unbounded}
use Rattle.std.specs.BTreeMap.Range.{IsFromStart, IsInRange, IsLeBy}
use Rattle.std.specs.BTreeSet.{contains, IsKeyInRange}
use Rattle.std.proofs.lemmas.Bool.{and_from, and_parts, cases_lt, cases_order, eq-eqb, eqb-true, false_from_ne_true, le-leb, le-ltb, leb-true, lt-ltb, ne_eqb}
use Rattle.std.proofs.lemmas.Bool.Decides.{nat_tests}
use Rattle.std.proofs.lemmas.Nat.Bits.{bit_at_above}
use Rattle.fwd_base.specs.declared.ids.OutputId.{OutputId}
use Rattle.fwd_retry.specs.declared.timer.Timer.{Timer}
use Rattle.fwd_retry.specs.Timer.{is_after, is_before, is_next}
use Rattle.fwd_table.specs.declared.due_index.DueIndex.{DueIndex}
use Rattle.fwd_table.specs.declared.due_index.DueKey.{DueKey}
use Rattle.fwd_table.specs.DueIndex.{by_output, key_of, timer_of_key, is_listed, IsFirstThat}

-- ---- one output

-- a key up to that of a timer, and not to a lower output
not_later : (k : DueKey) (z : Timer) → IsLeBy by_output k (key_of z) → z.output.0 ≤ k.output.0 → (k.output.0 ≡ z.output.0) × (k.due ≤ z.due)
not_later k z less output = (grind (arith, nat_tests), grind (arith, nat_tests))

not_before_key : (k : DueKey) (z : Timer) → IsLeBy by_output k (key_of z) → k.output.0 ≡ z.output.0 → is_before z (timer_of_key k) ≡ false
not_before_key k z less output = grind (arith, nat_tests)

module _ (index : DueIndex) (now : ℕ) (output : OutputId) (after : Option Timer) (start : Bound DueKey) (starts : (z : Timer) → z.output.0 ≡ output.0 → (IsFromStart by_output start (key_of z) ↔ IsTrue (is_after after z)))
    (lowest : (k : DueKey) → IsFromStart by_output start k → output.0 ≤ k.output.0) where
  abbrev passes : Timer → Bool
  passes z = is_listed index z && (is_next now after z && z.output.0 == output.0)

  record Passes (z : Timer) : Type 0 where
    pub listed : is_listed index z ≡ true
    pub due : z.due ≤ now
    pub starts_at : IsFromStart by_output start (key_of z)
    pub own : z.output.0 ≡ output.0

  parts : (z : Timer) → passes z ≡ true → Passes z
  parts z is =
      let all = and_parts (is_listed index z) (is_next now after z && z.output.0 == output.0) is in
      let due = and_parts (is_next now after z) (z.output.0 == output.0) all.1 in
      let next = and_parts (nat_le z.due now) (is_after after z) due.0 in
      let same = eqb-true z.output.0 output.0 due.1 in
      record { listed = all.0; due = leb-true z.due now next.0; starts_at = (starts z same).1 next.1; own = same }

  pub none_found : ((q : DueKey) → IsInRange by_output start Unbounded q → contains by_output index.keys q ≡ false) → IsFirstThat passes None
  none_found none z = false_from_ne_true (passes z) (λ is.
      let of : Passes z = parts z is in
      let is_not : true ≡ false = sym of.listed ∙ none (key_of z) (of.starts_at, tt) in
      absurd (cc is_not))

  module _ (k : DueKey) (here : IsKeyInRange by_output start Unbounded index.keys k) (least : (q : DueKey) → IsInRange by_output start Unbounded q → IsTrue (contains by_output index.keys q) → IsLeBy by_output k q) where
    less : (z : Timer) → Passes z → IsLeBy by_output k (key_of z)
    less z of = least (key_of z) (of.starts_at, tt) of.listed

    pub key_passes : k.output.0 ≡ output.0 → k.due ≤ now → IsFirstThat passes (Some (timer_of_key k))
    key_passes to due =
        let next : is_next now after (timer_of_key k) ≡ true = and_from (nat_le k.due now) (is_after after (timer_of_key k)) (le-leb k.due now due) ((starts (timer_of_key k) to).0 here.0.0) in (
          and_from (is_listed index (timer_of_key k)) (is_next now after (timer_of_key k) && k.output.0 == output.0) here.1 (and_from (is_next now after (timer_of_key k)) (k.output.0 == output.0) next (eq-eqb k.output.0 output.0 to)),
          λ z is. let of : Passes z = parts z is in not_before_key k z (less z of) (to ∙ sym of.own),
        )

    pub key_fails : (k.output.0 ≡ output.0 → now < k.due) → IsFirstThat passes None
    key_fails late z = false_from_ne_true (passes z) (λ is.
        let of : Passes z = parts z is in
        let above : output.0 ≤ k.output.0 = lowest k here.0.0 in
        let at = not_later k z (less z of) (omega (arith, above, of.own)) in
        let behind : now < k.due = late (at.0 ∙ of.own) in
        let due : z.due ≤ now = of.due in
        omega (arith, at.1, behind, due))

-- ---- one more output of a mask

both_tests : (l a b : Bool) → ((l && ((a && b) && true)) || (l && (a && false))) ≡ (l && ((a && b) && true))
both_tests false a b = refl
both_tests true false b = refl
both_tests true true true = refl
both_tests true true false = refl

own_test : (l a : Bool) → ((l && ((a && true) && false)) || (l && (a && true))) ≡ (l && ((a && true) && true))
own_test false a = refl
own_test true false = refl
own_test true true = refl

no_test : (l a b : Bool) → ((l && ((a && b) && false)) || (l && (a && false))) ≡ (l && ((a && b) && false))
no_test false a b = refl
no_test true false b = refl
no_test true true true = refl
no_test true true false = refl

pub output_set : (l a : Bool) (outputs o n : ℕ) → (bit_at outputs n == 1) ≡ true
    → ((l && ((a && bit_at outputs o == 1) && nat_lt o n)) || (l && (a && o == n))) ≡ (l && ((a && bit_at outputs o == 1) && nat_lt o (n + 1)))
output_set l a outputs o n set = by (cases_order o n)
  where
    by : (o ≡ n) ⊎ ((o < n) ⊎ (n < o)) → ((l && ((a && bit_at outputs o == 1) && nat_lt o n)) || (l && (a && o == n))) ≡ (l && ((a && bit_at outputs o == 1) && nat_lt o (n + 1)))
    by (inl same) = rw (same, set, le-ltb n n (omega arith), lt-ltb n (n + 1) (omega arith), eq-eqb n n refl) (own_test l a)
    by (inr (inl less)) = rw (lt-ltb o n less, lt-ltb o (n + 1) (omega (arith, less)), ne_eqb o n (λ same. omega (arith, less, same))) (both_tests l a (bit_at outputs o == 1))
    by (inr (inr more)) = rw (le-ltb o n (omega (arith, more)), le-ltb o (n + 1) (omega (arith, more)), ne_eqb o n (λ same. omega (arith, more, same))) (no_test l a (bit_at outputs o == 1))

pub output_clear : (l a : Bool) (outputs o n : ℕ) → (bit_at outputs n == 1) ≡ false → (l && ((a && bit_at outputs o == 1) && nat_lt o n)) ≡ (l && ((a && bit_at outputs o == 1) && nat_lt o (n + 1)))
output_clear l a outputs o n clear = by (cases_order o n)
  where
    none : (l a x y : Bool) → (l && ((a && false) && x)) ≡ (l && ((a && false) && y))
    none false a x y = refl
    none true false x y = refl
    none true true x y = refl

    by : (o ≡ n) ⊎ ((o < n) ⊎ (n < o)) → (l && ((a && bit_at outputs o == 1) && nat_lt o n)) ≡ (l && ((a && bit_at outputs o == 1) && nat_lt o (n + 1)))
    by (inl same) = rw (same, clear) (none l a (nat_lt n n) (nat_lt n (n + 1)))
    by (inr (inl less)) = rw (lt-ltb o n less, lt-ltb o (n + 1) (omega (arith, less))) refl
    by (inr (inr more)) = rw (le-ltb o n (omega (arith, more)), le-ltb o (n + 1) (omega (arith, more))) refl

-- no bit is set past the last output
pub all_outputs : (l a : Bool) (outputs o n : ℕ) → outputs < 2 ^ 64 → 64 ≤ n → (l && ((a && bit_at outputs o == 1) && nat_lt o n)) ≡ (l && (a && bit_at outputs o == 1))
all_outputs l a outputs o n fits far = by (cases_lt o n)
  where
    below : (l b : Bool) → (l && (b && true)) ≡ (l && b)
    below false b = refl
    below true true = refl
    below true false = refl

    past : (l a : Bool) → (l && ((a && false) && false)) ≡ (l && (a && false))
    past false a = refl
    past true true = refl
    past true false = refl

    by : (o < n) ⊎ (n ≤ o) → (l && ((a && bit_at outputs o == 1) && nat_lt o n)) ≡ (l && (a && bit_at outputs o == 1))
    by (inl less) = rw (lt-ltb o n less) (below l (a && bit_at outputs o == 1))
    by (inr more) = rw (le-ltb o n more, bit_at_above outputs 64 o fits (omega (arith, far, more))) (past l a)
