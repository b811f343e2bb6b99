-- The mask of the outputs that are left of a mask.
use Rattle.std.proofs.Common.{◌≡◌, ◌≢◌, ℕ, zero, suc, ◌+◌, ◌*◌, ◌%◌, ◌^◌, ◌<◌, ◌≤◌, Bool, true, false, ◌&&◌, inl, inr, bit_or, w64, List, [], ◌∷◌, ◌++◌, map, filter, refl, sym, ap, ◌∙◌, arith}
use Rattle.std.specs.Prelude.{◌==◌}
use Rattle.std.specs.Int.{bit_at}
use Rattle.std.proofs.lemmas.Bool.{cases_Bool}
use Rattle.std.proofs.lemmas.List.{append-nil}
use Rattle.std.proofs.lemmas.List.Elements.{filter-append}
use Rattle.std.proofs.lemmas.Nat.Bits.{bit_at-zero, bit_at_set_same, bit_at_set_other}
use Rattle.fwd_table.specs.Route.{Route}
use Rattle.fwd_table.specs.Routes.{idle_at, routes_below, routes_to}
use Rattle.fwd_table.proofs.MaskRoutes.{routes_below-none, routes_below-more}

abbrev pub route_of : ℕ → Route
route_of output = idle_at 0 (record { 0 = output })

abbrev pub with_bit : ℕ → ℕ → ℕ
with_bit mask n = bit_or mask (1 * 2 ^ n % 2 ^ 64)

-- the routes whose outputs pass a test
abbrev pub of_these : (ℕ → Bool) → List Route → List Route
of_these p routes = filter (λ (r : Route). p r.output.0) routes

-- among the first n outputs the new mask has those of the old one that pass the test, and no other bit
pub record Left (p : ℕ → Bool) (owed n mask : ℕ) : Type 0 where
  pub routes : routes_below n mask ≡ of_these p (routes_below n owed)
  pub clear : (k : ℕ) → n ≤ k → bit_at mask k ≡ 0
  pub some : mask ≢ 0 → routes_below n mask ≢ []

same_below : (n a b : ℕ) → ((k : ℕ) → k < n → bit_at a k ≡ bit_at b k) → routes_below n a ≡ routes_below n b
same_below zero a b same = routes_below-none a ∙ sym (routes_below-none b)
same_below (suc n) a b same =
    let next : suc n ≡ n + 1 = omega arith in
    let before : routes_below n a ≡ routes_below n b = same_below n a b (λ k less. same k (omega (arith, less))) in
    let here : bit_at a n ≡ bit_at b n = same n (omega arith) in
    rw next (rw (routes_below-more n a, routes_below-more n b, before, here) refl)

none_below : (n : ℕ) → routes_below n 0 ≡ []
none_below zero = routes_below-none 0
none_below (suc n) =
    let next : suc n ≡ n + 1 = omega arith in
    rw next (rw (routes_below-more n 0, bit_at-zero n) (append-nil (routes_below n 0) ∙ none_below n))

pub left_none : (p : ℕ → Bool) (owed : ℕ) → Left p owed 0 0
left_none p owed = record {
  routes = rw (routes_below-none 0, routes_below-none owed) refl;
  clear = λ k above. bit_at-zero k;
  some = λ differs. absurd (differs refl);
}

below_set : (n mask : ℕ) → n < 64 → routes_below (n + 1) (with_bit mask n) ≡ routes_below n mask ++ route_of n ∷ []
below_set n mask within =
    let set : bit_at (with_bit mask n) n ≡ 1 = bit_at_set_same w64 mask n within in
    let before : routes_below n (with_bit mask n) ≡ routes_below n mask = same_below n (with_bit mask n) mask (λ k less. bit_at_set_other w64 mask n within k (λ is. absurd (omega (arith, less, is)))) in
    routes_below-more n (with_bit mask n) ∙ rw (set, before) refl

below_clear : (n mask : ℕ) → bit_at mask n ≡ 0 → routes_below (n + 1) mask ≡ routes_below n mask
below_clear n mask none = routes_below-more n mask ∙ rw none (append-nil (routes_below n mask))

not_empty : (xs : List Route) (x : Route) → xs ++ x ∷ [] ≢ []
not_empty [] x is = cc is
not_empty (y ∷ ys) x is = cc is

these_more : (p : ℕ → Bool) (owed n : ℕ) → (bit_at owed n == 1) ≡ true → p n ≡ true → of_these p (routes_below (n + 1) owed) ≡ of_these p (routes_below n owed) ++ route_of n ∷ []
these_more p owed n set holds =
    let one : of_these p (route_of n ∷ []) ≡ route_of n ∷ [] = rw holds refl in
    rw (routes_below-more n owed, set) (filter-append (λ (r : Route). p r.output.0) (routes_below n owed) (route_of n ∷ []) ∙ ap (λ (l : List Route). of_these p (routes_below n owed) ++ l) one)

these_same : (p : ℕ → Bool) (owed n : ℕ) → ((bit_at owed n == 1) && p n) ≡ false → of_these p (routes_below (n + 1) owed) ≡ of_these p (routes_below n owed)
these_same p owed n isnt = elim (cases_Bool (bit_at owed n == 1)) [
  | inl set ↦
      let fails : p n ≡ false = rw set at isnt in
      let one : of_these p (route_of n ∷ []) ≡ [] = rw fails refl in
      rw (routes_below-more n owed, set)
      (filter-append (λ (r : Route). p r.output.0) (routes_below n owed) (route_of n ∷ []) ∙ ap (λ (l : List Route). of_these p (routes_below n owed) ++ l) one ∙ append-nil (of_these p (routes_below n owed)))
  | inr clear ↦ rw (routes_below-more n owed, clear) (ap (of_these p) (append-nil (routes_below n owed)))
]

pub left_yes : (p : ℕ → Bool) (owed n mask : ℕ) → n < 64 → ((bit_at owed n == 1) && p n) ≡ true → Left p owed n mask → Left p owed (n + 1) (with_bit mask n)
left_yes p owed n mask within is left = record {
  routes = below_set n mask within ∙ ap (λ (l : List Route). l ++ route_of n ∷ []) left.routes ∙ sym (these_more p owed n (both (bit_at owed n == 1) (p n) is).0 (both (bit_at owed n == 1) (p n) is).1);
  clear = λ k above. bit_at_set_other w64 mask n within k (λ same. absurd (omega (arith, above, same))) ∙ left.clear k (omega (arith, above));
  some = λ differs none. not_empty (routes_below n mask) (route_of n) (sym (below_set n mask within) ∙ none);
}
  where
    both : (a b : Bool) → (a && b) ≡ true → (a ≡ true) × (b ≡ true)
    both true b e = (refl, e)
    both false b e = absurd (cc e)

pub left_no : (p : ℕ → Bool) (owed n mask : ℕ) → ((bit_at owed n == 1) && p n) ≡ false → Left p owed n mask → Left p owed (n + 1) mask
left_no p owed n mask isnt left = record {
  routes = below_clear n mask (left.clear n (omega arith)) ∙ left.routes ∙ sym (these_same p owed n isnt);
  clear = λ k above. left.clear k (omega (arith, above));
  some = λ differs none. left.some differs (sym (below_clear n mask (left.clear n (omega arith))) ∙ none);
}

filter_routes : (p : ℕ → Bool) (outputs : List ℕ) → of_these p (map route_of outputs) ≡ map route_of (filter p outputs)
filter_routes p [] = refl
filter_routes p (o ∷ os) = elim (cases_Bool (p o)) [
  | inl holds ↦ rw holds (ap (λ (l : List Route). route_of o ∷ l) (filter_routes p os))
  | inr fails ↦ rw fails (filter_routes p os)
]

no_routes : (outputs : List ℕ) → map route_of outputs ≡ [] → outputs ≡ []
no_routes [] is = refl
no_routes (o ∷ os) is = absurd (cc is)

pub left_all : (p : ℕ → Bool) (owed mask : ℕ) (outputs : List ℕ) → routes_to owed ≡ map route_of outputs → Left p owed 64 mask → routes_to mask ≡ map route_of (filter p outputs)
left_all p owed mask outputs is left = left.routes ∙ ap (of_these p) is ∙ filter_routes p outputs

pub nothing_left : (p : ℕ → Bool) (owed mask : ℕ) (outputs : List ℕ) → routes_to owed ≡ map route_of outputs → Left p owed 64 mask → mask ≡ 0 → filter p outputs ≡ []
nothing_left p owed mask outputs is left none =
    no_routes (filter p outputs) (sym (left_all p owed mask outputs is left) ∙ ap (routes_below 64) none ∙ none_below 64)

pub something_left : (p : ℕ → Bool) (owed mask : ℕ) (outputs : List ℕ) → routes_to owed ≡ map route_of outputs → Left p owed 64 mask → mask ≢ 0 → filter p outputs ≢ []
something_left p owed mask outputs is left some none =
    left.some some (left_all p owed mask outputs is left ∙ ap (map route_of) none)
