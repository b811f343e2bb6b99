-- The mask of the outputs that match a tag.
use Rattle.std.proofs.Common.{◌≡◌, ◌≢◌, ℕ, zero, suc, ◌+◌, ◌-◌, ◌*◌, ◌%◌, ◌^◌, ◌<◌, ◌≤◌, true, false, bit_or, w64, List, [], ◌∷◌, ◌++◌, append_assoc, get_or, map, length, refl, sym, ap, ◌∙◌, arith}
use Rattle.std.specs.Prelude.{◌==◌}
use Rattle.std.specs.Int.{bit_at}
use Rattle.std.proofs.lemmas.Bool.{ne_eqb}
use Rattle.std.proofs.lemmas.List.{append-nil}
use Rattle.std.proofs.lemmas.Nat.Bits.{bit_at-zero, bit_at_set_same, bit_at_set_other}
use Rattle.fwd_route.specs.GlobTest.{globs, matching_outputs}
use Rattle.fwd_settings.specs.declared.settings_types.OutputSet.{OutputSet}
use Rattle.fwd_model.specs.Notes.{is_empty}
use Rattle.fwd_table.specs.Route.{Route}
use Rattle.fwd_table.specs.Routes.{idle_at, routes_below, routes_to}
use Rattle.fwd_table.proofs.MaskRoutes.{routes_below-none, routes_below-more}
use Rattle.fwd_engine_settings.proofs.GlobMatch.{matching_behind, matching_yes, matching_no, matching_end}

abbrev pub route_of : ℕ → Route
route_of output = idle_at 0 (record { 0 = output })

-- the routes to the outputs that match the tag
abbrev pub routes_for : List OutputSet → List ℕ → List Route
routes_for outputs tag = map route_of (matching_outputs (map (λ (o : OutputSet). o.glob) outputs) tag)

-- The mask has those to the first n outputs, and no other bit. One that isn't 0 has some.
pub record MaskIsFor (n : ℕ) (outputs : List OutputSet) (tag : List ℕ) (mask : ℕ) : Type 0 where
  pub routes : routes_for outputs tag ≡ routes_below n mask ++ map route_of (matching_behind n outputs tag)
  pub clear : (k : ℕ) → n ≤ k → bit_at mask k ≡ 0
  pub some : mask ≢ 0 → routes_below n mask ≢ []

abbrev pub with_bit : ℕ → ℕ → ℕ
with_bit mask n = bit_or mask (1 * 2 ^ n % 2 ^ 64)

same_below : (n a b : ℕ) → ((k : ℕ) → k < n → bit_at a k ≡ bit_at b k) → routes_below n a ≡ routes_below n b
same_below zero a b same = routes_below-none a ∙ sym (routes_below-none b)
same_below (suc n) a b same =
    let next : suc n ≡ n + 1 = omega arith in
    let before : routes_below n a ≡ routes_below n b = same_below n a b (λ k less. same k (omega (arith, less))) in
    let here : bit_at a n ≡ bit_at b n = same n (omega arith) in
    rw next (rw (routes_below-more n a, routes_below-more n b, before, here) refl)

clear_above : (m n mask : ℕ) → ((k : ℕ) → n ≤ k → bit_at mask k ≡ 0) → routes_below (n + m) mask ≡ routes_below n mask
clear_above zero n mask clear = let same : n + 0 ≡ n = omega arith in rw same refl
clear_above (suc m) n mask clear =
    let next : n + suc m ≡ n + m + 1 = omega arith in
    let here : bit_at mask (n + m) ≡ 0 = clear (n + m) (omega arith) in
    rw next (rw (routes_below-more (n + m) mask, here) (append-nil (routes_below (n + m) mask) ∙ clear_above m n mask clear))

pub mask_none : (outputs : List OutputSet) (tag : List ℕ) → MaskIsFor 0 outputs tag 0
mask_none outputs tag = record {
  routes = rw (routes_below-none 0) refl;
  clear = λ k above. bit_at-zero k;
  some = λ differs. absurd (differs refl);
}

below_set : (n mask : ℕ) → n < 64 → routes_below (n + 1) (with_bit mask n) ≡ routes_below n mask ++ route_of n ∷ []
below_set n mask within =
    let set : bit_at (with_bit mask n) n ≡ 1 = bit_at_set_same w64 mask n within in
    let before : routes_below n (with_bit mask n) ≡ routes_below n mask = same_below n (with_bit mask n) mask (λ k less. bit_at_set_other w64 mask n within k (λ is. absurd (omega (arith, less, is)))) in
    routes_below-more n (with_bit mask n) ∙ rw (set, before) refl

below_clear : (n mask : ℕ) → bit_at mask n ≡ 0 → routes_below (n + 1) mask ≡ routes_below n mask
below_clear n mask none = routes_below-more n mask ∙ rw none (append-nil (routes_below n mask))

not_empty : (xs : List Route) (x : Route) → xs ++ x ∷ [] ≢ []
not_empty [] x is = cc is
not_empty (y ∷ ys) x is = cc is

pub mask_yes : (n : ℕ) (outputs : List OutputSet) (tag : List ℕ) (mask : ℕ) (output : OutputSet) → n < 64 → n < length outputs → output ≡ get_or outputs n output → globs output.glob tag ≡ true
    → MaskIsFor n outputs tag mask → MaskIsFor (n + 1) outputs tag (with_bit mask n)
mask_yes n outputs tag mask output within less is matches are = record {
  routes =
      let step : routes_below n mask ++ map route_of (matching_behind n outputs tag) ≡ routes_below n mask ++ route_of n ∷ map route_of (matching_behind (n + 1) outputs tag) =
      ap (λ (l : List ℕ). routes_below n mask ++ map route_of l) (matching_yes n outputs tag output less is matches)
      in
      are.routes ∙ step ∙ sym (append_assoc (routes_below n mask) (route_of n ∷ []) (map route_of (matching_behind (n + 1) outputs tag)))
      ∙ ap (λ (l : List Route). l ++ map route_of (matching_behind (n + 1) outputs tag)) (sym (below_set n mask within));
  clear = λ k above. bit_at_set_other w64 mask n within k (λ is. absurd (omega (arith, above, is))) ∙ are.clear k (omega (arith, above));
  some = λ differs none. not_empty (routes_below n mask) (route_of n) (sym (below_set n mask within) ∙ none);
}

pub mask_no : (n : ℕ) (outputs : List OutputSet) (tag : List ℕ) (mask : ℕ) (output : OutputSet) → n < length outputs → output ≡ get_or outputs n output → globs output.glob tag ≡ false
    → MaskIsFor n outputs tag mask → MaskIsFor (n + 1) outputs tag mask
mask_no n outputs tag mask output less is misses are = record {
  routes =
      are.routes ∙ ap (λ (l : List ℕ). routes_below n mask ++ map route_of l) (matching_no n outputs tag output less is misses)
      ∙ ap (λ (l : List Route). l ++ map route_of (matching_behind (n + 1) outputs tag)) (sym (below_clear n mask (are.clear n (omega arith))));
  clear = λ k above. are.clear k (omega (arith, above));
  some = λ differs none. are.some differs (sym (below_clear n mask (are.clear n (omega arith))) ∙ none);
}

pub mask_all : (n : ℕ) (outputs : List OutputSet) (tag : List ℕ) (mask : ℕ) → n ≤ 64 → length outputs ≤ n → MaskIsFor n outputs tag mask → routes_to mask ≡ routes_for outputs tag
mask_all n outputs tag mask within all are =
    let rest : n + (64 - n) ≡ 64 = omega (arith, within) in
    let whole : routes_below 64 mask ≡ routes_below n mask = rw (← rest) (clear_above (64 - n) n mask are.clear) in
    let none : routes_for outputs tag ≡ routes_below n mask ++ [] = are.routes ∙ ap (λ (l : List ℕ). routes_below n mask ++ map route_of l) (matching_end n outputs tag all) in
    whole ∙ sym (none ∙ append-nil (routes_below n mask))

none_below : (n : ℕ) → routes_below n 0 ≡ []
none_below zero = routes_below-none 0
none_below (suc n) =
    let next : suc n ≡ n + 1 = omega arith in
    rw next (rw (routes_below-more n 0, bit_at-zero n) (append-nil (routes_below n 0) ∙ none_below n))

-- the mask is 0 exactly if no output matches
pub mask_zero : (n : ℕ) (outputs : List OutputSet) (tag : List ℕ) (mask : ℕ) → n ≤ 64 → length outputs ≤ n → MaskIsFor n outputs tag mask
    → (mask == 0) ≡ is_empty (matching_outputs (map (λ (o : OutputSet). o.glob) outputs) tag)
mask_zero n outputs tag mask within all are =
    by mask (matching_outputs (map (λ (o : OutputSet). o.glob) outputs) tag) (ends ∙ append-nil (routes_below n mask)) are.some
  where
    ends : routes_for outputs tag ≡ routes_below n mask ++ []
    ends = are.routes ∙ ap (λ (l : List ℕ). routes_below n mask ++ map route_of l) (matching_end n outputs tag all)

    by : (mask : ℕ) (xs : List ℕ) → map route_of xs ≡ routes_below n mask → (mask ≢ 0 → routes_below n mask ≢ []) → (mask == 0) ≡ is_empty xs
    by zero [] is some = refl
    by zero (x ∷ xs) is some = absurd (cc (is ∙ none_below n))
    by (suc m) [] is some = absurd (some (λ e. absurd (omega (arith, e))) (sym is))
    by (suc m) (x ∷ xs) is some = ne_eqb (suc m) 0 (λ e. absurd (omega (arith, e)))
