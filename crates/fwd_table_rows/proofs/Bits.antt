-- The bits of a mask of routes.
use Rattle.std.proofs.Common.{◌≡◌, ◌⊎◌, inl, inr, ◌↔◌, ℕ, zero, suc, ◌+◌, ◌-◌, ◌*◌, ◌<◌, ◌≤◌, Bool, true, false, ◌&&◌, ◌||◌, cond, eqb, ltb, List, [], ◌∷◌, refl, sym, ◌∙◌, ap, subst, arith}
use Rattle.std.specs.Prelude.{Any, IsBitSet}
use Rattle.std.specs.List.{list_any}
use Rattle.std.specs.Int.{bit_at}
use Rattle.std.proofs.lemmas.Nat.{bit_set_by_shift, pow-add, pow_below}
use Rattle.std.proofs.lemmas.Nat.Bits.{shr_and_one, bit_at-zero, bit_at_cat_low, bit_at_cat_high, bit_at-pow_same, bit_at-pow_other, bit_at_above}
use Rattle.std.proofs.lemmas.Bool.{cases_eq, cases_lt, cases_order, eq-eqb, ne_eqb, eqb-true, lt-ltb, le-ltb, and_parts, and_from}
use Rattle.std.proofs.lemmas.List.Folds.{Any-from_list_any, list_any-from_Any, list_any-append}
use Prim.Native.Nat.{◌^◌}
use Rattle.fwd_table_rows.specs.declared.route.Route.{Route}
use Rattle.fwd_table_rows.specs.Routes.{RiseFrom, idle_at, routes_below, mask_of, IsMaskOf}
use Rattle.fwd_table_rows.proofs.Masks.{mask-cons}
use Rattle.fwd_table_rows.proofs.MaskRoutes.{routes_below-none, routes_below-more}

one_if : Bool → ℕ
one_if b = cond b 1 0

-- whether one of the routes is to this output
abbrev pub goes_to : ℕ → List Route → Bool
goes_to k rs = list_any (λ (r : Route). eqb r.output.0 k) rs

-- ---- the bits of a sum of different powers

multiple_step : (n o q mask : ℕ) → n ≤ o → mask ≡ q * 2 ^ (o + 1) → 2 ^ o + mask ≡ ((1 + q * 2) * 2 ^ (o - n)) * 2 ^ n
multiple_step n o q mask within is =
    let split : 2 ^ (o - n + n) ≡ 2 ^ (o - n) * 2 ^ n = pow-add 2 (o - n) n in
    let same : o - n + n ≡ o = omega (arith, within) in
    let whole : 2 ^ o ≡ 2 ^ (o - n) * 2 ^ n = subst (λ (m : ℕ). 2 ^ m ≡ 2 ^ (o - n) * 2 ^ n) same split in
    let twice : 2 ^ (o + 1) ≡ 2 ^ o * 2 = pow-add 2 o 1 in
    by (2 ^ o) (2 ^ (o - n)) (2 ^ n) (2 ^ (o + 1)) whole twice is
  where
    by : (whole high low double : ℕ) → whole ≡ high * low → double ≡ whole * 2 → mask ≡ q * double → whole + mask ≡ ((1 + q * 2) * high) * low
    by whole high low double first second third = rw (third, second, first) (grind arith)

multiple : (n : ℕ) (rs : List Route) → RiseFrom n rs → (q : ℕ) × (mask_of rs ≡ q * 2 ^ n)
multiple n [] rise = (0, omega arith)
multiple n (r ∷ rs) rise =
    let rest = multiple (r.output.0 + 1) rs rise.2 in
    ((1 + rest.0 * 2) * 2 ^ (r.output.0 - n), mask-cons r rs ∙ multiple_step n r.output.0 rest.0 (mask_of rs) rise.0 rest.1)

bit_cons : (o q k : ℕ) (rest : Bool) → bit_at (q * 2 ^ (o + 1)) k ≡ one_if rest → bit_at (q * 2 ^ (o + 1) + 2 ^ o) k ≡ one_if (eqb o k || rest)
unfolding one_if
bit_cons o q k rest is = by (cases_lt k (o + 1)) (cases_eq k o)
  where
    less : 2 ^ o < 2 ^ (o + 1)
    less = pow_below o (o + 1) (omega arith)

    low : (k < o + 1) → bit_at (q * 2 ^ (o + 1) + 2 ^ o) k ≡ bit_at (2 ^ o) k
    low within = bit_at_cat_low q (o + 1) (2 ^ o) k within

    none : (k < o + 1) → bit_at (q * 2 ^ (o + 1)) k ≡ 0
    none within =
        let cut : bit_at (q * 2 ^ (o + 1) + 0) k ≡ bit_at 0 k = bit_at_cat_low q (o + 1) 0 k within in
        let same : q * 2 ^ (o + 1) + 0 ≡ q * 2 ^ (o + 1) = omega arith in
        subst (λ (m : ℕ). bit_at m k ≡ 0) same (cut ∙ bit_at-zero k)

    high : (o + 1 ≤ k) → bit_at (q * 2 ^ (o + 1) + 2 ^ o) k ≡ bit_at (q * 2 ^ (o + 1)) k
    high above =
        let cut : bit_at (q * 2 ^ (o + 1) + 2 ^ o) k ≡ bit_at q (k - (o + 1)) = bit_at_cat_high q (o + 1) (2 ^ o) k less above in
        let bare : bit_at (q * 2 ^ (o + 1) + 0) k ≡ bit_at q (k - (o + 1)) = bit_at_cat_high q (o + 1) 0 k (omega (arith, less)) above in
        let same : q * 2 ^ (o + 1) + 0 ≡ q * 2 ^ (o + 1) = omega arith in
        cut ∙ sym (subst (λ (m : ℕ). bit_at m k ≡ bit_at q (k - (o + 1))) same bare)

    by : (k < o + 1) ⊎ (o + 1 ≤ k) → (k ≡ o) ⊎ (k ≡ o → ⊥) → bit_at (q * 2 ^ (o + 1) + 2 ^ o) k ≡ one_if (eqb o k || rest)
    by (inl within) (inl same) =
        let set : bit_at (2 ^ o) k ≡ 1 = subst (λ (j : ℕ). bit_at (2 ^ o) j ≡ 1) (sym same) (bit_at-pow_same o) in
        rw (eq-eqb o k (sym same)) (low within ∙ set)
    by (inl within) (inr apart) = rw (ne_eqb o k (λ e. apart (sym e))) (low within ∙ bit_at-pow_other o k apart ∙ sym (none within) ∙ is)
    by (inr above) (inl same) = absurd (omega (arith, above, same))
    by (inr above) (inr apart) = rw (ne_eqb o k (λ e. apart (sym e))) (high above ∙ is)

bit_mask : (n : ℕ) (rs : List Route) (k : ℕ) → RiseFrom n rs → bit_at (mask_of rs) k ≡ one_if (goes_to k rs)
unfolding one_if
bit_mask n [] k rise = bit_at-zero k
bit_mask n (r ∷ rs) k rise =
    let o : ℕ = r.output.0 in
    let rest = multiple (r.output.0 + 1) rs rise.2 in
    let sum : mask_of (r ∷ rs) ≡ rest.0 * 2 ^ (r.output.0 + 1) + 2 ^ r.output.0 = omega (arith, mask-cons r rs, rest.1) in
    let behind : bit_at (rest.0 * 2 ^ (r.output.0 + 1)) k ≡ one_if (goes_to k rs) = subst (λ (m : ℕ). bit_at m k ≡ one_if (goes_to k rs)) rest.1 (bit_mask (r.output.0 + 1) rs k rise.2) in
    subst (λ (m : ℕ). bit_at m k ≡ one_if (eqb r.output.0 k || goes_to k rs)) (sym sum) (bit_cons r.output.0 rest.0 k (goes_to k rs) behind)

-- ---- set bits

from_bit : (mask i : ℕ) → IsBitSet mask i → bit_at mask i ≡ 1
from_bit mask i set = sym (shr_and_one mask i) ∙ (bit_set_by_shift mask i).1 set

to_bit : (mask i : ℕ) → bit_at mask i ≡ 1 → IsBitSet mask i
to_bit mask i is = (bit_set_by_shift mask i).0 (shr_and_one mask i ∙ is)

any_to : (k : ℕ) (rs : List Route) → goes_to k rs ≡ true ↔ Any (λ (r : Route). r.output.0 ≡ k) rs
any_to k rs = (
  λ is. let any = Any-from_list_any (λ (r : Route). eqb r.output.0 k) rs is in (any.0, any.1, any.2, any.3, eqb-true any.1.output.0 k any.4),
  λ any. list_any-from_Any (λ (r : Route). eqb r.output.0 k) rs (any.0, any.1, any.2, any.3, eq-eqb any.1.output.0 k any.4),
)

one_from : (b : Bool) → one_if b ≡ 1 → b ≡ true
unfolding one_if
one_from true is = refl
one_from false is = absurd (omega (arith, is))

to_one : (b : Bool) → b ≡ true → one_if b ≡ 1
unfolding one_if
to_one b is = rw is refl

pub mask_has_bits : (n : ℕ) (rs : List Route) → RiseFrom n rs → IsMaskOf rs (mask_of rs)
mask_has_bits n rs rise k = (
  λ set. (any_to k rs).0 (one_from (goes_to k rs) (sym (bit_mask n rs k rise) ∙ from_bit (mask_of rs) k set)),
  λ any. to_bit (mask_of rs) k (bit_mask n rs k rise ∙ to_one (goes_to k rs) ((any_to k rs).1 any)),
)

-- ---- the routes to the outputs of a mask

put_here : (b : Bool) → (false && b) || cond b (true || false) false ≡ (true && b)
put_here true = refl
put_here false = refl

put_before : (b c : Bool) → (true && c) || cond b (false || false) false ≡ (true && c)
put_before true true = refl
put_before true false = refl
put_before false true = refl
put_before false false = refl

put_behind : (b c : Bool) → (false && c) || cond b (false || false) false ≡ (false && c)
put_behind true c = refl
put_behind false c = refl

list_any-cond : (k : ℕ) (b : Bool) (r : Route) → goes_to k (cond b (r ∷ []) []) ≡ cond b (eqb r.output.0 k || false) false
list_any-cond k true r = refl
list_any-cond k false r = refl

-- whether there is a route to k after adding one more
joined : (m mask k : ℕ) → goes_to k (routes_below (m + 1) mask) ≡ (goes_to k (routes_below m mask) || cond (eqb (bit_at mask m) 1) (eqb m k || false) false)
joined m mask k =
    rw (routes_below-more m mask)
    (list_any-append (λ (r : Route). eqb r.output.0 k) (routes_below m mask) (cond (eqb (bit_at mask m) 1) (idle_at 0 (record { 0 = m }) ∷ []) [])
    ∙ ap (λ (b : Bool). goes_to k (routes_below m mask) || b) (list_any-cond k (eqb (bit_at mask m) 1) (idle_at 0 (record { 0 = m }))))

join_here : (less same more put bit : Bool) → less ≡ false → same ≡ true → more ≡ true → put ≡ bit → ((less && bit) || cond put (same || false) false) ≡ (more && bit)
join_here less same more put bit p q r s = rw (p, q, r, s) (put_here bit)

join_before : (less same more put bit : Bool) → less ≡ true → same ≡ false → more ≡ true → ((less && bit) || cond put (same || false) false) ≡ (more && bit)
join_before less same more put bit p q r = rw (p, q, r) (put_before put bit)

join_behind : (less same more put bit : Bool) → less ≡ false → same ≡ false → more ≡ false → ((less && bit) || cond put (same || false) false) ≡ (more && bit)
join_behind less same more put bit p q r = rw (p, q, r) (put_behind put bit)

join_by : (m mask k : ℕ) → (k ≡ m) ⊎ ((k < m) ⊎ (m < k)) → ((ltb k m && eqb (bit_at mask k) 1) || cond (eqb (bit_at mask m) 1) (eqb m k || false) false) ≡ (ltb k (m + 1) && eqb (bit_at mask k) 1)
join_by m mask k (inl is) =
    join_here (ltb k m) (eqb m k) (ltb k (m + 1)) (eqb (bit_at mask m) 1) (eqb (bit_at mask k) 1)
    (le-ltb k m (omega (arith, is))) (eq-eqb m k (sym is)) (lt-ltb k (m + 1) (omega (arith, is))) (ap (λ (j : ℕ). eqb (bit_at mask j) 1) (sym is))
join_by m mask k (inr (inl less)) =
    join_before (ltb k m) (eqb m k) (ltb k (m + 1)) (eqb (bit_at mask m) 1) (eqb (bit_at mask k) 1)
    (lt-ltb k m less) (ne_eqb m k (λ e. omega (arith, e, less))) (lt-ltb k (m + 1) (omega (arith, less)))
join_by m mask k (inr (inr more)) =
    join_behind (ltb k m) (eqb m k) (ltb k (m + 1)) (eqb (bit_at mask m) 1) (eqb (bit_at mask k) 1)
    (le-ltb k m (omega (arith, more))) (ne_eqb m k (λ e. omega (arith, e, more))) (le-ltb k (m + 1) (omega (arith, more)))

goes-routes_below : (n mask k : ℕ) → goes_to k (routes_below n mask) ≡ (ltb k n && eqb (bit_at mask k) 1)
goes-routes_below zero mask k = rw (routes_below-none mask, le-ltb k 0 (omega arith)) refl
goes-routes_below (suc m) mask k =
    let next : suc m ≡ m + 1 = omega arith in
    rw next
    (joined m mask k ∙ ap (λ (b : Bool). b || cond (eqb (bit_at mask m) 1) (eqb m k || false) false) (goes-routes_below m mask k) ∙ join_by m mask k (cases_order k m))

-- a mask of n bits is that of the routes to its outputs
pub mask_of_routes_below : (n mask : ℕ) → mask < 2 ^ n → IsMaskOf (routes_below n mask) mask
mask_of_routes_below n mask within k = (set_to, to_set)
  where
    below : bit_at mask k ≡ 1 → (k < n) ⊎ (n ≤ k) → k < n
    below one (inl less) = less
    below one (inr more) = let none = bit_at_above mask n k within more in absurd (omega (arith, one, none))

    set_to : IsBitSet mask k → Any (λ (r : Route). r.output.0 ≡ k) (routes_below n mask)
    set_to set =
        let one = from_bit mask k set in
        (any_to k (routes_below n mask)).0
        (goes-routes_below n mask k ∙ and_from (ltb k n) (eqb (bit_at mask k) 1) (lt-ltb k n (below one (cases_lt k n))) (eq-eqb (bit_at mask k) 1 one))

    to_set : Any (λ (r : Route). r.output.0 ≡ k) (routes_below n mask) → IsBitSet mask k
    to_set any =
        let both = and_parts (ltb k n) (eqb (bit_at mask k) 1) (sym (goes-routes_below n mask k) ∙ (any_to k (routes_below n mask)).1 any) in
        to_bit mask k (eqb-true (bit_at mask k) 1 both.1)

pub no_mask : IsMaskOf [] 0
no_mask = mask_has_bits 0 [] tt
