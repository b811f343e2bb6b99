-- Masks of routes whose outputs rise: each bit is above those before it.
use Rattle.std.proofs.Common.{◌≡◌, ◌⊎◌, inl, inr, ℕ, zero, suc, ◌+◌, ◌-◌, ◌*◌, ◌%◌, ◌<◌, ◌≤◌, Bool, true, false, not, cond, List, [], ◌∷◌, length, get_or, take, refl, sym, ◌∙◌, subst, arith}
use Rattle.std.specs.Prelude.{filter}
use Rattle.std.specs.Int.{bit_at, w64}
use Rattle.std.specs.Int.RustNames.{bit_or}
use Rattle.std.proofs.lemmas.Nat.Bits.{bit_at_set_same, bit_at_set_other, bit_at_cat_low, bit_at_cat_high, bit_at-pow_other, bit_at_above, same_from_bits}
use Rattle.std.proofs.lemmas.Grind.{pow_more}
use Rattle.std.proofs.Math.Nat.{pow-le-pow_right}
use Rattle.std.proofs.lemmas.Bool.{cases_eq, cases_lt}
use Rattle.std.proofs.lemmas.List.Elements.{filter_more}
use Rattle.std.proofs.lemmas.List.Filters.{sum_by-filter_both}
use Rattle.std.proofs.lemmas.List.Sums.{sum_by_more, sum_by-append}
use Prim.Native.Nat.{◌^◌}
use Rattle.fwd_table_rows.specs.declared.route.Route.{Route}
use Rattle.fwd_table_rows.specs.Routes.{RiseFrom, mask_of}
use Rattle.fwd_table_rows.proofs.RouteOrder.{output_below}

pub mask-cons : (r : Route) (rs : List Route) → mask_of (r ∷ rs) ≡ 2 ^ r.output.0 + mask_of rs
mask-cons r rs = omega (arith, sum_by-append (λ (s : Route). 2 ^ s.output.0) (r ∷ []) rs)

pub mask_before : (n : ℕ) (rs : List Route) (i : ℕ) (d : Route) → RiseFrom n rs → i < length rs → 2 ^ n + mask_of (take i rs) ≤ 2 ^ (get_or rs i d).output.0
mask_before n [] i d rise within = absurd (omega (arith, within))
mask_before n (r ∷ rs) zero d rise within =
    let less : 2 ^ n ≤ 2 ^ r.output.0 = pow-le-pow_right (omega arith) rise.0 in
    omega (arith, less)
mask_before n (r ∷ rs) (suc i) d rise within =
    let less : 2 ^ n ≤ 2 ^ r.output.0 = pow-le-pow_right (omega arith) rise.0 in
    let rest = mask_before (r.output.0 + 1) rs i d rise.2 (omega (arith, within)) in
    let twice : 2 ^ (r.output.0 + 1) ≡ 2 ^ r.output.0 * 2 = pow_more 2 r.output.0 in
    subst (λ (m : ℕ). 2 ^ n + m ≤ 2 ^ (get_or rs i d).output.0) (sym (mask-cons r (take i rs)))
    (step (mask_of (take i rs)) (2 ^ n) (2 ^ r.output.0) (2 ^ (r.output.0 + 1)) (2 ^ (get_or rs i d).output.0) less twice rest)
  where
    step : (mask low one two high : ℕ) → low ≤ one → two ≡ one * 2 → two + mask ≤ high → low + (one + mask) ≤ high
    step mask low one two high less twice rest = omega (arith, less, twice, rest)

-- a bit above all those that are set is added
pub or_adds : (mask k : ℕ) → k < 64 → mask < 2 ^ k → bit_or mask (1 * 2 ^ k % 2 ^ 64) ≡ 1 * 2 ^ k + mask
or_adds mask k within below = same_from_bits (bit_or mask (1 * 2 ^ k % 2 ^ 64)) (1 * 2 ^ k + mask) (λ i. by i (cases_lt i k) (cases_eq i k))
  where
    by : (i : ℕ) → (i < k) ⊎ (k ≤ i) → (i ≡ k) ⊎ (i ≡ k → ⊥) → bit_at (bit_or mask (1 * 2 ^ k % 2 ^ 64)) i ≡ bit_at (1 * 2 ^ k + mask) i
    by i (inl less) (inl same) = absurd (omega (arith, less, same))
    by i (inl less) (inr apart) = bit_at_set_other w64 mask k within i apart ∙ sym (bit_at_cat_low 1 k mask i less)
    by i (inr more) (inl same) =
        let high : bit_at (1 * 2 ^ k + mask) i ≡ bit_at 1 (i - k) = bit_at_cat_high 1 k mask i below more in
        let set : bit_at (bit_or mask (1 * 2 ^ k % 2 ^ 64)) i ≡ 1 = subst (λ (j : ℕ). bit_at (bit_or mask (1 * 2 ^ k % 2 ^ 64)) j ≡ 1) (sym same) (bit_at_set_same w64 mask k within) in
        let none : i - k ≡ 0 = omega (arith, same) in
        let one : bit_at 1 (i - k) ≡ 1 = rw none refl in
        set ∙ sym (high ∙ one)
    by i (inr more) (inr apart) =
        let high : bit_at (1 * 2 ^ k + mask) i ≡ bit_at 1 (i - k) = bit_at_cat_high 1 k mask i below more in
        let none : bit_at 1 (i - k) ≡ 0 = bit_at-pow_other 0 (i - k) (λ is. apart (omega (arith, is, more))) in
        bit_at_set_other w64 mask k within i apart ∙ bit_at_above mask k i below more ∙ sym (high ∙ none)

-- ---- masks built by loops

mask_below : (rs : List Route) (i : ℕ) (d : Route) → RiseFrom 0 rs → i < length rs → mask_of (take i rs) < 2 ^ (get_or rs i d).output.0
mask_below rs i d rise within = let before = mask_before 0 rs i d rise within in omega (arith, before)

kept_within : (p : Route → Bool) (rs : List Route) → mask_of (filter p rs) ≤ mask_of rs
kept_within p rs = omega (arith, sum_by-filter_both p (λ r. not (p r)) (λ _. refl) (λ (r : Route). 2 ^ r.output.0) rs)

pub mask_more : (rs : List Route) (i : ℕ) (d : Route) (mask : ℕ) → RiseFrom 0 rs → i < length rs → mask ≡ mask_of (take i rs) → bit_or mask (1 * 2 ^ (get_or rs i d).output.0 % 2 ^ 64) ≡ mask_of (take (i + 1) rs)
mask_more rs i d mask rise within is =
    let below = mask_below rs i d rise within in
    let adds = or_adds mask (get_or rs i d).output.0 (output_below 0 rs i d rise within) (rw is below) in
    let sum = sum_by_more (λ (r : Route). 2 ^ r.output.0) rs i d within in
    adds ∙ omega (arith, sum, is)

kept_take : (p : Route → Bool) (rs : List Route) (i : ℕ) (d : Route) (test : Bool) → i < length rs → p (get_or rs i d) ≡ test → mask_of (filter p (take (i + 1) rs)) ≡ mask_of (filter p (take i rs)) + cond test (2 ^ (get_or rs i d).output.0) 0
kept_take p rs i d true within is = rw (filter_more p rs i d within, is) (sum_by-append (λ (r : Route). 2 ^ r.output.0) (filter p (take i rs)) (get_or rs i d ∷ []) ∙ omega arith)
kept_take p rs i d false within is = rw (filter_more p rs i d within, is) (sum_by-append (λ (r : Route). 2 ^ r.output.0) (filter p (take i rs)) [] ∙ omega arith)

pub kept_more : (p : Route → Bool) (rs : List Route) (i : ℕ) (d : Route) (mask : ℕ) → RiseFrom 0 rs → i < length rs → p (get_or rs i d) ≡ true → mask ≡ mask_of (filter p (take i rs)) → bit_or mask (1 * 2 ^ (get_or rs i d).output.0 % 2 ^ 64) ≡ mask_of (filter p (take (i + 1) rs))
kept_more p rs i d mask rise within passes is =
    let below = mask_below rs i d rise within in
    let part = kept_within p (take i rs) in
    let less : mask < 2 ^ (get_or rs i d).output.0 = omega (arith, below, part, is) in
    let adds = or_adds mask (get_or rs i d).output.0 (output_below 0 rs i d rise within) less in
    let sum = kept_take p rs i d true within passes in
    adds ∙ omega (arith, sum, is)

pub left_more : (p : Route → Bool) (rs : List Route) (i : ℕ) (d : Route) (mask : ℕ) → i < length rs → p (get_or rs i d) ≡ false → mask ≡ mask_of (filter p (take i rs)) → mask ≡ mask_of (filter p (take (i + 1) rs))
left_more p rs i d mask within fails is = let sum = kept_take p rs i d false within fails in omega (arith, sum, is)
