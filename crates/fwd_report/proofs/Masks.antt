-- Masks of outputs.
use Rattle.std.proofs.Common.{◌≡◌, ◌⊎◌, inl, inr, ◌↔◌, ℕ, suc, ◌+◌, ◌-◌, ◌*◌, ◌/◌, ◌%◌, ◌<◌, ◌≤◌, Bool, true, false, ◌||◌, eqb, List, [], ◌∷◌, length, refl, sym, ◌∙◌, ap, subst, arith}
use Rattle.std.specs.Prelude.{Any, IsBitSet}
use Rattle.std.specs.List.{list_any}
use Rattle.std.specs.Int.{bit_at}
use Rattle.std.specs.Int.RustNames.{bit_and, count_ones}
use Rattle.std.proofs.lemmas.Nat.{bit_set_by_shift, pow_pos, ones-le, ones_cat, div-add-mod'}
use Rattle.std.proofs.lemmas.Nat.Bits.{shr_and_one, bit_at-zero, bit_at-lt, bit_at_lowest, bit_at-suc, bit_at_cat_low, bit_at_cat_high, same_from_bits}
use Rattle.std.proofs.lemmas.Bool.{cases_eq, cases_lt, eq-eqb, ne_eqb, eqb-true, false_from_ne_true}
use Rattle.std.proofs.lemmas.List.Folds.{Any-from_list_any, list_any-from_Any}
use Prim.Native.Nat.{◌^◌}
use lib.Count.{ones_step}
use Rattle.fwd_table.specs.Route.{Route}
use Rattle.fwd_table.specs.Row.{Row}
use Rattle.fwd_table.specs.Routes.{mask_of, IsMaskOf}
use Rattle.fwd_table.proofs.Masks.{mask-cons}
use Rattle.fwd_report.specs.Report.{is_owed_to}

-- whether one of the routes is to this output
abbrev goes_to : ℕ → List Route → Bool
goes_to k rs = list_any (λ (r : Route). eqb r.output.0 k) rs

any_to : (k : ℕ) (rs : List Route) → goes_to k rs ≡ true ↔ Any (λ (r : Route). r.output.0 ≡ k) rs
any_to k rs = (
  λ is. let any = Any-from_list_any (λ (r : Route). eqb r.output.0 k) rs is in (any.0, any.1, any.2, any.3, eqb-true any.1.output.0 k any.4),
  λ any. list_any-from_Any (λ (r : Route). eqb r.output.0 k) rs (any.0, any.1, any.2, any.3, eq-eqb any.1.output.0 k any.4),
)

-- ---- the lowest bit of a mask that is shifted down

pub owed_set : (row : Row) (owed rest i : ℕ) → IsMaskOf row.routes owed → rest ≡ owed / 2 ^ i → bit_and rest 1 ≡ 1 → is_owed_to i row ≡ true
owed_set row owed rest i is at one = (any_to i row.routes).1 ((is i).0 ((bit_set_by_shift owed i).0 (subst (λ (n : ℕ). bit_and n 1 ≡ 1) at one)))

pub owed_clear : (row : Row) (owed rest i : ℕ) → IsMaskOf row.routes owed → rest ≡ owed / 2 ^ i → (bit_and rest 1 ≡ 1 → ⊥) → is_owed_to i row ≡ false
owed_clear row owed rest i is at none =
    false_from_ne_true (is_owed_to i row)
    (λ to. none (subst (λ (n : ℕ). bit_and n 1 ≡ 1) (sym at) ((bit_set_by_shift owed i).1 ((is i).1 ((any_to i row.routes).0 to)))))

-- ---- as many routes as bits

-- a number whose bit o is set, and the same without it
high_bit : (h j : ℕ) → h % 2 ≡ 1 → bit_at (h - 1) (j + 1) ≡ bit_at h (j + 1)
high_bit h j odd =
    let half : (h - 1) / 2 ≡ h / 2 = omega (arith, odd) in
    let next : j + 1 ≡ suc j = omega arith in
    rw next (bit_at-suc (h - 1) j ∙ ap (λ (n : ℕ). bit_at n j) half ∙ sym (bit_at-suc h j))

high_part : (h o low k : ℕ) → low < 2 ^ o → h % 2 ≡ 1 → o ≤ k → bit_at ((h - 1) * 2 ^ o + low) k ≡ 1 → (k ≡ o) ⊎ (k ≡ o → ⊥) → (k ≡ o → ⊥) × (bit_at (h * 2 ^ o + low) k ≡ 1)
high_part h o low k less odd more set (inl same) =
    let cut : bit_at ((h - 1) * 2 ^ o + low) k ≡ bit_at (h - 1) (k - o) = bit_at_cat_high (h - 1) o low k less more in
    let none : k - o ≡ 0 = omega (arith, same) in
    let lowest : bit_at (h - 1) 0 ≡ 1 = subst (λ (n : ℕ). bit_at (h - 1) n ≡ 1) none (sym cut ∙ set) in
    let even : (h - 1) % 2 ≡ 1 = sym (bit_at_lowest (h - 1)) ∙ lowest in
    absurd (omega (arith, odd, even))
high_part h o low k less odd more set (inr apart) =
    let cut : bit_at ((h - 1) * 2 ^ o + low) k ≡ bit_at (h - 1) (k - o) = bit_at_cat_high (h - 1) o low k less more in
    let whole : bit_at (h * 2 ^ o + low) k ≡ bit_at h (k - o) = bit_at_cat_high h o low k less more in
    let some : k - o ≡ k - o - 1 + 1 = omega (arith, more, apart) in
    let same : bit_at (h - 1) (k - o) ≡ bit_at h (k - o) = subst (λ (n : ℕ). bit_at (h - 1) n ≡ bit_at h n) (sym some) (high_bit h (k - o - 1) odd) in
    (apart, whole ∙ sym same ∙ sym cut ∙ set)

bits_left : (h o low k : ℕ) → low < 2 ^ o → h % 2 ≡ 1 → bit_at ((h - 1) * 2 ^ o + low) k ≡ 1 → (k < o) ⊎ (o ≤ k) → (k ≡ o → ⊥) × (bit_at (h * 2 ^ o + low) k ≡ 1)
bits_left h o low k less odd set (inl before) =
    (λ e. omega (arith, e, before), bit_at_cat_low h o low k before ∙ sym (bit_at_cat_low (h - 1) o low k before) ∙ set)
bits_left h o low k less odd set (inr more) = high_part h o low k less odd more set (cases_eq k o)

ones_left : (h o low : ℕ) → low < 2 ^ o → h % 2 ≡ 1 → count_ones (h * 2 ^ o + low) ≡ count_ones ((h - 1) * 2 ^ o + low) + 1
ones_left h o low less odd =
    let whole : count_ones (h * 2 ^ o + low) ≡ count_ones h + count_ones low = ones_cat o h low less in
    let left : count_ones ((h - 1) * 2 ^ o + low) ≡ count_ones (h - 1) + count_ones low = ones_cat o (h - 1) low less in
    let first : count_ones h ≡ h % 2 + count_ones (h / 2) = ones_step h in
    let second : count_ones (h - 1) ≡ (h - 1) % 2 + count_ones ((h - 1) / 2) = ones_step (h - 1) in
    let half : (h - 1) / 2 ≡ h / 2 = omega (arith, odd) in
    let even : (h - 1) % 2 ≡ 0 = omega (arith, odd) in
    let same : count_ones ((h - 1) / 2) ≡ count_ones (h / 2) = ap (λ (n : ℕ). count_ones n) half in
    omega (arith, whole, left, first, second, even, odd, same)

-- a number whose bit o is set
record Cut (mask o : ℕ) : Type 0 where
  pub rest : ℕ
  pub is : mask ≡ rest + 2 ^ o
  pub bits : (k : ℕ) → bit_at rest k ≡ 1 → (k ≡ o → ⊥) × (bit_at mask k ≡ 1)
  pub ones : count_ones mask ≡ count_ones rest + 1

cut_at : (mask o h low : ℕ) → low < 2 ^ o → h % 2 ≡ 1 → mask ≡ h * 2 ^ o + low → Cut mask o
cut_at mask o h low less odd is =
    let g : ℕ = h - 1 in
    let more : h ≡ h - 1 + 1 = omega (arith, odd) in
    let product : h * 2 ^ o ≡ (h - 1) * 2 ^ o + 2 ^ o = subst (λ (n : ℕ). n * 2 ^ o ≡ (h - 1) * 2 ^ o + 2 ^ o) (sym more) (one_more (h - 1) (2 ^ o)) in
    record {
      rest = (h - 1) * 2 ^ o + low;
      is = omega (arith, is, product);
      bits = λ k set. rw is (bits_left h o low k less odd set (cases_lt k o));
      ones = rw is (ones_left h o low less odd);
    }
  where
    one_more : (g p : ℕ) → (g + 1) * p ≡ g * p + p
    one_more g p = grind arith

cut : (mask o : ℕ) → bit_at mask o ≡ 1 → Cut mask o
cut mask o set =
    let some : 0 < 2 ^ o = pow_pos o in
    let less : mask % 2 ^ o < 2 ^ o = omega (arith, some) in
    cut_at mask o (mask / 2 ^ o) (mask % 2 ^ o) less set (sym (div-add-mod' mask (2 ^ o)))

-- a mask of outputs of these routes is their mask only if each bit is that of one route
record Within (mask : ℕ) (rs : List Route) : Type 0 where
  pub most : mask ≤ mask_of rs
  pub ones : mask ≡ mask_of rs → count_ones mask ≡ length rs

no_bit : (n : ℕ) → n < 2 → (n ≡ 1 → ⊥) → n ≡ 0
no_bit n less none = omega (arith, less, none)

zero_mask : (mask : ℕ) → ((k : ℕ) → bit_at mask k ≡ 1 → ⊥) → mask ≡ 0
zero_mask mask none = same_from_bits mask 0 (λ k. no_bit (bit_at mask k) (bit_at-lt mask k) (none k) ∙ sym (bit_at-zero k))

behind_first : (k o : ℕ) (rest : Bool) → (k ≡ o → ⊥) → (eqb o k || rest) ≡ true → rest ≡ true
behind_first k o rest apart is = sym (ap (λ (b : Bool). b || rest) (ne_eqb o k (λ e. apart (sym e)))) ∙ is

no_true : false ≡ true → ⊥
no_true is = cc

none_set : (mask : ℕ) → mask ≡ 0 → count_ones mask ≡ 0
none_set mask none = rw none (omega (arith, ones-le 0 0 (omega arith)))

within_first : (r : Route) (rs : List Route) (mask : ℕ) (c : Cut mask r.output.0) → Within c.rest rs → Within mask (r ∷ rs)
within_first r rs mask c rest =
    let most : c.rest ≤ mask_of rs = rest.most in
    let is : mask ≡ c.rest + 2 ^ r.output.0 = c.is in
    let ones : count_ones mask ≡ count_ones c.rest + 1 = c.ones in
    let sum : mask_of (r ∷ rs) ≡ 2 ^ r.output.0 + mask_of rs = mask-cons r rs in
    record {
      most = omega (arith, most, is, sum);
      ones = λ same.
          let left : c.rest ≡ mask_of rs = omega (arith, same, is, sum) in
          let count : count_ones c.rest ≡ length rs = rest.ones left in
          ones ∙ (λ k. count k + 1) ∙ more (length rs);
    }
  where
    more : (n : ℕ) → n + 1 ≡ suc n
    more n = omega arith

within_others : (r : Route) (rs : List Route) (mask : ℕ) → Within mask rs → Within mask (r ∷ rs)
within_others r rs mask rest =
    let most : mask ≤ mask_of rs = rest.most in
    let some : 0 < 2 ^ r.output.0 = pow_pos r.output.0 in
    let sum : mask_of (r ∷ rs) ≡ 2 ^ r.output.0 + mask_of rs = mask-cons r rs in
    record { most = omega (arith, most, sum); ones = λ same. absurd (omega (arith, same, most, sum, some)) }

within_by : (r : Route) (rs : List Route) (mask : ℕ) → ((n : ℕ) → ((k : ℕ) → bit_at n k ≡ 1 → goes_to k rs ≡ true) → Within n rs)
    → ((k : ℕ) → bit_at mask k ≡ 1 → goes_to k (r ∷ rs) ≡ true) → (bit_at mask r.output.0 ≡ 1) ⊎ (bit_at mask r.output.0 ≡ 1 → ⊥) → Within mask (r ∷ rs)
within_by r rs mask behind to (inl set) =
    let c : Cut mask r.output.0 = cut mask r.output.0 set in
    within_first r rs mask c (behind c.rest (λ k is. behind_first k r.output.0 (goes_to k rs) (c.bits k is).0 (to k (c.bits k is).1)))
within_by r rs mask behind to (inr clear) =
    within_others r rs mask (behind mask (λ k is. behind_first k r.output.0 (goes_to k rs) (λ e. clear (subst (λ (n : ℕ). bit_at mask n ≡ 1) e is)) (to k is)))

within : (rs : List Route) (mask : ℕ) → ((k : ℕ) → bit_at mask k ≡ 1 → goes_to k rs ≡ true) → Within mask rs
within [] mask to =
    let none : mask ≡ 0 = zero_mask mask (λ k set. no_true (to k set)) in
    record { most = omega (arith, none); ones = λ _. none_set mask none }
within (r ∷ rs) mask to = within_by r rs mask (λ n reach. within rs n reach) to (cases_eq (bit_at mask r.output.0) 1)

pub ones-routes : (rs : List Route) (mask : ℕ) → mask ≡ mask_of rs → IsMaskOf rs mask → count_ones mask ≡ length rs
ones-routes rs mask same is = (within rs mask (λ k set. (any_to k rs).1 ((is k).0 (to_bit k set)))).ones same
  where
    to_bit : (k : ℕ) → bit_at mask k ≡ 1 → IsBitSet mask k
    to_bit k set = (bit_set_by_shift mask k).0 (shr_and_one mask k ∙ set)

-- ---- masks that are 0

pub owed_none : (rs : List Route) → mask_of rs ≡ 0 → length rs ≡ 0
owed_none [] none = refl
owed_none (r ∷ rs) none = let some : 0 < 2 ^ r.output.0 = pow_pos r.output.0 in let sum = mask-cons r rs in absurd (omega (arith, some, sum, none))
