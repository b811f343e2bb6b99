-- Masks with a bit for each glob.
use Rattle.std.proofs.Common.{◌≡◌, ◌⊎◌, inl, inr, ◌↔◌, ℕ, ◌+◌, ◌*◌, ◌%◌, ◌<◌, Some, List, length, sym, subst, ◌∙◌, arith}
use Prim.Native.Nat.{◌^◌}
use Rattle.std.specs.Int.{IsBitSet, bit_at, w64}
use Rattle.std.specs.Int.RustNames.{bit_or}
use Rattle.std.specs.List.{slice_get}
use Rattle.std.proofs.lemmas.Nat.{bit_set_by_shift}
use Rattle.std.proofs.lemmas.Nat.Bits.{shr_and_one, bit_at_set_same, bit_at_set_other, bit_at-zero}
use Rattle.std.proofs.lemmas.Bool.{cases_eq}
use Rattle.std.proofs.lemmas.Option.{slice_get_within}
use Rattle.fwd_route.specs.Glob.{Glob, RoutesTo}

abbrev pub Matched : List (List ℕ) → List ℕ → ℕ → Type 0
Matched globs tag i = (glob : List ℕ) × (slice_get globs i ≡ Some glob) × Glob glob tag

-- bit i is set exactly if glob i matches, for the first n globs
abbrev pub RoutesBelow : ℕ → List (List ℕ) → List ℕ → ℕ → Type 0
RoutesBelow n globs tag mask = (i : ℕ) → IsBitSet mask i ↔ ((i < n) × Matched globs tag i)

from_bit : (mask i : ℕ) → IsBitSet mask i → bit_at mask i ≡ 1
from_bit mask i set = sym (shr_and_one mask i) ∙ (bit_set_by_shift mask i).1 set

to_bit : (mask i : ℕ) → bit_at mask i ≡ 1 → IsBitSet mask i
to_bit mask i is = (bit_set_by_shift mask i).0 (shr_and_one mask i ∙ is)

pub routes_none : (globs : List (List ℕ)) (tag : List ℕ) → RoutesBelow 0 globs tag 0
routes_none globs tag i =
    (λ set. let one = from_bit 0 i set in let none = bit_at-zero i in absurd (omega (arith, one, none)), λ below. let less : i < 0 = below.0 in absurd (omega (arith, less)))

pub routes_whole : (globs : List (List ℕ)) (tag : List ℕ) (mask : ℕ) → RoutesBelow (length globs) globs tag mask → RoutesTo globs tag mask
routes_whole globs tag mask below i =
    (λ set. ((below i).0 set).1, λ matched. (below i).1 (slice_get_within globs i matched.0 matched.1, matched))

-- the glob at an index is unique
matched_at : (globs : List (List ℕ)) (tag : List ℕ) (i n : ℕ) (glob : List ℕ) → i ≡ n → slice_get globs n ≡ Some glob → Matched globs tag i → Glob glob tag
matched_at globs tag i n glob same is matched =
    let at : slice_get globs n ≡ Some matched.0 = subst (λ (k : ℕ). slice_get globs k ≡ Some matched.0) same matched.1 in
    let one : matched.0 ≡ glob = cc (at, is) in
    subst (λ (g : List ℕ). Glob g tag) one matched.2

skip_by : (n : ℕ) (globs : List (List ℕ)) (tag : List ℕ) (glob : List ℕ) (i : ℕ) → slice_get globs n ≡ Some glob → (Glob glob tag → ⊥) → (i ≡ n) ⊎ (i ≡ n → ⊥) → i < n + 1 → Matched globs tag i → i < n
skip_by n globs tag glob i is other (inl same) below matched = absurd (other (matched_at globs tag i n glob same is matched))
skip_by n globs tag glob i is other (inr apart) below matched = omega (arith, below, apart)

-- after a glob that doesn't match
pub routes_skip : (n : ℕ) (globs : List (List ℕ)) (tag : List ℕ) (mask : ℕ) (glob : List ℕ) → slice_get globs n ≡ Some glob → (Glob glob tag → ⊥) → RoutesBelow n globs tag mask → RoutesBelow (n + 1) globs tag mask
routes_skip n globs tag mask glob is other below i = (set_below, below_set)
  where
    set_below : IsBitSet mask i → (i < n + 1) × Matched globs tag i
    set_below set = let old = (below i).0 set in let less : i < n = old.0 in (omega (arith, less), old.1)

    below_set : (i < n + 1) × Matched globs tag i → IsBitSet mask i
    below_set next = (below i).1 (skip_by n globs tag glob i is other (cases_eq i n) next.0 next.1, next.1)

-- the mask with one bit more
abbrev pub with_bit : ℕ → ℕ → ℕ
with_bit mask n = bit_or mask (1 * 2 ^ n % 2 ^ 64)

-- after one that does
pub routes_more : (n : ℕ) (globs : List (List ℕ)) (tag : List ℕ) (mask : ℕ) (glob : List ℕ) → n < 64 → slice_get globs n ≡ Some glob → Glob glob tag → RoutesBelow n globs tag mask → RoutesBelow (n + 1) globs tag (with_bit mask n)
routes_more n globs tag mask glob within is matches below i = by (cases_eq i n)
  where
    by : (i ≡ n) ⊎ (i ≡ n → ⊥) → IsBitSet (with_bit mask n) i ↔ ((i < n + 1) × Matched globs tag i)
    by (inl same) =
        let set : bit_at (with_bit mask n) i ≡ 1 = subst (λ (k : ℕ). bit_at (with_bit mask n) k ≡ 1) (sym same) (bit_at_set_same w64 mask n within) in
        let at : slice_get globs i ≡ Some glob = subst (λ (k : ℕ). slice_get globs k ≡ Some glob) (sym same) is in
        (λ now. (omega (arith, same), (glob, at, matches)), λ next. to_bit (with_bit mask n) i set)
    by (inr apart) =
        let kept : bit_at (with_bit mask n) i ≡ bit_at mask i = bit_at_set_other w64 mask n within i apart in (
          λ now. let old = (below i).0 (to_bit mask i (sym kept ∙ from_bit (with_bit mask n) i now)) in let less : i < n = old.0 in (omega (arith, less), old.1),
          λ next. let under : i < n + 1 = next.0 in to_bit (with_bit mask n) i (kept ∙ from_bit mask i ((below i).1 (omega (arith, under, apart), next.1))),
        )
