-- Numbers of links.
use Rattle.std.proofs.Common.{◌≡◌, ◌≢◌, ⊎_elim, inl, inr, ◌⊎◌, ℕ, zero, suc, ◌+◌, ◌<◌, ◌≤◌, ◌==◌, Bool, true, false, if◌then◌else◌, List, [], ◌∷◌, ◌++◌, length, get_or, Option, None, Result, Ok, Err, refl, sym, ap, subst, ◌∙◌, arith}
use Rattle.std.proofs.lemmas.Bool.{cases_lt, eq-eqb, ne_eqb}
use Rattle.std.specs.Prelude.{MatchResult}
use Rattle.std.specs.Ordering.{nat_cmp}
use Rattle.std.specs.List.Sorted.{IsBinarySearchResult}
use Rattle.std.proofs.lemmas.List.Sorted.{searched}
use Rattle.std.proofs.lemmas.Option.{slice_get_past}
use Rattle.std.proofs.lemmas.List.{length-set, set_past}
use Rattle.fwd_script_loop.specs.Place.{output_of, opened, closed}
use Rattle.fwd_record.specs.Links.{AreRising, counted_on, number_of}

counted_next : (m n : ℕ) → m ≡ n + 1 → counted_on m ≡ suc n + 1
counted_next zero n is = omega (arith, is)
counted_next (suc m) n is = omega (arith, is)

counted_above : (m n : ℕ) → n < m → suc n < counted_on m
counted_above zero n less = omega (arith, less)
counted_above (suc m) n less = omega (arith, less)

-- among these links and others, a link has the number that it has among these; or it isn't one of these
pub number_among : (links more : List ℕ) (link : ℕ)
    → (number_of (links ++ more) link ≡ number_of links link) ⊎ ((number_of links link ≡ 0) × (length links < number_of (links ++ more) link))
number_among [] more link = by (number_of more link)
  where
    by : (n : ℕ) → (n ≡ number_of [] link) ⊎ ((number_of [] link ≡ 0) × (0 < n))
    by zero = inl refl
    by (suc n) = inr (refl, omega arith)
number_among (other ∷ links) more link = by (other == link) (number_among links more link)
  where
    by : (b : Bool) → (number_of (links ++ more) link ≡ number_of links link) ⊎ ((number_of links link ≡ 0) × (length links < number_of (links ++ more) link))
        → ((if b then 1 else counted_on (number_of (links ++ more) link)) ≡ (if b then 1 else counted_on (number_of links link)))
        ⊎ (((if b then 1 else counted_on (number_of links link)) ≡ 0) × (suc (length links) < (if b then 1 else counted_on (number_of (links ++ more) link))))
    by true is = inl refl
    by false (inl same) = inl (ap counted_on same)
    by false (inr (none, above)) = inr (ap counted_on none, counted_above (number_of (links ++ more) link) (length links) above)

-- no link has a number above the number of links
pub none_past : (outputs : List (Option ℕ)) (number : ℕ) → length outputs < number → output_of outputs number ≡ None
none_past outputs zero above = refl
none_past outputs (suc number) above = ap opened (slice_get_past outputs number (omega (arith, above)))

pub closed_past : (outputs : List (Option ℕ)) (number : ℕ) → length outputs < number → closed outputs number ≡ outputs
closed_past outputs zero above = refl
closed_past outputs (suc number) above = set_past outputs number None (omega (arith, above))

pub closed_as_long : (outputs : List (Option ℕ)) (number : ℕ) → length (closed outputs number) ≡ length outputs
closed_as_long outputs zero = refl
closed_as_long outputs (suc number) = length-set outputs number None

-- by the links so far or by all of the run: the same output
module _ (links more : List ℕ) (outputs : List (Option ℕ)) (long : length outputs ≡ length links) (link : ℕ) where
  pub same_output : output_of outputs (number_of (links ++ more) link) ≡ output_of outputs (number_of links link)
  same_output = by (number_among links more link)
    where
      by : (number_of (links ++ more) link ≡ number_of links link) ⊎ ((number_of links link ≡ 0) × (length links < number_of (links ++ more) link))
          → output_of outputs (number_of (links ++ more) link) ≡ output_of outputs (number_of links link)
      by (inl same) = ap (output_of outputs) same
      by (inr (none, above)) = none_past outputs (number_of (links ++ more) link) (omega (arith, long, above)) ∙ ap (output_of outputs) (sym none)

  pub same_closed : closed outputs (number_of (links ++ more) link) ≡ closed outputs (number_of links link)
  same_closed = by (number_among links more link)
    where
      by : (number_of (links ++ more) link ≡ number_of links link) ⊎ ((number_of links link ≡ 0) × (length links < number_of (links ++ more) link))
          → closed outputs (number_of (links ++ more) link) ≡ closed outputs (number_of links link)
      by (inl same) = ap (closed outputs) same
      by (inr (none, above)) = closed_past outputs (number_of (links ++ more) link) (omega (arith, long, above)) ∙ ap (closed outputs) (sym none)

-- ---- rising links

-- those before a link are below it
below_later : (least : ℕ) (links more : List ℕ) (link : ℕ) → AreRising least (links ++ link ∷ more) → least < link
below_later least [] more link rising = rising.0
below_later least (other ∷ links) more link rising = omega (arith, rising.0, below_later other links more link rising.1)

-- a new link has the next number
pub next_number : (least : ℕ) (links more : List ℕ) (link : ℕ) → AreRising least (links ++ link ∷ more) → number_of (links ++ link ∷ more) link ≡ length links + 1
next_number least [] more link rising = by (link == link) (eq-eqb link link refl)
  where
    by : (b : Bool) → b ≡ true → (if b then 1 else counted_on (number_of more link)) ≡ 1
    by true is = refl
    by false is = absurd (cc is)
next_number least (other ∷ links) more link rising =
    by (other == link) (ne_eqb other link (λ is. omega (arith, is, below_later other links more link rising.1))) (next_number other links more link rising.1)
  where
    by : (b : Bool) → b ≡ false → number_of (links ++ link ∷ more) link ≡ length links + 1 → (if b then 1 else counted_on (number_of (links ++ link ∷ more) link)) ≡ suc (length links) + 1
    by true is same = absurd (cc is)
    by false is same = counted_next (number_of (links ++ link ∷ more) link) (length links) same

-- ---- searching

rising_above : (least : ℕ) (links : List ℕ) → AreRising least links → (k : ℕ) → k < length links → least < get_or links k 0
rising_above least [] rising k within = absurd (omega (arith, within))
rising_above least (link ∷ links) rising zero within = rising.0
rising_above least (link ∷ links) rising (suc k) within = let above : link < get_or links k 0 = rising_above link links rising.1 k (omega (arith, within)) in omega (arith, rising.0, above)

rising_sorted : (least : ℕ) (links : List ℕ) → AreRising least links → (i j : ℕ) → i ≤ j → j < length links → get_or links i 0 ≤ get_or links j 0
rising_sorted least [] rising i j order within = absurd (omega (arith, within))
rising_sorted least (link ∷ links) rising zero zero order within = omega arith
rising_sorted least (link ∷ links) rising zero (suc j) order within = let above : link < get_or links j 0 = rising_above link links rising.1 j (omega (arith, within)) in omega (arith, above)
rising_sorted least (link ∷ links) rising (suc i) zero order within = absurd (omega (arith, order))
rising_sorted least (link ∷ links) rising (suc i) (suc j) order within = rising_sorted link links rising.1 i j (omega (arith, order)) (omega (arith, within))

number_at : (least : ℕ) (links : List ℕ) → AreRising least links → (place : ℕ) → place < length links → number_of links (get_or links place 0) ≡ place + 1
number_at least [] rising place within = absurd (omega (arith, within))
number_at least (link ∷ links) rising zero within = by (link == link) (eq-eqb link link refl)
  where
    by : (b : Bool) → b ≡ true → (if b then 1 else counted_on (number_of links link)) ≡ 1
    by true is = refl
    by false is = absurd (cc is)
number_at least (link ∷ links) rising (suc place) within =
    by (link == get_or links place 0) (ne_eqb link (get_or links place 0) (λ is. omega (arith, is, rising_above link links rising.1 place (omega (arith, within))))) (number_at link links rising.1 place (omega (arith, within)))
  where
    by : (b : Bool) → b ≡ false → number_of links (get_or links place 0) ≡ place + 1 → (if b then 1 else counted_on (number_of links (get_or links place 0))) ≡ suc place + 1
    by true is same = absurd (cc is)
    by false is same = counted_next (number_of links (get_or links place 0)) place same

no_number : (links : List ℕ) (link : ℕ) → ((k : ℕ) → k < length links → get_or links k 0 ≢ link) → number_of links link ≡ 0
no_number [] link others = refl
no_number (other ∷ links) link others =
    by (other == link) (ne_eqb other link (others 0 (omega arith))) (no_number links link (λ k within. others (suc k) (omega (arith, within))))
  where
    by : (b : Bool) → b ≡ false → number_of links link ≡ 0 → (if b then 1 else counted_on (number_of links link)) ≡ 0
    by true is none = absurd (cc is)
    by false is none = ap counted_on none

-- what a binary search of a link found
pub searched_number : (links : List ℕ) (link : ℕ) (r : Result ℕ ℕ) → AreRising 0 links → IsBinarySearchResult (λ y. nat_cmp y link) links r
    → MatchResult r (λ place. (place < length links) × (number_of links link ≡ place + 1)) (λ place. number_of links link ≡ 0)
searched_number links link r rising position = by r (searched links link r position (rising_sorted 0 links rising))
  where
    by : (r : Result ℕ ℕ) → MatchResult r (λ i. (i < length links) × (get_or links i 0 ≡ link)) (λ i. (i ≤ length links) × ((k : ℕ) → k < i → get_or links k 0 < link) × ((k : ℕ) → i ≤ k → k < length links → link < get_or links k 0))
        → MatchResult r (λ place. (place < length links) × (number_of links link ≡ place + 1)) (λ place. number_of links link ≡ 0)
    by (Ok place) is = (is.0, subst (λ (l : ℕ). number_of links l ≡ place + 1) is.1 (number_at 0 links rising place is.0))
    by (Err place) is = no_number links link (λ k within same. ⊎_elim (λ (less : k < place). omega (arith, same, is.1 k less)) (λ (more : place ≤ k). omega (arith, same, is.2 k more within)) (cases_lt k place))
