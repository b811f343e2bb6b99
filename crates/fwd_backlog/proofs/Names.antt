-- File names: their order and their numbers.
use Rattle.std.proofs.Common.{◌≡◌, ◌⊎◌, ◌↔◌, inl, inr, List, [], ◌∷◌, fold, refl, sym, ◌∙◌, ap, subst, arith}
use Rattle.std.specs.declared.cmp.Ordering.{Ordering}
use Rattle.std.specs.declared.cmp.Ordering.TheVariants.{Less, Equal, Greater}
use Rattle.std.specs.Ordering.{nat_cmp, ordering_then, ordering_reverse, match_ordering}
use Rattle.std.specs.Cmp.{IsTotalOrder}
use Rattle.std.specs.Cmp.Lexicographic.{slice_cmp, on_texts}
use Rattle.std.specs.List.{AllByRecursion, Contains}
use Rattle.std.specs.List.Sorted.{IsStrictlySortedBy}
use Rattle.std.specs.BTreeSet.{insert_key}
use Rattle.std.proofs.lemmas.Cmp.{then_total}
use Rattle.std.proofs.lemmas.Map.Lookups.{exact_bytes}
use Rattle.std.proofs.lemmas.Map.Keys.{sorted_head, sorted_tail}
use Rattle.std.proofs.lemmas.List.Elements.{Contains-append_right, Contains-append_cases, Contains-push_cases}
use Rattle.fwd_backlog.specs.declared.listed_file.Listed.{Listed}
use Rattle.fwd_backlog.specs.Listing.{by_name, in_order}

-- x is one of the elements
abbrev pub Among : {X : Type 0} → X → List X → Type 0
Among x [] = ⊥
Among x (y ∷ ys) = (y ≡ x) ⊎ Among x ys

pub contains_of : {X : Type 0} (x : X) (xs : List X) → Among x xs → Contains xs x
contains_of x [] h = absurd h
contains_of {X = X} x (y ∷ ys) (inl is) = Contains-append_left-one is
  where
    Contains-append_left-one : y ≡ x → Contains (y ∷ ys) x
    Contains-append_left-one e = (0, omega arith, e)
contains_of x (y ∷ ys) (inr h) = Contains-append_right (y ∷ []) ys x (contains_of x ys h)

pub among_of : {X : Type 0} (x : X) (xs : List X) → Contains xs x → Among x xs
among_of x [] h = absurd (omega (arith, h.1))
among_of x (y ∷ ys) h = elim (Contains-append_cases (y ∷ []) ys x h) [
  | inl one ↦ elim (Contains-push_cases [] y x one) [ inl none ↦ absurd (omega (arith, none.1)) | inr is ↦ inl is ]
  | inr more ↦ inr (among_of x ys more)
]

module _ {K : Type 0} (R : K → K → Ordering) (o : IsTotalOrder R) where
  below : (k x : K) → R k x ≡ Less → (xs : List K) → AllByRecursion (λ y. R x y ≡ Less) xs → AllByRecursion (λ y. R k y ≡ Less) xs
  below k x lt [] all = tt
  below k x lt (y ∷ ys) all = (o.trans k x y lt all.0, below k x lt ys all.1)

  insert_below : (x k : K) → R x k ≡ Less → (xs : List K) → AllByRecursion (λ y. R x y ≡ Less) xs → AllByRecursion (λ y. R x y ≡ Less) (insert_key R xs k)
  insert_below x k lt [] all = (lt, tt)
  insert_below x k lt (y ∷ ys) all = by (R k y) (insert_below x k lt ys all.1)
    where
      by : (r : Ordering) → AllByRecursion (λ z. R x z ≡ Less) (insert_key R ys k) → AllByRecursion (λ z. R x z ≡ Less) (match_ordering r (k ∷ y ∷ ys) (y ∷ ys) (y ∷ insert_key R ys k))
      by Less h = (lt, all)
      by Equal h = all
      by Greater h = (all.0, h)

  sorted_cons : (x : K) (xs : List K) → AllByRecursion (λ y. R x y ≡ Less) xs → IsStrictlySortedBy R xs → IsStrictlySortedBy R (x ∷ xs)
  unfolding IsStrictlySortedBy
  sorted_cons x xs all sorted = (all, sorted)

  sorted_none : IsStrictlySortedBy R []
  unfolding IsStrictlySortedBy
  sorted_none = tt

  sorted_insert : (ks : List K) (k : K) → IsStrictlySortedBy R ks → IsStrictlySortedBy R (insert_key R ks k)
  sorted_insert [] k sorted = sorted_cons k [] tt sorted_none
  sorted_insert (x ∷ xs) k sorted = by (R k x) refl (sorted_insert xs k (sorted_tail R x xs sorted))
    where
      by : (r : Ordering) → R k x ≡ r → IsStrictlySortedBy R (insert_key R xs k) → IsStrictlySortedBy R (match_ordering r (k ∷ x ∷ xs) (x ∷ xs) (x ∷ insert_key R xs k))
      by Less is h = sorted_cons k (x ∷ xs) (is, below k x is xs (sorted_head R x xs sorted)) sorted
      by Equal is h = sorted
      by Greater is h = sorted_cons x (insert_key R xs k) (insert_below x k (o.antisymm x k ∙ ap ordering_reverse is) xs (sorted_head R x xs sorted)) h

  pub sorted_fold : (so_far files : List K) → IsStrictlySortedBy R so_far → IsStrictlySortedBy R (fold (insert_key R) so_far files)
  sorted_fold so_far [] sorted = sorted
  sorted_fold so_far (file ∷ files) sorted = sorted_fold (insert_key R so_far file) files (sorted_insert so_far file sorted)

  pub sorted_all : (files : List K) → IsStrictlySortedBy R (fold (insert_key R) [] files)
  sorted_all files = sorted_fold [] files sorted_none

module _ {K : Type 0} (R : K → K → Ordering) (exact : (x y : K) → R x y ≡ Equal → x ≡ y) where
  kept : (z k : K) (ks : List K) → Among z ks → Among z (insert_key R ks k)
  kept z k [] h = absurd h
  kept z k (x ∷ xs) h = by (R k x) (kept z k xs)
    where
      by : (r : Ordering) → (Among z xs → Among z (insert_key R xs k)) → Among z (match_ordering r (k ∷ x ∷ xs) (x ∷ xs) (x ∷ insert_key R xs k))
      by Less more = inr h
      by Equal more = h
      by Greater more = elim h [ inl is ↦ inl is | inr in_rest ↦ inr (more in_rest) ]

  put : (k : K) (ks : List K) → Among k (insert_key R ks k)
  put k [] = inl refl
  put k (x ∷ xs) = by (R k x) refl (put k xs)
    where
      by : (r : Ordering) → R k x ≡ r → Among k (insert_key R xs k) → Among k (match_ordering r (k ∷ x ∷ xs) (x ∷ xs) (x ∷ insert_key R xs k))
      by Less is h = inl refl
      by Equal is h = inl (sym (exact k x is))
      by Greater is h = inr h

  only : (z k : K) (ks : List K) → Among z (insert_key R ks k) → Among z ks ⊎ (k ≡ z)
  only z k [] (inl is) = inr is
  only z k [] (inr h) = absurd h
  only z k (x ∷ xs) h = by (R k x) (only z k xs) h
    where
      by : (r : Ordering) → (Among z (insert_key R xs k) → Among z xs ⊎ (k ≡ z)) → Among z (match_ordering r (k ∷ x ∷ xs) (x ∷ xs) (x ∷ insert_key R xs k)) → Among z (x ∷ xs) ⊎ (k ≡ z)
      by Less more (inl is) = inr is
      by Less more (inr g) = inl g
      by Equal more g = inl g
      by Greater more (inl is) = inl (inl is)
      by Greater more (inr g) = elim (more g) [ inl in_rest ↦ inl (inr in_rest) | inr is ↦ inr is ]

  kept_by_all : (z : K) (so_far files : List K) → Among z so_far → Among z (fold (insert_key R) so_far files)
  kept_by_all z so_far [] h = h
  kept_by_all z so_far (file ∷ files) h = kept_by_all z (insert_key R so_far file) files (kept z file so_far h)

  put_by_all : (z : K) (so_far files : List K) → Among z files → Among z (fold (insert_key R) so_far files)
  put_by_all z so_far [] h = absurd h
  put_by_all z so_far (file ∷ files) (inl is) =
      kept_by_all z (insert_key R so_far file) files (subst (λ (x : K). Among x (insert_key R so_far file)) is (put file so_far))
  put_by_all z so_far (file ∷ files) (inr h) = put_by_all z (insert_key R so_far file) files h

  only_by_all : (z : K) (so_far files : List K) → Among z (fold (insert_key R) so_far files) → Among z so_far ⊎ Among z files
  only_by_all z so_far [] h = inl h
  only_by_all z so_far (file ∷ files) h = elim (only_by_all z (insert_key R so_far file) files h) [
    | inl early ↦ elim (only z file so_far early) [ inl old ↦ inl old | inr is ↦ inr (inl is) ]
    | inr later ↦ inr (inr later)
  ]

  pub same_elements : (files : List K) (z : K) → Contains (fold (insert_key R) [] files) z ↔ Contains files z
  same_elements files z = (
    λ h. elim (only_by_all z [] files (among_of z (fold (insert_key R) [] files) h)) [ inl none ↦ absurd none | inr g ↦ contains_of z files g ],
    λ h. contains_of z (fold (insert_key R) [] files) (put_by_all z [] files (among_of z files h)),
  )

both_equal : (a b : Ordering) → ordering_then a b ≡ Equal → (a ≡ Equal) × (b ≡ Equal)
both_equal Less b is = absurd (cc is)
both_equal Equal b is = (refl, is)
both_equal Greater b is = absurd (cc is)

exact : (x y : Listed) → by_name x y ≡ Equal → x ≡ y
exact x y is =
    let both = both_equal (slice_cmp nat_cmp x.name y.name) (slice_cmp nat_cmp x.stream y.stream) is in
    let names = exact_bytes x.name y.name both.0 in
    let streams = exact_bytes x.stream y.stream both.1 in
    (λ i. record { name = names i; stream = streams i })

pub total : IsTotalOrder by_name
total = then_total (on_texts (λ (x : Listed). x.name)) (on_texts (λ (x : Listed). x.stream))

pub sorted : (files : List Listed) → IsStrictlySortedBy by_name (in_order files)
sorted files = sorted_all by_name total files

pub same_files : (files : List Listed) (file : Listed) → Contains (in_order files) file ↔ Contains files file
same_files files file = same_elements by_name exact files file
