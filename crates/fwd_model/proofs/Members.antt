-- Members of lists, of filtered lists and of searches; negated tests.
use Rattle.std.proofs.Common.{◌≡◌, ◌⊎◌, inl, inr, ⊎_elim, zero, suc, Bool, true, false, not, cond, List, [], ◌∷◌, ◌++◌, Option, Some, refl, sym, ◌∙◌, ap, subst, arith}
use Rattle.std.specs.Prelude.{Contains, filter, find, map}
use Rattle.std.specs.List.{flat_map}
use Rattle.std.proofs.lemmas.List.Concat.{flat_map-cons}
use Rattle.std.proofs.lemmas.List.Elements.{Contains-append_left, Contains-append_right, Contains-append_cases, All-contains, All-contains_itself, All-filter, filter_passes}

pub here : {X : Type 0} (x : X) (xs : List X) → Contains (x ∷ xs) x
here x xs = (0, omega arith, refl)

pub deeper : {X : Type 0} (y : X) (xs : List X) (x : X) → Contains xs x → Contains (y ∷ xs) x
deeper y xs x is = Contains-append_right (y ∷ []) xs x is

pub either : {X : Type 0} (y : X) (xs : List X) (x : X) → Contains (y ∷ xs) x → (y ≡ x) ⊎ Contains xs x
either {X = X} y xs x is = ⊎_elim (λ (one : Contains (y ∷ []) x). inl (only one)) (λ (more : Contains xs x). inr more) (Contains-append_cases (y ∷ []) xs x is)
  where
    only : Contains (y ∷ []) x → y ≡ x
    only (zero, in', same) = same
    only (suc k, in', same) = absurd (omega arith)

pub from_filter : {X : Type 0} (test : X → Bool) (xs : List X) (x : X) → Contains (filter test xs) x → Contains xs x × (test x ≡ true)
from_filter {X = X} test xs x has = (
  All-contains (Contains xs) (filter test xs) x (All-filter test (Contains xs) xs (All-contains_itself xs)) has,
  All-contains (λ (y : X). test y ≡ true) (filter test xs) x (filter_passes test xs) has,
)

kept_or_not : {X : Type 0} (b : Bool) (y : X) (kept : List X) (x : X) → Contains kept x → Contains (cond b (y ∷ kept) kept) x
kept_or_not true y kept x has = deeper y kept x has
kept_or_not false y kept x has = has

kept_here : {X : Type 0} (b : Bool) (y : X) (kept : List X) → b ≡ true → Contains (cond b (y ∷ kept) kept) y
kept_here true y kept is = here y kept
kept_here false y kept is = absurd (cc is)

pub in_filter : {X : Type 0} (test : X → Bool) (xs : List X) (x : X) → Contains xs x → test x ≡ true → Contains (filter test xs) x
in_filter test [] x has is = absurd (omega (arith, has.1))
in_filter {X = X} test (y ∷ xs) x has is = by (either y xs x has) (in_filter test xs x)
  where
    by : (y ≡ x) ⊎ Contains xs x → (Contains xs x → test x ≡ true → Contains (filter test xs) x) → Contains (filter test (y ∷ xs)) x
    by (inl same) more = subst (λ (z : X). Contains (filter test (y ∷ xs)) z) same (kept_here (test y) y (filter test xs) (ap test same ∙ is))
    by (inr before) more = kept_or_not (test y) y (filter test xs) x (more before is)

found_or : {X : Type 0} (b : Bool) (y : X) (rest : Option X) (x : X) → cond b (Some y) rest ≡ Some x → ((b ≡ true) × (y ≡ x)) ⊎ (rest ≡ Some x)
found_or true y rest x is = let same : y ≡ x = cc is in inl (refl, same)
found_or false y rest x is = inr is

pub from_find : {X : Type 0} (test : X → Bool) (xs : List X) (x : X) → find test xs ≡ Some x → Contains xs x × (test x ≡ true)
from_find test [] x is = absurd (cc is)
from_find {X = X} test (y ∷ xs) x is = by (found_or (test y) y (find test xs) x is) (from_find test xs x)
  where
    by : ((test y ≡ true) × (y ≡ x)) ⊎ (find test xs ≡ Some x) → (find test xs ≡ Some x → Contains xs x × (test x ≡ true)) → Contains (y ∷ xs) x × (test x ≡ true)
    by (inl first) more = subst (λ (z : X). Contains (y ∷ xs) z × (test z ≡ true)) first.1 (here y xs, first.0)
    by (inr later) more = let there = more later in (deeper y xs x there.0, there.1)

-- ---- negated tests

pub off_where_not : (b : Bool) → not b ≡ true → b ≡ false
off_where_not true is = absurd (cc is)
off_where_not false is = refl

pub not_where_off : (b : Bool) → b ≡ false → not b ≡ true
not_where_off true is = absurd (cc is)
not_where_off false is = refl

pub on_where_off : (b : Bool) → not b ≡ false → b ≡ true
on_where_off true is = refl
on_where_off false is = absurd (cc is)

-- ---- mapped lists

pub from_map : {X Y : Type 0} (f : X → Y) (xs : List X) (y : Y) → Contains (map f xs) y → (x : X) × Contains xs x × (f x ≡ y)
from_map f [] y has = absurd (omega (arith, has.1))
from_map {X = X} {Y = Y} f (x ∷ xs) y has = by (either (f x) (map f xs) y has) (from_map f xs y)
  where
    by : (f x ≡ y) ⊎ Contains (map f xs) y → (Contains (map f xs) y → (z : X) × Contains xs z × (f z ≡ y)) → (z : X) × Contains (x ∷ xs) z × (f z ≡ y)
    by (inl same) more = (x, here x xs, same)
    by (inr later) more = let found = more later in (found.0, deeper x xs found.0 found.1, found.2)

pub from_flat_map : {X Y : Type 0} (f : X → List Y) (xs : List X) (y : Y) → Contains (flat_map f xs) y → (x : X) × Contains xs x × Contains (f x) y
from_flat_map f [] y has = absurd (omega (arith, has.1))
from_flat_map {X = X} {Y = Y} f (x ∷ xs) y has =
    by (Contains-append_cases (f x) (flat_map f xs) y (subst (λ (l : List Y). Contains l y) (flat_map-cons f x xs) has)) (from_flat_map f xs y)
  where
    by : Contains (f x) y ⊎ Contains (flat_map f xs) y → (Contains (flat_map f xs) y → (z : X) × Contains xs z × Contains (f z) y) → (z : X) × Contains (x ∷ xs) z × Contains (f z) y
    by (inl now) more = (x, here x xs, now)
    by (inr later) more = let found = more later in (found.0, deeper x xs found.0 found.1, found.2)

pub in_map : {X Y : Type 0} (f : X → Y) (xs : List X) (x : X) → Contains xs x → Contains (map f xs) (f x)
in_map f [] x has = absurd (omega (arith, has.1))
in_map {X = X} {Y = Y} f (y ∷ xs) x has = by (either y xs x has) (in_map f xs x)
  where
    by : (y ≡ x) ⊎ Contains xs x → (Contains xs x → Contains (map f xs) (f x)) → Contains (map f (y ∷ xs)) (f x)
    by (inl same) more = subst (λ (z : X). Contains (map f (y ∷ xs)) (f z)) same (here (f y) (map f xs))
    by (inr later) more = deeper (f y) (map f xs) (f x) (more later)

pub in_flat_map : {X Y : Type 0} (f : X → List Y) (xs : List X) (x : X) (y : Y) → Contains xs x → Contains (f x) y → Contains (flat_map f xs) y
in_flat_map f [] x y has is = absurd (omega (arith, has.1))
in_flat_map {X = X} {Y = Y} f (z ∷ xs) x y has is =
    subst (λ (l : List Y). Contains l y) (sym (flat_map-cons f z xs)) (by (either z xs x has) (in_flat_map f xs x y))
  where
    by : (z ≡ x) ⊎ Contains xs x → (Contains xs x → Contains (f x) y → Contains (flat_map f xs) y) → Contains (f z ++ flat_map f xs) y
    by (inl same) more = Contains-append_left (f z) (flat_map f xs) y (subst (λ (w : X). Contains (f w) y) (sym same) is)
    by (inr later) more = Contains-append_right (f z) (flat_map f xs) y (more later is)
