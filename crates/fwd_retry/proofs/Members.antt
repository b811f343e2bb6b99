-- Members of lists.
use Rattle.std.proofs.Common.{◌≡◌, ◌⊎◌, inl, inr, ◌+◌, ◌<◌, ◌≤◌, Bool, true, false, not, cond, List, [], ◌∷◌, length, refl, subst, ap, arith}
use Rattle.std.specs.Prelude.{Contains, filter}
use Rattle.std.proofs.lemmas.List.Filters.{length-filter_both}
use Rattle.std.proofs.lemmas.List.Elements.{Contains-append_left, Contains-append_right, Contains-append_cases, Contains-push, Contains-push_cases, All-contains, All-contains_itself, All-filter, filter_passes}

pub not_of_none : {X : Type 0} (x : X) → Contains [] x → ⊥
not_of_none x within = let less : within.0 < 0 = within.1 in omega (arith, less)

pub member_here : {X : Type 0} (x : X) (xs : List X) → Contains (x ∷ xs) x
member_here x xs = Contains-append_left (x ∷ []) xs x (Contains-push [] x)

pub member_behind : {X : Type 0} (x : X) (xs : List X) (y : X) → Contains xs y → Contains (x ∷ xs) y
member_behind x xs y within = Contains-append_right (x ∷ []) xs y within

pub member_cases : {X : Type 0} (x : X) (xs : List X) (y : X) → Contains (x ∷ xs) y → (x ≡ y) ⊎ Contains xs y
member_cases x xs y within = by (Contains-append_cases (x ∷ []) xs y within)
  where
    alone : Contains [] y ⊎ (x ≡ y) → (x ≡ y) ⊎ Contains xs y
    alone (inl none) = absurd (not_of_none y none)
    alone (inr same) = inl same

    by : Contains (x ∷ []) y ⊎ Contains xs y → (x ≡ y) ⊎ Contains xs y
    by (inl here) = alone (Contains-push_cases [] x y here)
    by (inr behind) = inr behind

pub filter_member : {X : Type 0} (p : X → Bool) (xs : List X) (x : X) → Contains (filter p xs) x → Contains xs x × (p x ≡ true)
filter_member p xs x within =
    (All-contains (Contains xs) (filter p xs) x (All-filter p (Contains xs) xs (All-contains_itself xs)) within, All-contains (λ y. p y ≡ true) (filter p xs) x (filter_passes p xs) within)

kept_by : {X : Type 0} (p : X → Bool) (y : X) (xs : List X) (x : X) (test : Bool) → p y ≡ test → p x ≡ true → (Contains xs x → Contains (filter p xs) x) → (y ≡ x) ⊎ Contains xs x → Contains (cond test (y ∷ filter p xs) (filter p xs)) x
kept_by p y xs x true is passes rest (inl same) = subst (λ z. Contains (y ∷ filter p xs) z) same (member_here y (filter p xs))
kept_by p y xs x true is passes rest (inr behind) = member_behind y (filter p xs) x (rest behind)
kept_by p y xs x false is passes rest (inl same) = let other : p y ≡ p x = ap p same in absurd (cc (is, other, passes))
kept_by p y xs x false is passes rest (inr behind) = rest behind

pub member_filter : {X : Type 0} (p : X → Bool) (xs : List X) (x : X) → Contains xs x → p x ≡ true → Contains (filter p xs) x
member_filter p [] x within passes = within
member_filter p (y ∷ xs) x within passes =
    kept_by p y xs x (p y) refl passes (λ behind. member_filter p xs x behind passes) (member_cases y xs x within)

-- a list is longer than what a filter keeps of it, if it drops something
pub shorter_without : {X : Type 0} (p : X → Bool) (xs : List X) (x : X) → Contains xs x → p x ≡ true → length (filter (λ y. not (p y)) xs) + 1 ≤ length xs
shorter_without p xs x within passes =
    let kept = member_filter p xs x within passes in
    let some : kept.0 < length (filter p xs) = kept.1 in
    omega (arith, some, length-filter_both p (λ y. not (p y)) (λ _. refl) xs)
