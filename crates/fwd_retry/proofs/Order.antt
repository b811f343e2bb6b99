-- The order of timers is total, and the first of a list comes before none of it.
use Rattle.std.proofs.Common.{◌≡◌, ◌⊎◌, inl, inr, Bool, true, false, List, [], ◌∷◌, Option, Some, None, refl, sym, subst, ◌∙◌, arith}
use Rattle.std.specs.Prelude.{Contains, fold, MatchOption, if◌then◌else◌}
use Rattle.std.proofs.lemmas.Bool.Decides.{nat_tests}
use Rattle.fwd_retry.specs.declared.timer.Timer.{Timer}
use Rattle.fwd_retry.specs.Timer.{is_before, earlier, first, IsFirst}
use Rattle.fwd_retry.proofs.Members.{member_cases, member_here, member_behind, not_of_none}

pub not_before_itself : (a : Timer) → is_before a a ≡ false
not_before_itself a = grind (arith, nat_tests)

not_before_later : (a b : Timer) → is_before a b ≡ true → is_before b a ≡ false
not_before_later a b before = grind (arith, nat_tests)

pub not_before_through : (a b c : Timer) → is_before b a ≡ false → is_before c b ≡ false → is_before c a ≡ false
not_before_through a b c first second = grind (arith, nat_tests)

record IsEarlier (a b e : Timer) : Type 0 where
  pub one : (e ≡ a) ⊎ (e ≡ b)
  pub left : is_before a e ≡ false
  pub right : is_before b e ≡ false

earlier_by : (test : Bool) (a b : Timer) → is_before b a ≡ test → IsEarlier a b (if test then b else a)
earlier_by true a b is = record { one = inr refl; left = not_before_later b a is; right = not_before_itself b }
earlier_by false a b is = record { one = inl refl; left = not_before_itself a; right = is }

is_earlier : (a b : Timer) → IsEarlier a b (earlier (Some a) b)
is_earlier a b = earlier_by (is_before b a) a b refl

-- a step of the search for the first one
first_with : (a b e t : Timer) (timers : List Timer) → IsEarlier a b e → IsFirst (e ∷ timers) t → IsFirst (a ∷ b ∷ timers) t
first_with a b e t timers step found = record { member = member (member_cases e timers t found.member); none_before = before }
  where
    member_one : (e ≡ a) ⊎ (e ≡ b) → e ≡ t → Contains (a ∷ b ∷ timers) t
    member_one (inl is) same = subst (λ (x : Timer). Contains (a ∷ b ∷ timers) x) (sym is ∙ same) (member_here a (b ∷ timers))
    member_one (inr is) same = subst (λ (x : Timer). Contains (a ∷ b ∷ timers) x) (sym is ∙ same) (member_behind a (b ∷ timers) b (member_here b timers))

    member : (e ≡ t) ⊎ Contains timers t → Contains (a ∷ b ∷ timers) t
    member (inl same) = member_one step.one same
    member (inr behind) = member_behind a (b ∷ timers) t (member_behind b timers t behind)

    not_before : is_before e t ≡ false
    not_before = found.none_before e (member_here e timers)

    before_rest : (other : Timer) → (b ≡ other) ⊎ Contains timers other → is_before other t ≡ false
    before_rest other (inl same) = subst (λ (x : Timer). is_before x t ≡ false) same (not_before_through t e b not_before step.right)
    before_rest other (inr behind) = found.none_before other (member_behind e timers other behind)

    before_any : (other : Timer) → (a ≡ other) ⊎ Contains (b ∷ timers) other → is_before other t ≡ false
    before_any other (inl same) = subst (λ (x : Timer). is_before x t ≡ false) same (not_before_through t e a not_before step.left)
    before_any other (inr behind) = before_rest other (member_cases b timers other behind)

    before : (other : Timer) → Contains (a ∷ b ∷ timers) other → is_before other t ≡ false
    before other within = before_any other (member_cases a (b ∷ timers) other within)

alone : (a : Timer) → IsFirst (a ∷ []) a
alone a = record { member = member_here a []; none_before = λ other within. only other (member_cases a [] other within) }
  where
    only : (other : Timer) → (a ≡ other) ⊎ Contains [] other → is_before other a ≡ false
    only other (inl same) = subst (λ (x : Timer). is_before x a ≡ false) same (not_before_itself a)
    only other (inr none) = absurd (not_of_none other none)

found_first : (a : Timer) (timers : List Timer) → MatchOption (fold (λ found timer. Some (earlier found timer)) (Some a) timers) ⊥ (IsFirst (a ∷ timers))
found_first a [] = alone a
found_first a (b ∷ timers) = step (fold (λ found timer. Some (earlier found timer)) (Some (earlier (Some a) b)) timers) (found_first (earlier (Some a) b) timers)
  where
    step : (found : Option Timer) → MatchOption found ⊥ (IsFirst (earlier (Some a) b ∷ timers)) → MatchOption found ⊥ (IsFirst (a ∷ b ∷ timers))
    step None none = none
    step (Some t) is = first_with a b (earlier (Some a) b) t timers (is_earlier a b) is

pub first_is_first : (timers : List Timer) → MatchOption (first timers) (timers ≡ []) (IsFirst timers)
first_is_first [] = refl
first_is_first (a ∷ timers) = some (fold (λ found timer. Some (earlier found timer)) (Some a) timers) (found_first a timers)
  where
    some : (found : Option Timer) → MatchOption found ⊥ (IsFirst (a ∷ timers)) → MatchOption found (a ∷ timers ≡ []) (IsFirst (a ∷ timers))
    some None none = absurd none
    some (Some t) is = is
