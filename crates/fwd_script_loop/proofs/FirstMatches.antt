-- The first element of a list that passes a test.
use Rattle.std.proofs.Common.{◌≡◌, ℕ, zero, suc, ◌<◌, Bool, true, false, if◌then◌else◌, List, [], ◌∷◌, ◌++◌, length, get_or, find, map, remove, Option, Some, None, option_map, refl, ap, ◌∙◌, arith}
use Rattle.fwd_script_loop.specs.FirstMatch.{IsFirst, without_first}

module _ {X : Type 0} (test : X → Bool) where
  pub further : (x : X) (xs : List X) (place : ℕ) → IsFirst test (x ∷ xs) (suc place) → IsFirst test xs place
  further x xs place is = record { within = omega (arith, is.within); before = λ k d lt. is.before (suc k) d (omega arith); here = is.here }

  -- what is found, whatever follows
  pub find_here : (xs ys : List X) (place : ℕ) (d : X) → IsFirst test xs place → find test (xs ++ ys) ≡ Some (get_or xs place d)
  find_here [] ys place d is = absurd (omega (arith, is.within))
  find_here (x ∷ xs) ys zero d is = ap (λ (b : Bool). if b then Some x else find test (xs ++ ys)) (is.here d)
  find_here (x ∷ xs) ys (suc place) d is =
      ap (λ (b : Bool). if b then Some x else find test (xs ++ ys)) (is.before 0 d (omega arith)) ∙ find_here xs ys place d (further x xs place is)

  pub without_here : (xs ys : List X) (place : ℕ) (d : X) → IsFirst test xs place → without_first test (xs ++ ys) ≡ remove xs place ++ ys
  without_here [] ys place d is = absurd (omega (arith, is.within))
  without_here (x ∷ xs) ys zero d is = ap (λ (b : Bool). if b then xs ++ ys else x ∷ without_first test (xs ++ ys)) (is.here d)
  without_here (x ∷ xs) ys (suc place) d is =
      ap (λ (b : Bool). if b then xs ++ ys else x ∷ without_first test (xs ++ ys)) (is.before 0 d (omega arith))
      ∙ ap (λ (l : List X). x ∷ l) (without_here xs ys place d (further x xs place is))

  pub find_none : (xs : List X) → ((k : ℕ) (d : X) → k < length xs → test (get_or xs k d) ≡ false) → find test xs ≡ None
  find_none [] none = refl
  find_none (x ∷ xs) none =
      ap (λ (b : Bool). if b then Some x else find test xs) (none 0 x (omega arith)) ∙ find_none xs (λ k d lt. none (suc k) d (omega arith))

  none_by : (b : Bool) (x : X) (xs : List X) → test x ≡ b → (if b then Some x else find test xs) ≡ None → (find test xs ≡ None → (k : ℕ) (d : X) → k < length xs → test (get_or xs k d) ≡ false)
      → (k : ℕ) (d : X) → k < length (x ∷ xs) → test (get_or (x ∷ xs) k d) ≡ false
  none_by true x xs is none rest k d lt = absurd (cc none)
  none_by false x xs is none rest zero d lt = is
  none_by false x xs is none rest (suc k) d lt = rest none k d (omega arith)

  pub none_found : (xs : List X) → find test xs ≡ None → (k : ℕ) (d : X) → k < length xs → test (get_or xs k d) ≡ false
  none_found [] none k d lt = absurd (omega arith)
  none_found (x ∷ xs) none k d lt = none_by (test x) x xs refl none (none_found xs) k d lt

  pub first_behind : (xs : List X) (x : X) → find test xs ≡ None → test x ≡ true → IsFirst test (xs ++ x ∷ []) (length xs)
  first_behind [] x none is = record { within = omega arith; before = λ k d lt. absurd (omega arith); here = λ d. is }
  first_behind (y ∷ xs) x none is =
      let all = none_found (y ∷ xs) none in
      let rest = first_behind xs x (find_none xs (λ k d lt. all (suc k) d (omega arith))) is in
      record { within = omega (arith, rest.within); before = behind (all 0 y (omega arith)) rest; here = rest.here }
    where
      behind : test y ≡ false → IsFirst test (xs ++ x ∷ []) (length xs) → (k : ℕ) (d : X) → k < suc (length xs) → test (get_or (y ∷ (xs ++ x ∷ [])) k d) ≡ false
      behind here rest zero d lt = here
      behind here rest (suc k) d lt = rest.before k d (omega arith)

-- under a map
module _ {X Y : Type 0} (test : Y → Bool) (change : X → Y) where
  find_by : (b : Bool) (x : X) (rest : Option X) (more : Option Y) → more ≡ option_map change rest → (if b then Some (change x) else more) ≡ option_map change (if b then Some x else rest)
  find_by true x rest more is = refl
  find_by false x rest more is = is

  pub find_map : (xs : List X) → find test (map change xs) ≡ option_map change (find (λ x. test (change x)) xs)
  find_map [] = refl
  find_map (x ∷ xs) = find_by (test (change x)) x (find (λ y. test (change y)) xs) (find test (map change xs)) (find_map xs)

  without_by : (b : Bool) (x : X) (xs rest : List X) (more : List Y) → more ≡ map change rest → (if b then map change xs else change x ∷ more) ≡ map change (if b then xs else x ∷ rest)
  without_by true x xs rest more is = refl
  without_by false x xs rest more is = ap (λ (l : List Y). change x ∷ l) is

  pub without_map : (xs : List X) → without_first test (map change xs) ≡ map change (without_first (λ x. test (change x)) xs)
  without_map [] = refl
  without_map (x ∷ xs) = without_by (test (change x)) x xs (without_first (λ y. test (change y)) xs) (without_first test (map change xs)) (without_map xs)
