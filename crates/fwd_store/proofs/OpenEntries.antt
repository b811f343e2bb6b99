-- The open chunks as the entries of a map.
use Rattle.std.proofs.Common.{◌≡◌, ℕ, zero, suc, ◌<◌, ◌≤◌, ◌+◌, ◌==◌, ◌&&◌, nat_lt, Bool, true, false, not, cond, if◌then◌else◌, List, [], ◌∷◌, ◌++◌, map, filter, drop, length, Option, Some, None, is_some, slice_get, position, refl, ◌∙◌, ap, arith}
use Rattle.std.specs.List.{position_or_len, AllByRecursion, IsDistinct}
use Rattle.std.specs.Map.{lookup, keys_of}
use Rattle.std.specs.Str.{bytes_eq}
use Rattle.fwd_store.specs.declared.open_chunks.Source.{Source}
use Rattle.fwd_store.specs.SameSource.{same}
use Rattle.fwd_store.specs.Source.{opened_at}
use Rattle.fwd_store.specs.OpenChunk.{Opened, is_for, open_for, without, first_of}

-- a chunk found by its key
pub found : (input : ℕ) (tag : List ℕ) (test : Source → Bool) → ((s : Source) (n : ℕ) → test s ≡ is_for input tag (opened_at (s, n))) → (es : List (Source × ℕ)) → lookup test es ≡ open_for (map opened_at es) input tag
found input tag test same [] = refl
found input tag test same (e ∷ es) =
    ap (λ (b : Bool). cond b (Some e.1) (lookup test es)) (same e.0 e.1)
    ∙ ap (λ (rest : Option ℕ). cond (is_for input tag (opened_at e)) (Some e.1) rest) (found input tag test same es)

-- a new one is after the others
pub one_more : (es : List (Source × ℕ)) (e : Source × ℕ) → map opened_at (es ++ e ∷ []) ≡ map opened_at es ++ opened_at e ∷ []
one_more [] e = refl
one_more (x ∷ es) e = ap (λ (l : List Opened). opened_at x ∷ l) (one_more es e)

-- all but one
pub others : (n : ℕ) (es : List (Source × ℕ)) → map opened_at (filter (λ e. not (e.1 == n)) es) ≡ without n (map opened_at es)
others n [] = refl
others n (e ∷ es) = by (not (e.1 == n)) (others n es)
  where
    by : (b : Bool) → map opened_at (filter (λ e. not (e.1 == n)) es) ≡ without n (map opened_at es)
        → map opened_at (if b then e ∷ filter (λ e. not (e.1 == n)) es else filter (λ e. not (e.1 == n)) es) ≡ (if b then opened_at e ∷ without n (map opened_at es) else without n (map opened_at es))
    by true rest = ap (λ (l : List Opened). opened_at e ∷ l) rest
    by false rest = rest

-- The first ones are closed. The first of the others is at their end.
abbrev number : Option (Source × ℕ) → Option ℕ
number None = None
number (Some e) = Some e.1

first_open : (c : ℕ) (es : List (Source × ℕ)) → number (slice_get es c) ≡ first_of (map opened_at (drop c es))
first_open zero [] = refl
first_open zero (e ∷ es) = refl
first_open (suc c) [] = refl
first_open (suc c) (e ∷ es) = first_open c es

pub first_at : (c : ℕ) (es : List (Source × ℕ)) (s : Source) (n : ℕ) → Some (s, n) ≡ slice_get es c → Some n ≡ first_of (map opened_at (drop c es))
first_at c es s n is = ap number is ∙ first_open c es

pub none_at : (c : ℕ) (es : List (Source × ℕ)) → None ≡ slice_get es c → None ≡ first_of (map opened_at (drop c es))
none_at c es is = ap number is ∙ first_open c es

-- one more is closed
next_open : (c : ℕ) (es : List (Source × ℕ)) → map opened_at (drop (suc c) es) ≡ drop 1 (map opened_at (drop c es))
next_open zero [] = refl
next_open zero (e ∷ es) = refl
next_open (suc c) [] = refl
next_open (suc c) (e ∷ es) = next_open c es

pub one_less : (c : ℕ) (es : List (Source × ℕ)) → map opened_at (drop (c + 1) es) ≡ drop 1 (map opened_at (drop c es))
one_less c es = ap (λ (n : ℕ). map opened_at (drop n es)) (let one : c + 1 ≡ suc c = omega arith in one) ∙ next_open c es

pub none_open : (c : ℕ) (es : List (Source × ℕ)) → length es ≤ c → map opened_at (drop c es) ≡ drop 1 (map opened_at (drop c es))
none_open zero [] le = refl
none_open zero (e ∷ es) le = absurd (omega (arith, le))
none_open (suc c) [] le = refl
none_open (suc c) (e ∷ es) le = none_open c es (omega (arith, le))

-- a new one is after the others that are open
pub one_more_open : (c : ℕ) (es : List (Source × ℕ)) (e : Source × ℕ) → c ≤ length es → map opened_at (drop c (es ++ e ∷ [])) ≡ map opened_at (drop c es) ++ opened_at e ∷ []
one_more_open zero es e le = one_more es e
one_more_open (suc c) [] e le = absurd (omega (arith, le))
one_more_open (suc c) (x ∷ es) e le = one_more_open c es e (omega (arith, le))

pub none_is : {T : Type 0} (o : Option T) → is_some o ≡ false → o ≡ None
none_is None is = refl
none_is (Some x) is = absurd (cc is)

module _ (test : Source → Bool) where
  -- a source without an entry isn't open
  pub not_there : (c : ℕ) (es : List (Source × ℕ)) → lookup test es ≡ None → lookup test (drop c es) ≡ None
  not_there zero es is = is
  not_there (suc c) [] is = refl
  not_there (suc c) (e ∷ es) is = not_there c es (by (test e.0) is)
    where
      by : (b : Bool) → cond b (Some e.1) (lookup test es) ≡ None → lookup test es ≡ None
      by true is = absurd (cc is)
      by false is = is

  -- an entry whose first match is after the closed ones is open
  pub still_open : (c : ℕ) (es : List (Source × ℕ)) → c ≤ position_or_len test (keys_of es) → lookup test es ≡ lookup test (drop c es)
  still_open zero es le = refl
  still_open (suc c) [] le = refl
  still_open (suc c) (e ∷ es) le = by (test e.0) le (still_open c es)
    where
      by : (b : Bool) → suc c ≤ cond (not b) (1 + position_or_len test (keys_of es)) 0 → (c ≤ position_or_len test (keys_of es) → lookup test es ≡ lookup test (drop c es)) → cond b (Some e.1) (lookup test es) ≡ lookup test (drop c es)
      by true le rest = absurd (omega (arith, le))
      by false le rest = rest (omega (arith, le))

  pub place_is : (es : List (Source × ℕ)) (i : ℕ) → Some i ≡ position test (keys_of es) → position_or_len test (keys_of es) ≡ i
  place_is es i = by (nat_lt (position_or_len test (keys_of es)) (length (keys_of es)))
    where
      by : (b : Bool) → Some i ≡ cond b (Some (position_or_len test (keys_of es))) None → position_or_len test (keys_of es) ≡ i
      by true is = cc is
      by false is = absurd (cc is)

abbrev pub is_of : ℕ → List ℕ → Source → Bool
is_of input tag s = (input == s.input.0) && bytes_eq tag s.tag.items

abbrev pub same_source : Source → Source → Bool
same_source s t = is_of s.input.0 s.tag.items t

module _ (input : ℕ) (tag : List ℕ) where
  -- no other entry has the source
  no_other : (s : Source) (es : List (Source × ℕ)) → is_of input tag s ≡ true → AllByRecursion (λ t. same_source s t ≡ false) (keys_of es) → lookup (is_of input tag) es ≡ None
  no_other s [] is all = refl
  no_other s (e ∷ es) is all =
      ap (λ (b : Bool). cond b (Some e.1) (lookup (is_of input tag) es)) (same (λ i t. is_of i t e.0) input s.input.0 tag s.tag.items is ∙ all.0) ∙ no_other s es is all.1

  -- an entry among the closed ones isn't open
  pub not_open : (c : ℕ) (es : List (Source × ℕ)) → IsDistinct same_source (keys_of es) → position_or_len (is_of input tag) (keys_of es) < c → lookup (is_of input tag) (drop c es) ≡ None
  unfolding IsDistinct
  not_open zero es distinct less = absurd (omega (arith, less))
  not_open (suc c) [] distinct less = refl
  not_open (suc c) (e ∷ es) distinct less =
      by (is_of input tag e.0) refl less (λ is. not_there (is_of input tag) c es (no_other e.0 es is distinct.0)) (not_open c es distinct.1)
    where
      by : (b : Bool) → is_of input tag e.0 ≡ b → cond (not b) (1 + position_or_len (is_of input tag) (keys_of es)) 0 < suc c
          → (is_of input tag e.0 ≡ true → lookup (is_of input tag) (drop c es) ≡ None)
          → (position_or_len (is_of input tag) (keys_of es) < c → lookup (is_of input tag) (drop c es) ≡ None) → lookup (is_of input tag) (drop c es) ≡ None
      by true is less here rest = here is
      by false is less here rest = rest (omega (arith, less))
