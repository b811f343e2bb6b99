-- The counts of the open levels, from the innermost on.
use Rattle.std.proofs.Common.{◌≡◌, ◌≢◌, ℕ, zero, suc, ◌+◌, ◌-◌, ◌≤◌, ◌<◌, List, [], ◌∷◌, length, get_or, set, refl, sym, ap, subst, ◌∙◌, arith}
use Rattle.std.proofs.lemmas.List.{get_or-set_same, get_or-set_other}
use Rattle.fwd_msgpack.specs.Levels.{innermost_counts, MissesOne, one_less, closed}
use Rattle.fwd_msgpack.specs.SmallValues.{innermost, fewer}

pub length_first : (counts : List ℕ) (n : ℕ) → length (innermost_counts counts n) ≡ n
length_first counts zero = refl
length_first counts (suc n) = ap suc (length_first counts n)

-- a count past the open levels has no effect
unseen : (counts : List ℕ) (n i y : ℕ) → n ≤ i → innermost_counts (set counts i y) n ≡ innermost_counts counts n
unseen counts zero i y le = refl
unseen counts (suc n) i y le =
    let other : n ≢ i = omega arith in
    rw (get_or-set_other counts i n y 0 other) (ap (λ (ns : List ℕ). get_or counts n 0 ∷ ns) (unseen counts n i y (omega arith)))

pub pushed : (counts : List ℕ) (n y : ℕ) → n < length counts → innermost_counts (set counts n y) (n + 1) ≡ y ∷ innermost_counts counts n
pushed counts n y lt =
    let e : n + 1 ≡ suc n = omega arith in
    rw (e, get_or-set_same counts n y 0 lt) (ap (λ (ns : List ℕ). y ∷ ns) (unseen counts n n y (omega arith)))

one_less_is : (k : ℕ) (ns : List ℕ) → MissesOne (k ∷ ns) → one_less (k ∷ ns) ≡ (k - 1) ∷ ns
one_less_is zero ns w = absurd w
one_less_is (suc k) ns w = let e : k ≡ suc k - 1 = omega arith in ap (λ (i : ℕ). i ∷ ns) e

taken_at : (counts : List ℕ) (n : ℕ) → n < length counts → MissesOne (innermost_counts counts (suc n)) → innermost_counts (set counts n (get_or counts n 0 - 1)) (suc n) ≡ one_less (innermost_counts counts (suc n))
taken_at counts n lt w =
    let y = get_or counts n 0 - 1 in
    rw (get_or-set_same counts n y 0 lt) (ap (λ (ns : List ℕ). y ∷ ns) (unseen counts n n y (omega arith)) ∙ sym (one_less_is (get_or counts n 0) (innermost_counts counts n) w))

pub taken : (counts : List ℕ) (n : ℕ) → n ≤ length counts → MissesOne (innermost_counts counts n) → innermost_counts (set counts (n - 1) (get_or counts (n - 1) 0 - 1)) n ≡ one_less (innermost_counts counts n)
taken counts zero le w = absurd w
taken counts (suc n) le w =
    let e : n ≡ suc n - 1 = omega arith in
    subst (λ (i : ℕ). innermost_counts (set counts i (get_or counts i 0 - 1)) (suc n) ≡ one_less (innermost_counts counts (suc n))) e (taken_at counts n (omega arith) w)

pub some_open : (counts : List ℕ) (n : ℕ) → MissesOne (innermost_counts counts n) → (0 < n) × (0 < get_or counts (n - 1) 0)
some_open counts zero w = absurd w
some_open counts (suc n) w = let e : suc n - 1 ≡ n = omega arith in (omega arith, rw e (some (get_or counts n 0) (innermost_counts counts n) w))
  where
    some : (k : ℕ) (ns : List ℕ) → MissesOne (k ∷ ns) → 0 < k
    some zero ns w = absurd w
    some (suc k) ns w = omega arith

closed_some : (k : ℕ) (ns : List ℕ) → 0 < k → closed (k ∷ ns) ≡ k ∷ ns
closed_some zero ns lt = absurd (omega arith)
closed_some (suc k) ns lt = refl

pub closed_there : (counts : List ℕ) (n : ℕ) → 0 < n → 0 < get_or counts (n - 1) 0 → closed (innermost_counts counts n) ≡ innermost_counts counts n
closed_there counts zero lt some = absurd (omega arith)
closed_there counts (suc n) lt some =
    let e : suc n - 1 ≡ n = omega arith in
    let here : 0 < get_or counts n 0 = rw (← e) some in
    closed_some (get_or counts n 0) (innermost_counts counts n) here

pub closed_on : (counts : List ℕ) (n : ℕ) → 0 < n → get_or counts (n - 1) 0 ≤ 0 → closed (innermost_counts counts (n - 1)) ≡ closed (innermost_counts counts n)
closed_on counts zero lt none = absurd (omega arith)
closed_on counts (suc n) lt none =
    let e : suc n - 1 ≡ n = omega arith in
    let here : get_or counts n 0 ≤ 0 = rw (← e) none in
    let is : get_or counts n 0 ≡ 0 = omega (arith, here) in
    rw (e, is) refl

pub innermost_some : (counts : List ℕ) (n k : ℕ) → k < innermost (innermost_counts counts n) → (0 < n) × (k < get_or counts (n - 1) 0)
innermost_some counts zero k lt = absurd (omega (arith, lt))
innermost_some counts (suc n) k lt = let e : suc n - 1 ≡ n = omega arith in (omega arith, rw e lt)

pub misses_some : (ns : List ℕ) → MissesOne ns → 0 < innermost ns
misses_some [] w = absurd w
misses_some (zero ∷ ns) w = absurd w
misses_some (suc n ∷ ns) w = omega arith

pub innermost_at : (counts : List ℕ) (n : ℕ) → 0 < n → innermost (innermost_counts counts n) ≡ get_or counts (n - 1) 0
innermost_at counts zero lt = absurd (omega arith)
innermost_at counts (suc n) lt = let e : n ≡ suc n - 1 = omega arith in ap (λ (i : ℕ). get_or counts i 0) e

pub taken_many : (counts : List ℕ) (n k : ℕ) → n ≤ length counts → 0 < n → innermost_counts (set counts (n - 1) (get_or counts (n - 1) 0 - k)) n ≡ fewer k (innermost_counts counts n)
taken_many counts zero k le lt = absurd (omega arith)
taken_many counts (suc n) k le lt =
    let e : n ≡ suc n - 1 = omega arith in
    subst (λ (i : ℕ). innermost_counts (set counts i (get_or counts i 0 - k)) (suc n) ≡ fewer k (innermost_counts counts (suc n))) e
    (let y = get_or counts n 0 - k in
    rw (get_or-set_same counts n y 0 (omega arith)) (ap (λ (ns : List ℕ). y ∷ ns) (unseen counts n n y (omega arith))))

some_missed : (k : ℕ) (ns : List ℕ) → 0 < k → MissesOne (k ∷ ns)
some_missed zero ns lt = absurd (omega (arith, lt))
some_missed (suc k) ns lt = tt

pub fewer_missed : (ns : List ℕ) (k : ℕ) → k < innermost ns → MissesOne (fewer k ns)
fewer_missed [] k lt = absurd (omega (arith, lt))
fewer_missed (n ∷ ns) k lt = some_missed (n - k) ns (omega (arith, lt))
