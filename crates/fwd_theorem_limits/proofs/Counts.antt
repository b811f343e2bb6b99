-- How many members of a list pass a test.
use Rattle.std.proofs.Common.{◌≡◌, ⊎_elim, ℕ, ◌+◌, ◌<◌, ◌≤◌, ◌&&◌, not, Bool, true, false, cond, List, [], ◌∷◌, ◌++◌, length, filter, map, refl, sym, ◌∙◌, ap, arith}
use Rattle.std.specs.Prelude.{Contains, ◌==◌}
use Rattle.std.proofs.lemmas.Bool.{eqb-true}
use Rattle.std.proofs.lemmas.List.Elements.{Contains-append_right}
use Rattle.fwd_model.specs.Chunks.{ChunkInfo}
use Rattle.fwd_theorem_trace.specs.Sound.{NumbersRise}
use Rattle.fwd_theorem_trace.proofs.Members.{here, deeper, either}

-- as many pass a stricter test, or fewer
pub count_le : {X : Type 0} (f g : X → Bool) (xs : List X) → ((x : X) → Contains xs x → f x ≡ true → g x ≡ true) → length (filter f xs) ≤ length (filter g xs)
count_le f g [] le = omega arith
count_le {X = X} f g (x ∷ xs) le = by (f x) refl (g x) refl (count_le f g xs (λ y has. le y (deeper x xs y has)))
  where
    by : (a : Bool) → f x ≡ a → (b : Bool) → g x ≡ b → length (filter f xs) ≤ length (filter g xs) → length (cond a (x ∷ filter f xs) (filter f xs)) ≤ length (cond b (x ∷ filter g xs) (filter g xs))
    by true one true two more = omega (arith, more)
    by true one false two more = absurd (cc (sym two ∙ le x (here x xs) one))
    by false one true two more = omega (arith, more)
    by false one false two more = more

pub count_none : {X : Type 0} (f : X → Bool) (xs : List X) → ((x : X) → Contains xs x → f x ≡ false) → length (filter f xs) ≡ 0
count_none f [] none = refl
count_none f (x ∷ xs) none = rw (none x (here x xs)) (count_none f xs (λ y has. none y (deeper x xs y has)))

-- members that don't pass may be appended
pub count_append : {X : Type 0} (f : X → Bool) (xs ys : List X) → ((y : X) → Contains ys y → f y ≡ false) → length (filter f (xs ++ ys)) ≡ length (filter f xs)
count_append f [] ys none = count_none f ys none
count_append {X = X} f (x ∷ xs) ys none = by (f x) (count_append f xs ys none)
  where
    by : (b : Bool) → length (filter f (xs ++ ys)) ≡ length (filter f xs) → length (cond b (x ∷ filter f (xs ++ ys)) (filter f (xs ++ ys))) ≡ length (cond b (x ∷ filter f xs) (filter f xs))
    by true more = omega (arith, more)
    by false more = more

-- the members that pass one test, and whose images pass another
pub count_map : {X Y : Type 0} (p : X → Bool) (f : X → Y) (g : Y → Bool) (xs : List X) → length (filter g (map f (filter p xs))) ≡ length (filter (λ x. p x && g (f x)) xs)
count_map p f g [] = refl
count_map {X = X} {Y = Y} p f g (x ∷ xs) = by (p x) (count_map p f g xs)
  where
    inner : (b : Bool) (some : List Y) (others : List X) → length some ≡ length others → length (cond b (f x ∷ some) some) ≡ length (cond b (x ∷ others) others)
    inner true some others more = omega (arith, more)
    inner false some others more = more

    by : (a : Bool) → length (filter g (map f (filter p xs))) ≡ length (filter (λ y. p y && g (f y)) xs)
        → length (filter g (map f (cond a (x ∷ filter p xs) (filter p xs)))) ≡ length (cond (a && g (f x)) (x ∷ filter (λ y. p y && g (f y)) xs) (filter (λ y. p y && g (f y)) xs))
    by true more = inner (g (f x)) (filter g (map f (filter p xs))) (filter (λ y. p y && g (f y)) xs) more
    by false more = more

pub some_members : {X : Type 0} (xs : List X) (x : X) → Contains xs x → not (length xs == 0) ≡ true
some_members [] x has = absurd (omega (arith, has.1))
some_members (y ∷ ys) x has = by (length (y ∷ ys) == 0) refl
  where
    by : (b : Bool) → (length (y ∷ ys) == 0) ≡ b → not b ≡ true
    by true is = let zero = eqb-true (length (y ∷ ys)) 0 is in absurd (omega (arith, zero))
    by false is = refl

-- ---- chunks

-- chunks of one number are one
pub one_number : (cs : List ChunkInfo) (c d : ChunkInfo) → NumbersRise cs → Contains cs c → Contains cs d → c.number ≡ d.number → c ≡ d
one_number [] c d rise has other same = absurd (omega (arith, has.1))
one_number (x ∷ cs) c d rise has other same =
    ⊎_elim
    (λ (first : x ≡ c).
    ⊎_elim (λ (second : x ≡ d). sym first ∙ second)
    (λ (later : Contains cs d). let less = rise.0 d later in let number : x.number ≡ c.number = ap (λ (y : ChunkInfo). y.number) first in absurd (omega (arith, less, number, same))) (either x cs d other))
    (λ (later : Contains cs c).
    ⊎_elim (λ (second : x ≡ d). let less = rise.0 c later in let number : x.number ≡ d.number = ap (λ (y : ChunkInfo). y.number) second in absurd (omega (arith, less, number, same)))
    (λ (last : Contains cs d). one_number cs c d rise.1 later last same) (either x cs d other)) (either x cs c has)

pub rise_apart : (cs ds : List ChunkInfo) (c d : ChunkInfo) → NumbersRise (cs ++ ds) → Contains cs c → Contains ds d → c.number < d.number
rise_apart [] ds c d rise has other = absurd (omega (arith, has.1))
rise_apart (x ∷ cs) ds c d rise has other =
    ⊎_elim (λ (first : x ≡ c). let less = rise.0 d (Contains-append_right cs ds d other) in let number : x.number ≡ c.number = ap (λ (y : ChunkInfo). y.number) first in omega (arith, less, number))
    (λ (later : Contains cs c). rise_apart cs ds c d rise.1 later other) (either x cs c has)

-- one chunk may pass in addition
pub count_one : (f g : ChunkInfo → Bool) (n : ℕ) (cs : List ChunkInfo) → NumbersRise cs → ((c : ChunkInfo) → Contains cs c → (c.number == n) ≡ false → f c ≡ true → g c ≡ true) → length (filter f cs) ≤ length (filter g cs) + 1
count_one f g n [] rise le = omega arith
count_one f g n (c ∷ cs) rise le = by (c.number == n) refl (count_one f g n cs rise.1 (λ d has. le d (deeper c cs d has)))
  where
    same : c.number == n ≡ true → length (filter f cs) ≤ length (filter g cs)
    same is =
        let number = eqb-true c.number n is in
        count_le f g cs (λ d has. le d (deeper c cs d has) (apart d has number (d.number == n) refl))
      where
        apart : (d : ChunkInfo) → Contains cs d → c.number ≡ n → (b : Bool) → (d.number == n) ≡ b → b ≡ false
        apart d has number true on_it = let less = rise.0 d has in let other = eqb-true d.number n on_it in absurd (omega (arith, less, number, other))
        apart d has number false off_it = refl

    rest : (a : Bool) → f c ≡ a → (b : Bool) → g c ≡ b → (f c ≡ true → g c ≡ true) → length (filter f cs) ≤ length (filter g cs) + 1
        → length (cond a (c ∷ filter f cs) (filter f cs)) ≤ length (cond b (c ∷ filter g cs) (filter g cs)) + 1
    rest true one true two implies more = omega (arith, more)
    rest true one false two implies more = absurd (cc (sym two ∙ implies one))
    rest false one true two implies more = omega (arith, more)
    rest false one false two implies more = more

    once : (a b : Bool) → length (filter f cs) ≤ length (filter g cs) → length (cond a (c ∷ filter f cs) (filter f cs)) ≤ length (cond b (c ∷ filter g cs) (filter g cs)) + 1
    once true true less = omega (arith, less)
    once true false less = omega (arith, less)
    once false true less = omega (arith, less)
    once false false less = omega (arith, less)

    by : (b : Bool) → (c.number == n) ≡ b → length (filter f cs) ≤ length (filter g cs) + 1 → length (filter f (c ∷ cs)) ≤ length (filter g (c ∷ cs)) + 1
    by true is more = once (f c) (g c) (same is)
    by false is more = rest (f c) refl (g c) refl (le c (here c cs) is) more
