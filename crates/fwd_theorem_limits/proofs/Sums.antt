-- Sums over the members of a list that pass a test.
use Rattle.std.proofs.Common.{◌≡◌, ◌⊎◌, inl, inr, ℕ, ◌+◌, ◌≤◌, ◌&&◌, Bool, true, false, cond, List, [], ◌∷◌, ◌++◌, filter, map, refl, sym, ◌∙◌, ap, arith}
use Rattle.std.specs.Prelude.{Contains, ◌==◌, sum_by}
use Rattle.std.proofs.lemmas.Bool.{eqb-true}
use Rattle.std.proofs.lemmas.List.Sums.{sum_by-cons}
use Rattle.fwd_model.specs.Chunks.{ChunkInfo}
use Rattle.fwd_theorem_trace.specs.Sound.{NumbersRise}
use Rattle.fwd_theorem_trace.proofs.Members.{here, deeper}

-- a member that may count
pub sum_if : {X : Type 0} (f : X → ℕ) (b : Bool) (x : X) (xs : List X) → sum_by f (cond b (x ∷ xs) xs) ≡ cond b (f x) 0 + sum_by f xs
sum_if f true x xs = sum_by-cons f x xs
sum_if f false x xs = omega arith

-- a stricter test gives no larger sum
pub sum_le : {X : Type 0} (f g : X → ℕ) (p q : X → Bool) (xs : List X) → ((x : X) → Contains xs x → p x ≡ true → (q x ≡ true) × (f x ≡ g x)) → sum_by f (filter p xs) ≤ sum_by g (filter q xs)
sum_le f g p q [] le = omega arith
sum_le {X = X} f g p q (x ∷ xs) le = by (p x) refl (q x) refl (sum_le f g p q xs (λ y has. le y (deeper x xs y has)))
  where
    by : (a : Bool) → p x ≡ a → (b : Bool) → q x ≡ b → sum_by f (filter p xs) ≤ sum_by g (filter q xs) → sum_by f (cond a (x ∷ filter p xs) (filter p xs)) ≤ sum_by g (cond b (x ∷ filter q xs) (filter q xs))
    by true one true two more =
        let same = (le x (here x xs) one).1 in
        let first = sum_by-cons f x (filter p xs) in
        let second = sum_by-cons g x (filter q xs) in
        omega (arith, more, same, first, second)
    by true one false two more = absurd (cc (sym two ∙ (le x (here x xs) one).0))
    by false one true two more = let second = sum_by-cons g x (filter q xs) in omega (arith, more, second)
    by false one false two more = more

pub sum_all : {X : Type 0} (f : X → ℕ) (p : X → Bool) (xs : List X) → sum_by f (filter p xs) ≤ sum_by f xs
sum_all f p [] = omega arith
sum_all f p (x ∷ xs) =
    let more = sum_all f p xs in
    let head = sum_if f (p x) x (filter p xs) in
    let all = sum_by-cons f x xs in
    let one = bit (p x) in
    omega (arith, more, head, all, one)
  where
    bit : (b : Bool) → cond b (f x) 0 ≤ f x
    bit true = omega arith
    bit false = omega arith

-- what passes one test passes one of three others, the last of them in two steps
pub sum_three : {X : Type 0} (f : X → ℕ) (p a b d e : X → Bool) (xs : List X) → ((x : X) → p x ≡ true → (a x ≡ true) ⊎ ((b x ≡ true) ⊎ ((d x ≡ true) × (e x ≡ true))))
    → sum_by f (filter p xs) ≤ sum_by f (filter a xs) + (sum_by f (filter b xs) + sum_by f (filter e (filter d xs)))
sum_three f p a b d e [] one_of = omega arith
sum_three {X = X} f p a b d e (x ∷ xs) one_of =
    let more = sum_three f p a b d e xs one_of in
    let head = sum_if f (p x) x (filter p xs) in
    let first = sum_if f (a x) x (filter a xs) in
    let second = sum_if f (b x) x (filter b xs) in
    let third = last (d x) refl in
    let least = enough (p x) refl in
    omega (arith, more, head, first, second, third, least)
  where
    last : (on_it : Bool) → d x ≡ on_it → sum_by f (filter e (filter d (x ∷ xs))) ≡ cond (d x) (cond (e x) (f x) 0) 0 + sum_by f (filter e (filter d xs))
    last true is = rw is (sum_if f (e x) x (filter e (filter d xs)))
    last false is = rw is (omega arith)

    enough : (on_it : Bool) → p x ≡ on_it → cond (p x) (f x) 0 ≤ cond (a x) (f x) 0 + (cond (b x) (f x) 0 + cond (d x) (cond (e x) (f x) 0) 0)
    enough false is = rw is (omega arith)
    enough true is = rw is (by (one_of x is))
      where
        by : (a x ≡ true) ⊎ ((b x ≡ true) ⊎ ((d x ≡ true) × (e x ≡ true))) → f x ≤ cond (a x) (f x) 0 + (cond (b x) (f x) 0 + cond (d x) (cond (e x) (f x) 0) 0)
        by (inl on_it) = rw on_it (omega arith)
        by (inr (inl on_it)) = rw on_it (omega arith)
        by (inr (inr on_it)) = rw (on_it.0, on_it.1) (omega arith)

-- members that don't pass add nothing
pub sum_rest : {X : Type 0} (f : X → ℕ) (p : X → Bool) (xs ys : List X) → ((x : X) → Contains xs x → p x ≡ false) → sum_by f (filter p (xs ++ ys)) ≤ sum_by f ys
sum_rest f p [] ys none = sum_all f p ys
sum_rest f p (x ∷ xs) ys none = rw (none x (here x xs)) (sum_rest f p xs ys (λ y has. none y (deeper x xs y has)))

-- the sum over images
pub sum_map : {X Y : Type 0} (p : X → Bool) (m : X → Y) (f : Y → ℕ) (g : Y → Bool) (xs : List X) → sum_by f (filter g (map m (filter p xs))) ≡ sum_by (λ x. f (m x)) (filter (λ x. p x && g (m x)) xs)
sum_map p m f g [] = refl
sum_map {X = X} {Y = Y} p m f g (x ∷ xs) = by (p x) (sum_map p m f g xs)
  where
    inner : (b : Bool) (some : List Y) (others : List X) → sum_by f some ≡ sum_by (λ y. f (m y)) others → sum_by f (cond b (m x ∷ some) some) ≡ sum_by (λ y. f (m y)) (cond b (x ∷ others) others)
    inner true some others more = let first = sum_by-cons f (m x) some in let second = sum_by-cons (λ y. f (m y)) x others in omega (arith, more, first, second)
    inner false some others more = more

    by : (a : Bool) → sum_by f (filter g (map m (filter p xs))) ≡ sum_by (λ y. f (m y)) (filter (λ y. p y && g (m y)) xs)
        → sum_by f (filter g (map m (cond a (x ∷ filter p xs) (filter p xs)))) ≡ sum_by (λ y. f (m y)) (cond (a && g (m x)) (x ∷ filter (λ y. p y && g (m y)) xs) (filter (λ y. p y && g (m y)) xs))
    by true more = inner (g (m x)) (filter g (map m (filter p xs))) (filter (λ y. p y && g (m y)) xs) more
    by false more = more

all_zero : (ds : List ChunkInfo) → sum_by (λ (c : ChunkInfo). 0) ds ≡ 0
all_zero [] = refl
all_zero (d ∷ ds) = let more = all_zero ds in let head = sum_by-cons (λ (x : ChunkInfo). 0) d ds in omega (arith, more, head)

-- at most one chunk has a number
pub sum_one : (f : ℕ → ℕ) (p : ChunkInfo → Bool) (n : ℕ) (cs : List ChunkInfo) → NumbersRise cs → ((c : ChunkInfo) → Contains cs c → p c ≡ true → c.number ≡ n) → sum_by (λ (c : ChunkInfo). f c.number) (filter p cs) ≤ f n
sum_one f p n [] rise is = omega arith
sum_one f p n (c ∷ cs) rise is = by (p c) refl (sum_one f p n cs rise.1 (λ d has. is d (deeper c cs d has)))
  where
    none : p c ≡ true → (d : ChunkInfo) → Contains cs d → p d ≡ true → (p d ≡ true) × (f d.number ≡ 0)
    none on_it d has also =
        let less = rise.0 d has in
        let one = is c (here c cs) on_it in
        let two = is d (deeper c cs d has) also in
        absurd (omega (arith, less, one, two))

    by : (b : Bool) → p c ≡ b → sum_by (λ (d : ChunkInfo). f d.number) (filter p cs) ≤ f n → sum_by (λ (d : ChunkInfo). f d.number) (cond b (c ∷ filter p cs) (filter p cs)) ≤ f n
    by true on_it more =
        let rest = sum_le (λ (d : ChunkInfo). f d.number) (λ (d : ChunkInfo). 0) p p cs (none on_it) in
        let zero = all_zero (filter p cs) in
        let head = sum_by-cons (λ (d : ChunkInfo). f d.number) c (filter p cs) in
        let same : f c.number ≡ f n = ap f (is c (here c cs) on_it) in
        omega (arith, rest, zero, head, same)
    by false off_it more = more

-- members that don't pass may be appended
pub sum_append : {X : Type 0} (f : X → ℕ) (p : X → Bool) (xs ys : List X) → ((y : X) → Contains ys y → p y ≡ false) → sum_by f (filter p (xs ++ ys)) ≡ sum_by f (filter p xs)
sum_append f p [] [] none = refl
sum_append f p [] (y ∷ ys) none = rw (none y (here y ys)) (sum_append f p [] ys (λ x has. none x (deeper y ys x has)))
sum_append {X = X} f p (x ∷ xs) ys none = by (p x) (sum_append f p xs ys none)
  where
    by : (b : Bool) → sum_by f (filter p (xs ++ ys)) ≡ sum_by f (filter p xs) → sum_by f (cond b (x ∷ filter p (xs ++ ys)) (filter p (xs ++ ys))) ≡ sum_by f (cond b (x ∷ filter p xs) (filter p xs))
    by true more = let one = sum_by-cons f x (filter p (xs ++ ys)) in let two = sum_by-cons f x (filter p xs) in omega (arith, more, one, two)
    by false more = more

-- one chunk may pass in addition
pub sum_one_more : (f : ℕ → ℕ) (p q : ChunkInfo → Bool) (n : ℕ) (cs : List ChunkInfo) → NumbersRise cs → ((c : ChunkInfo) → Contains cs c → (c.number == n) ≡ false → p c ≡ true → q c ≡ true)
    → sum_by (λ (c : ChunkInfo). f c.number) (filter p cs) ≤ sum_by (λ (c : ChunkInfo). f c.number) (filter q cs) + f n
sum_one_more f p q n [] rise le = omega arith
sum_one_more f p q n (c ∷ cs) rise le = by (c.number == n) refl (sum_one_more f p q n cs rise.1 (λ d has. le d (deeper c cs d has)))
  where
    apart : c.number ≡ n → (d : ChunkInfo) → Contains cs d → (b : Bool) → (d.number == n) ≡ b → b ≡ false
    apart number d has true same = let less = rise.0 d has in let other = eqb-true d.number n same in absurd (omega (arith, less, number, other))
    apart number d has false other = refl

    first : c.number ≡ n → sum_by (λ (d : ChunkInfo). f d.number) (filter p (c ∷ cs)) ≤ sum_by (λ (d : ChunkInfo). f d.number) (filter q (c ∷ cs)) + f n
    first number =
        let rest = sum_le (λ (d : ChunkInfo). f d.number) (λ (d : ChunkInfo). f d.number) p q cs (λ d has is. (le d (deeper c cs d has) (apart number d has (d.number == n) refl) is, refl)) in
        let one = sum_if (λ (d : ChunkInfo). f d.number) (p c) c (filter p cs) in
        let two = sum_if (λ (d : ChunkInfo). f d.number) (q c) c (filter q cs) in
        let same : f c.number ≡ f n = ap f number in
        let most = at_most (p c) in
        omega (arith, rest, one, two, same, most)
      where
        at_most : (b : Bool) → cond b (f c.number) 0 ≤ f c.number
        at_most true = omega arith
        at_most false = omega arith

    by : (b : Bool) → (c.number == n) ≡ b → sum_by (λ (d : ChunkInfo). f d.number) (filter p cs) ≤ sum_by (λ (d : ChunkInfo). f d.number) (filter q cs) + f n
        → sum_by (λ (d : ChunkInfo). f d.number) (filter p (c ∷ cs)) ≤ sum_by (λ (d : ChunkInfo). f d.number) (filter q (c ∷ cs)) + f n
    by true same more = first (eqb-true c.number n same)
    by false other more =
        let one = sum_if (λ (d : ChunkInfo). f d.number) (p c) c (filter p cs) in
        let two = sum_if (λ (d : ChunkInfo). f d.number) (q c) c (filter q cs) in
        let head = kept (p c) refl (q c) refl in
        omega (arith, more, one, two, head)
      where
        kept : (a : Bool) → p c ≡ a → (b : Bool) → q c ≡ b → cond (p c) (f c.number) 0 ≤ cond (q c) (f c.number) 0
        kept true one true two = rw (one, two) (omega arith)
        kept true one false two = absurd (cc (sym two ∙ le c (here c cs) other one))
        kept false one b two = rw one (omega arith)
