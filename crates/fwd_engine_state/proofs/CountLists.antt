-- Lists of counters, one item for each number below n.
use Rattle.std.proofs.Common.{◌≡◌, ℕ, zero, suc, ◌+◌, ◌<◌, ◌≤◌, ◌≢◌, ◌⊎◌, Bool, true, false, List, ◌∷◌, length, get_or, set, replicate, refl, sym, ◌∙◌, ap, subst, inl, inr, arith, get_or-set_same, get_or-set_other, length-set}
use Rattle.std.specs.Prelude.{◌==◌, if◌then◌else◌}
use Rattle.std.proofs.lemmas.Bool.{cases_eq}
use Rattle.std.proofs.lemmas.List.{same_lists}
use Rattle.std.proofs.lemmas.Bool.Decides.{nat_tests}
use Rattle.fwd_model.specs.Counters.{each_from}
use Rattle.fwd_engine_state.specs.CountChanges.{changed_at}

pub length-each : {T : Type 0} (f : ℕ → T) (i n : ℕ) → length (each_from f i n) ≡ n
length-each f i zero = refl
length-each f i (suc n) = ap suc (length-each f (i + 1) n)

get-each_from : {T : Type 0} (f : ℕ → T) (i n k : ℕ) (d : T) → k < n → get_or (each_from f i n) k d ≡ f (i + k)
get-each_from f i zero k d h = absurd (omega arith)
get-each_from f i (suc n) zero d h = ap f (omega arith)
get-each_from f i (suc n) (suc k) d h = get-each_from f (i + 1) n k d (omega arith) ∙ ap f (omega arith)

pub get-each : {T : Type 0} (f : ℕ → T) (n k : ℕ) (d : T) → k < n → get_or (each_from f 0 n) k d ≡ f k
get-each f n k d h = get-each_from f 0 n k d h ∙ ap f (omega arith)

pub each-same : {T : Type 0} (f g : ℕ → T) (i n : ℕ) → ((j : ℕ) → f j ≡ g j) → each_from f i n ≡ each_from g i n
each-same f g i zero same = refl
each-same f g i (suc n) same = λ k. same i k ∷ each-same f g (i + 1) n same k

pub each-alike : {T : Type 0} (x : T) (i n : ℕ) → replicate n x ≡ each_from (λ j. x) i n
each-alike x i zero = refl
each-alike x i (suc n) = ap (λ l. x ∷ l) (each-alike x (i + 1) n)

if-true : {T : Type 0} (b : Bool) (x y : T) → b ≡ true → (if b then x else y) ≡ x
if-true b x y e = rw e refl

if-false : {T : Type 0} (b : Bool) (x y : T) → b ≡ false → (if b then x else y) ≡ y
if-false b x y e = rw e refl

at-place : {T : Type 0} (f : ℕ → T) (change : T → T) (place : ℕ) → changed_at place change f place ≡ change (f place)
at-place f change place = if-true (place == place) _ _ (grind (arith, nat_tests))

at-other : {T : Type 0} (f : ℕ → T) (change : T → T) (place k : ℕ) → k ≢ place → changed_at place change f k ≡ f k
at-other f change place k other = if-false (place == k) _ _ (grind (arith, nat_tests))

item-changed : {T : Type 0} (f : ℕ → T) (change : T → T) (n place : ℕ) (x : T) → place < n → x ≡ get_or (each_from f 0 n) place x → (k : ℕ) (d : T) → k < n → (k ≡ place) ⊎ (k ≢ place)
    → get_or (set (each_from f 0 n) place (change x)) k d ≡ changed_at place change f k
item-changed {T} f change n place x within is k d h (inl e) =
    let P : ℕ → Type 0 = λ j. get_or (set (each_from f 0 n) place (change x)) j d ≡ changed_at place change f j in
    let lt : place < length (each_from f 0 n) = omega (arith, length-each f 0 n) in
    subst P (sym e) (get_or-set_same (each_from f 0 n) place (change x) d lt ∙ ap change (is ∙ get-each f n place x within) ∙ sym (at-place f change place))
item-changed f change n place x within is k d h (inr other) =
    get_or-set_other (each_from f 0 n) place k (change x) d other ∙ get-each f n k d h ∙ sym (at-other f change place k other)

-- a change of the item at an index
pub each-changed : {T : Type 0} (f : ℕ → T) (change : T → T) (n place : ℕ) (x : T) → place < n → x ≡ get_or (each_from f 0 n) place x
    → set (each_from f 0 n) place (change x) ≡ each_from (changed_at place change f) 0 n
each-changed f change n place x within is =
    let long : length (set (each_from f 0 n) place (change x)) ≡ n = length-set (each_from f 0 n) place (change x) ∙ length-each f 0 n in
    same_lists _ _ (long ∙ sym (length-each (changed_at place change f) 0 n))
    (λ k d h. let lt : k < n = omega arith in item-changed f change n place x within is k d lt (cases_eq k place) ∙ sym (get-each (changed_at place change f) n k d lt))

-- an index past the end changes nothing
pub each-beyond : {T : Type 0} (f : ℕ → T) (change : T → T) (n place : ℕ) → n ≤ place → each_from f 0 n ≡ each_from (changed_at place change f) 0 n
each-beyond f change n place beyond =
    same_lists _ _ (length-each f 0 n ∙ sym (length-each (changed_at place change f) 0 n))
    (λ k d h.
    let lt : k < n = omega (arith, length-each f 0 n) in
    let other : k ≢ place = omega arith in
    get-each f n k d lt ∙ sym (get-each (changed_at place change f) n k d lt ∙ at-other f change place k other))

-- the same for items that had these counters before
pub item-at : {T : Type 0} (f : ℕ → T) (change : T → T) (n place : ℕ) (before items : List T) (x y : T)
    → before ≡ each_from f 0 n → place < length before → x ≡ get_or before place x → y ≡ change x → items ≡ set before place y
    → items ≡ each_from (changed_at place change f) 0 n
item-at {T} f change n place before items x y is within here made now =
    let P : List T → Type 0 = λ l. place < length l → x ≡ get_or l place x → set l place (change x) ≡ each_from (changed_at place change f) 0 n in
    now ∙ ap (λ z. set before place z) made
    ∙ subst P (sym is) (λ lt at. each-changed f change n place x (omega (arith, length-each f 0 n)) at) within here

pub none-at : {T : Type 0} (f : ℕ → T) (change : T → T) (n place : ℕ) (before items : List T)
    → before ≡ each_from f 0 n → length before ≤ place → items ≡ before
    → items ≡ each_from (changed_at place change f) 0 n
none-at f change n place before items is beyond now =
    now ∙ is ∙ each-beyond f change n place (omega (arith, length-each f 0 n, ap length is))
