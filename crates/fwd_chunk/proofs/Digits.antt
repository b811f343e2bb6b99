-- Decimal digits.
use Rattle.std.proofs.Common.{◌≡◌, ℕ, zero, suc, ◌+◌, ◌*◌, ◌/◌, ◌%◌, ◌^◌, ◌<◌, List, [], ◌∷◌, ◌++◌, length, length-append, take, drop, refl, sym, ◌∙◌, ap, arith}
use Rattle.std.proofs.lemmas.List.{take_at, drop_at, append_cancel_right}
use Rattle.std.proofs.Math.Nat.{pow-suc}
use Rattle.fwd_chunk.specs.Name.{digits, file_name}

pub no_digits : (n : ℕ) → digits 0 n ≡ []
unfolding digits
no_digits n = refl

more_digits : (count n : ℕ) → digits (suc count) n ≡ digits count (n / 10) ++ (48 + n % 10) ∷ []
unfolding digits
more_digits count n = refl

-- the last digit, after the others
pub one_digit : (count less n : ℕ) → count ≡ less + 1 → digits count n ≡ digits less (n / 10) ++ (48 + n % 10) ∷ []
one_digit zero less n is = absurd (omega arith)
one_digit (suc count) less n is = let same : less ≡ count = omega arith in rw same (more_digits count n)

length_digits : (count n : ℕ) → length (digits count n) ≡ count
length_digits zero n = ap length (no_digits n)
length_digits (suc count) n = ap length (more_digits count n) ∙ length-append (digits count (n / 10)) ((48 + n % 10) ∷ []) ∙ (let l : length (digits count (n / 10)) ≡ count = length_digits count (n / 10) in omega arith)

-- equal lists split into parts of equal lengths
same_ends : (front other back last : List ℕ) → length back ≡ length last → front ++ back ≡ other ++ last → back ≡ last
same_ends front other back last long is =
    let lengths : length front + length back ≡ length other + length last = sym (length-append front back) ∙ ap length is ∙ length-append other last in
    sym (drop_at front back (length front) refl) ∙ ap (λ (l : List ℕ). drop (length front) l) is ∙ drop_at other last (length front) (omega arith)

same_fronts : (front other back last : List ℕ) → length front ≡ length other → front ++ back ≡ other ++ last → front ≡ other
same_fronts front other back last long is = sym (take_at front back (length front) refl) ∙ ap (λ (l : List ℕ). take (length front) l) is ∙ take_at other last (length front) (sym long)

-- enough digits determine a number
pub same_number : (count n m : ℕ) → n < 10 ^ count → m < 10 ^ count → digits count n ≡ digits count m → n ≡ m
same_number zero n m less below is = omega arith
same_number (suc count) n m less below is =
    let both : digits count (n / 10) ++ (48 + n % 10) ∷ [] ≡ digits count (m / 10) ++ (48 + m % 10) ∷ [] = sym (more_digits count n) ∙ is ∙ more_digits count m in
    let last : (48 + n % 10) ∷ [] ≡ (48 + m % 10) ∷ [] = same_ends (digits count (n / 10)) (digits count (m / 10)) ((48 + n % 10) ∷ []) ((48 + m % 10) ∷ []) refl both in
    let digit : 48 + n % 10 ≡ 48 + m % 10 = cc last in
    let front : digits count (n / 10) ≡ digits count (m / 10) =
    same_fronts (digits count (n / 10)) (digits count (m / 10)) ((48 + n % 10) ∷ []) ((48 + m % 10) ∷ []) (length_digits count (n / 10) ∙ sym (length_digits count (m / 10))) both in
    let power : 10 ^ suc count ≡ 10 ^ count * 10 = pow-suc 10 count in
    let rest : n / 10 ≡ m / 10 = same_number count (n / 10) (m / 10) (omega arith) (omega arith) front in
    omega arith

-- a path determines its number
pub same_name : (root stream other : List ℕ) (n m : ℕ) → n < 10 ^ 20 → m < 10 ^ 20 → file_name root stream n ≡ file_name root other m → n ≡ m
same_name root stream other n m less below is =
    let front = λ (s : List ℕ). root ++ 47 ∷ [] ++ s ++ 47 ∷ [] in
    let ends : front stream ++ digits 20 n ≡ front other ++ digits 20 m = append_cancel_right (front stream ++ digits 20 n) (front other ++ digits 20 m) (46 ∷ 102 ∷ 108 ∷ 98 ∷ []) is in
    same_number 20 n m less below (same_ends (front stream) (front other) (digits 20 n) (digits 20 m) (length_digits 20 n ∙ sym (length_digits 20 m)) ends)
