-- How escapes are read.
use Rattle.std.proofs.Common.{◌≡◌, ℕ, suc, ◌+◌, ◌-◌, ◌<◌, ◌≤◌, ◌==◌, Bool, true, false, if◌then◌else◌, List, [], ◌∷◌, ◌++◌, length, get_or, take, drop, Option, Some, None, refl, sym, ◌∙◌, ap, append_assoc, arith}
use Rattle.std.specs.List.{position_or_len}
use Rattle.std.specs.Option.{option_map}
use Rattle.std.proofs.lemmas.List.{append-nil, drop_more, get_or-take, length-drop, length-take, nil_from_length, take-append-drop, take_all}
use Rattle.std.proofs.lemmas.List.Sums.{fails_before_first, passes_at_first}
use Rattle.std.proofs.lemmas.Bool.Decides.{nat_tests}
use Rattle.fwd_script.specs.Words.{escaped, in_front, unescaped}

-- what was read, and the bytes of the rest
abbrev pub behind : List ℕ → Option (List ℕ) → Option (List ℕ)
behind bytes rest = option_map (λ more. bytes ++ more) rest

behind_one : (bytes : List ℕ) (byte : ℕ) (rest : Option (List ℕ)) → behind bytes (in_front (Some byte) rest) ≡ behind (bytes ++ byte ∷ []) rest
behind_one bytes byte None = refl
behind_one bytes byte (Some more) = ap (λ (l : List ℕ). Some l) (sym (append_assoc bytes (byte ∷ []) more))

plain : (bytes : List ℕ) (x : ℕ) (rest : List ℕ) → (x == 92) ≡ false → behind bytes (unescaped (x ∷ rest)) ≡ behind (bytes ++ x ∷ []) (unescaped rest)
plain bytes x [] not_escape = ap (λ (b : Bool). behind bytes (if b then None else Some (x ∷ []))) not_escape ∙ behind_one bytes x (Some [])
plain bytes x (y ∷ rest) not_escape =
    ap (λ (b : Bool). behind bytes (if b then in_front (escaped y) (unescaped rest) else in_front (Some x) (unescaped (y ∷ rest)))) not_escape ∙ behind_one bytes x (unescaped (y ∷ rest))

run_read : (bytes run rest : List ℕ) → ((k : ℕ) → k < length run → (get_or run k 0 == 92) ≡ false) → behind bytes (unescaped (run ++ rest)) ≡ behind (bytes ++ run) (unescaped rest)
run_read bytes [] rest none = ap (λ (l : List ℕ). behind l (unescaped rest)) (sym (append-nil bytes))
run_read bytes (x ∷ run) rest none =
    plain bytes x (run ++ rest) (none 0 (omega arith)) ∙ run_read (bytes ++ x ∷ []) run rest (λ k l. none (suc k) (omega arith))
    ∙ ap (λ (l : List ℕ). behind l (unescaped rest)) (append_assoc bytes (x ∷ []) run)

abbrev is_escape : ℕ → Bool
is_escape byte = byte == 92

-- before the first escape there is none
none_before : (rest : List ℕ) (n : ℕ) → n ≡ position_or_len is_escape rest → (k : ℕ) → k < length (take n rest) → (get_or (take n rest) k 0 == 92) ≡ false
none_before rest n at k l =
    let in_run : k < n = omega (arith, l, length-take n rest) in
    ap is_escape (get_or-take n rest k 0 in_run) ∙ fails_before_first is_escape rest k 0 (omega (arith, at, in_run))

-- a run up to the first escape is copied
pub reads_run : (text bytes rest run new back : List ℕ) (n : ℕ) → n ≡ position_or_len is_escape rest → unescaped text ≡ behind bytes (unescaped rest) → run ≡ take n rest → back ≡ drop n rest
    → new ≡ bytes ++ run → unescaped text ≡ behind new (unescaped back)
reads_run text bytes rest run new back n at so_far front cut pushed =
    so_far ∙ ap (λ (l : List ℕ). behind bytes (unescaped l)) (sym (take-append-drop n rest)) ∙ run_read bytes (take n rest) (drop n rest) (none_before rest n at)
    ∙ ap (λ (l : List ℕ). behind (bytes ++ l) (unescaped (drop n rest))) (sym front) ∙ ap (λ (l : List ℕ). behind l (unescaped (drop n rest))) (sym pushed)
    ∙ ap (λ (l : List ℕ). behind new (unescaped l)) (sym cut)

-- an escape follows the run, or nothing does
pub escape_behind : (rest back : List ℕ) (n : ℕ) → n ≡ position_or_len is_escape rest → back ≡ drop n rest → false ≡ (length back == 0) → back ≡ 92 ∷ drop (n + 1) rest
escape_behind rest back n at cut test =
    let some : 0 < length back = grind (arith, nat_tests) in
    let lt : n < length rest = omega (arith, some, ap length cut, length-drop n rest) in
    let found : is_escape (get_or rest n 0) ≡ true = ap (λ (k : ℕ). is_escape (get_or rest k 0)) at ∙ passes_at_first is_escape rest 0 (omega (arith, at, lt)) in
    let is : get_or rest n 0 ≡ 92 = grind (arith, nat_tests) in
    cut ∙ drop_more rest n 0 lt ∙ ap (λ (x : ℕ). x ∷ drop (n + 1) rest) is

pub all_read : (text new back : List ℕ) → unescaped text ≡ behind new (unescaped back) → true ≡ (length back == 0) → unescaped text ≡ Some new
all_read text new back so_far test =
    let none : length back ≡ 0 = grind (arith, nat_tests) in
    so_far ∙ ap (λ (l : List ℕ). behind new (unescaped l)) (nil_from_length back none) ∙ ap (λ (l : List ℕ). Some l) (append-nil new)

pub cut_off : (text new back behind_it : List ℕ) → unescaped text ≡ behind new (unescaped back) → back ≡ 92 ∷ behind_it → length back < 2 → unescaped text ≡ None
cut_off text new back [] so_far is short = so_far ∙ ap (λ (l : List ℕ). behind new (unescaped l)) is
cut_off text new back (y ∷ more) so_far is short = absurd (omega (arith, ap length is, short))

by_escape : (text new back behind_it : List ℕ) (letter : ℕ) → unescaped text ≡ behind new (unescaped back) → back ≡ 92 ∷ behind_it → 2 ≤ length back → letter ≡ get_or back 1 0
    → unescaped text ≡ behind new (in_front (escaped letter) (unescaped (take (length back - 2) (drop 2 back))))
by_escape text new back [] letter so_far is long at = absurd (omega (arith, ap length is, long))
by_escape text new back (y ∷ more) letter so_far is long at =
    let letter_is : letter ≡ y = at ∙ ap (λ (l : List ℕ). get_or l 1 0) is in
    let more_is : take (length back - 2) (drop 2 back) ≡ more = ap (λ (l : List ℕ). take (length l - 2) (drop 2 l)) is ∙ take_all (length (92 ∷ y ∷ more) - 2) more (omega arith) in
    so_far ∙ ap (λ (l : List ℕ). behind new (unescaped l)) is ∙ ap (λ (n : ℕ). behind new (in_front (escaped n) (unescaped more))) (sym letter_is)
    ∙ ap (λ (l : List ℕ). behind new (in_front (escaped letter) (unescaped l))) (sym more_is)

pub no_escape : (text new back behind_it : List ℕ) (letter : ℕ) → unescaped text ≡ behind new (unescaped back) → back ≡ 92 ∷ behind_it → 2 ≤ length back → letter ≡ get_or back 1 0 → escaped letter ≡ None
    → unescaped text ≡ None
no_escape text new back behind_it letter so_far is long at none =
    by_escape text new back behind_it letter so_far is long at ∙ ap (λ (o : Option ℕ). behind new (in_front o (unescaped (take (length back - 2) (drop 2 back))))) none

pub reads_escape : (text new back behind_it pushed : List ℕ) (letter byte : ℕ) → unescaped text ≡ behind new (unescaped back) → back ≡ 92 ∷ behind_it → 2 ≤ length back → letter ≡ get_or back 1 0
    → escaped letter ≡ Some byte → pushed ≡ new ++ byte ∷ [] → unescaped text ≡ behind pushed (unescaped (take (length back - 2) (drop 2 back)))
reads_escape text new back behind_it pushed letter byte so_far is long at means push =
    let more = unescaped (take (length back - 2) (drop 2 back)) in
    by_escape text new back behind_it letter so_far is long at ∙ ap (λ (o : Option ℕ). behind new (in_front o more)) means ∙ behind_one new byte more ∙ ap (λ (l : List ℕ). behind l more) (sym push)
