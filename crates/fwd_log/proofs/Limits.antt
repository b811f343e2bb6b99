-- Which lines a limiter lets through, and which it passes over.
use Rattle.std.proofs.Common.{◌≡◌, ℕ, suc, ◌+◌, ◌-◌, ◌*◌, ◌<◌, ◌≤◌, ◌^◌, min, List, [], ◌∷◌, ◌++◌, length, sum, Bool, true, false, refl, sym, ◌∙◌, ap, subst, rules, arith}
use Rattle.std.specs.Prelude.{nat_lt, if◌then◌else◌, Option, Some, None, IsSome, option_to_list}
use Rattle.std.proofs.lemmas.Bool.{le-ltb}
use Rattle.std.proofs.lemmas.List.Sums.{sum_by-cons}
use Rattle.fwd_log.specs.declared.limiter.Limiter.{Limiter}
use Rattle.fwd_log.specs.Limiter.{limit_by, limit_of, next_wait, written_of, after}

-- written, counted as passed over, and passed over since
abbrev all_of : Limiter → List ℕ → ℕ
all_of state times = length (written_of state times) + sum (written_of state times) + (after state times).passed_over

adds_by : (early : Bool) (state : Limiter) (now : ℕ) (times : List ℕ) → ((next : Limiter) → next.passed_over + length times < 2 ^ 64 → all_of next times ≡ next.passed_over + length times)
    → state.passed_over + suc (length times) < 2 ^ 64
    → length (option_to_list (limit_by early state now).0 ++ written_of (limit_by early state now).1 times) + sum (option_to_list (limit_by early state now).0 ++ written_of (limit_by early state now).1 times)
    + (after (limit_by early state now).1 times).passed_over ≡ state.passed_over + suc (length times)
adds_by true state now times rest less =
    let next : Limiter = (limit_by true state now).1 in
    let same : next.passed_over ≡ state.passed_over + 1 = omega (arith, less) in
    let few : next.passed_over + length times < 2 ^ 64 = omega (arith, same, less) in
    let all : length (written_of next times) + sum (written_of next times) + (after next times).passed_over ≡ next.passed_over + length times = rest next few in
    omega (arith, all, same)
adds_by false state now times rest less =
    let next : Limiter = (limit_by false state now).1 in
    let few : next.passed_over + length times < 2 ^ 64 = omega (arith, less) in
    let all : length (written_of next times) + sum (written_of next times) + (after next times).passed_over ≡ next.passed_over + length times = rest next few in
    let none : next.passed_over ≡ 0 = refl in
    let counted : sum (state.passed_over ∷ written_of next times) ≡ state.passed_over + sum (written_of next times) = sum_by-cons (λ x. x) state.passed_over (written_of next times) in
    omega (arith, all, none, counted)

pub adds_up : (state : Limiter) (times : List ℕ) → state.passed_over + length times < 2 ^ 64 → all_of state times ≡ state.passed_over + length times
adds_up state [] less = omega arith
adds_up state (now ∷ times) less = adds_by (nat_lt now state.next) state now times (λ next few. adds_up next times few) less

-- lines that are passed over don't move the time of the next one
keeps_by : (early : Bool) (state : Limiter) (now : ℕ) (times : List ℕ) → ((next : Limiter) → written_of next times ≡ [] → (after next times).next ≡ next.next)
    → option_to_list (limit_by early state now).0 ++ written_of (limit_by early state now).1 times ≡ [] → (after (limit_by early state now).1 times).next ≡ state.next
keeps_by true state now times rest none = rest (limit_by true state now).1 none
keeps_by false state now times rest none = absurd (no_line _ _ none)
  where
    no_line : (x : ℕ) (xs : List ℕ) → x ∷ xs ≡ [] → ⊥
    no_line x xs is = cc

keeps_next : (state : Limiter) (times : List ℕ) → written_of state times ≡ [] → (after state times).next ≡ state.next
keeps_next state [] none = refl
keeps_next state (now ∷ times) none = keeps_by (nat_lt now state.next) state now times (λ next few. keeps_next next times few) none

most_wait : (recent : Bool) (wait : ℕ) → (if recent then min (2 * wait) 60000 else 1000) ≤ 60000
most_wait true wait = omega arith
most_wait false wait = omega arith

-- after a written line the next one comes within a minute
next_by : (early : Bool) (state : Limiter) (first : ℕ) → IsSome (limit_by early state first).0 → (limit_by early state first).1.next ≤ first + 60000
next_by true state first written = absurd (search rules)
next_by false state first written =
    let most : next_wait state first ≤ 60000 = most_wait (nat_lt (first - state.next) 60000) state.wait in
    omega (arith, most)

written_late : (early : Bool) (state : Limiter) (now : ℕ) → early ≡ false → IsSome (limit_by early state now).0
written_late early state now late = rw late (search rules)

pub each_minute : (state : Limiter) (first now : ℕ) (times : List ℕ) → written_of (limit_of state first).1 times ≡ [] → IsSome (limit_of state first).0 → first + 60000 ≤ now
    → IsSome (limit_of (after (limit_of state first).1 times) now).0
each_minute state first now times none written late =
    let next : Limiter = (limit_of state first).1 in
    let same : (after next times).next ≡ next.next = keeps_next next times none in
    let soon : next.next ≤ first + 60000 = next_by (nat_lt first state.next) state first written in
    written_late (nat_lt now (after next times).next) (after next times) now (le-ltb now (after next times).next (omega (arith, same, soon, late)))
