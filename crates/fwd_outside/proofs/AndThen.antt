-- A program followed by another that takes its value, if it has one.
use Rattle.std.proofs.Common.{◌≢◌, Option, Some, None, refl}
use Rattle.fwd_outside.specs.Program.{Program, Return, Ask, with_value, and_then}
use Rattle.fwd_outside.specs.Log.{CallLog, RunsFallible}
use Rattle.fwd_outside.specs.AtCrashPoints.{TransitionsOf, HoldsThroughout}
use Rattle.fwd_outside.proofs.Executions.{leads_inside, attempts_after}
use Rattle.fwd_outside.proofs.CrashPointLemmas.{holds_bind}

module _ {G C : Type 0} {A : C → Type 0} {R S : Type 0} (a b : CallLog G C A) (p : Program C A (Option R)) (next : R → Program C A (Option S)) where
  pub continued : (c : CallLog G C A) (x : R) (result : Option (Option S)) → RunsFallible a b p (Some (Some x)) → RunsFallible b c (next x) result → RunsFallible a c (and_then p next) result
  continued c x result first second = attempts_after a b c (and_then p next) (next x) result (leads_inside (with_value next) first) second

  pub first_failed : RunsFallible a b p (Some None) → RunsFallible a b (and_then p next) (Some None)
  first_failed first = leads_inside (with_value next) first

  -- the program that follows doesn't fail before its first call
  pub first_unfinished : ((x : R) → next x ≢ Return None) → RunsFallible a b p None → RunsFallible a b (and_then p next) None
  first_unfinished begins first = (and_then first.0 next, leads_inside (with_value next) first.1, first_is_begun first.0 first.2)
    where
      first_is_begun : (left : Program C A (Option R)) → left ≢ Return None → and_then left next ≢ Return None
      first_is_begun (Return (Some x)) unfailed = begins x
      first_is_begun (Return None) unfailed = absurd (unfailed refl)
      first_is_begun (Ask call go) unfailed = λ is. absurd (cc is)

pub holds_and_then : {C : Type 0} {A : C → Type 0} {T : Type 0} (Steps : TransitionsOf C A T) {R S : Type 0} (P : T → Type 0) (M : Option R → T → Type 0) (Q : Option S → T → Type 0) (s : T)
    (p : Program C A (Option R)) (next : R → Program C A (Option S))
    → HoldsThroughout Steps P M s p → ((x : R) (end : T) → M (Some x) end → HoldsThroughout Steps P Q end (next x)) → ((end : T) → M None end → P end × Q None end) → HoldsThroughout Steps P Q s (and_then p next)
holds_and_then {C = C} {A = A} {T = T} Steps {R = R} {S = S} P M Q s p next first went failed = holds_bind Steps P M Q s p (with_value next) first by
  where
    by : (r : Option R) (end : T) → M r end → HoldsThroughout Steps P Q end (with_value next r)
    by (Some x) end m = went x end m
    by None end m = failed end m
