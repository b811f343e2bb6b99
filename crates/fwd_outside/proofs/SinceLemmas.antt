-- From what holds along a program to what holds since its calls began.
use Rattle.std.proofs.Common.{◌≡◌, List, ◌++◌, Option, Some, None, sym, subst}
use Rattle.std.proofs.lemmas.List.{append_cancel_left}
use Rattle.fwd_outside.specs.Program.{Entry, Program, Return}
use Rattle.fwd_outside.specs.Log.{CallLog, LogGrew, Leads, Completes, RunsProgram, RunsFallible}
use Rattle.fwd_outside.specs.AtCrashPoints.{TransitionsOf, Ends, AtCrashPoints, HoldsThroughout}
use Rattle.fwd_outside.specs.Reachable.{Since, After}
use Rattle.fwd_outside.proofs.CrashPointLemmas.{holds_moments, holds_end}
use Rattle.fwd_outside.proofs.Executions.{failed_is_begun}

log_part : {G X : Type 0} (old new : Option (G × List X)) (grown : List X) → LogGrew old new grown → (given : G) (before since : List X) → old ≡ Some (given, before) → new ≡ Some (given, before ++ since) → grown ≡ since
log_part {G = G} {X = X} old new grown grew given before since is_old is_new =
    let call_log : LogGrew (Some (given, before)) (Some (given, before ++ since)) grown =
    subst (λ (x : Option (G × List X)). LogGrew (Some (given, before)) x grown) is_new (subst (λ (x : Option (G × List X)). LogGrew x new grown) is_old grew) in
    append_cancel_left before grown since (sym call_log.1)

-- with a result or without, the calls lead to some part of the program
pub leads_from_run : {G C : Type 0} {A : C → Type 0} {R : Type 0} (a b : CallLog G C A) (p : Program C A R) (result : Option R) → RunsProgram a b p result → (left : Program C A R) × Leads a b p left
leads_from_run a b p (Some x) makes = (Return x, makes)
leads_from_run a b p None makes = makes

module _ {G C : Type 0} {A : C → Type 0} {S : Type 0} (Steps : TransitionsOf C A S) (stood : G → S) where
  pub since_makes : {R : Type 0} (a b : CallLog G C A) (p : Program C A R) (result : Option R) (Before : S → Type 0) (P : S → S → Type 0) (Q : S → R → S → Type 0)
      → RunsProgram a b p result → ((first : S) → Before first → HoldsThroughout Steps (P first) (Q first) first p) → Since Steps stood a b Before P
  since_makes a b p result Before P Q makes law given before since is_old is_new first ends good =
      let went = leads_from_run a b p result makes in
      let at = holds_moments Steps (P first) (Q first) first p (law first good) went.1.entries went.0 went.1.way in
      subst (λ (es : List (Entry C A)). AtCrashPoints Steps (P first) first es) (log_part a b went.1.entries went.1.grew given before since is_old is_new) at

  pub since_attempts : {R : Type 0} (a b : CallLog G C A) (p : Program C A (Option R)) (result : Option (Option R)) (Before : S → Type 0) (P : S → S → Type 0) (Q : S → Option R → S → Type 0)
      → RunsFallible a b p result → ((first : S) → Before first → HoldsThroughout Steps (P first) (Q first) first p) → Since Steps stood a b Before P
  since_attempts a b p result Before P Q attempts law = since_makes a b p result Before P Q (failed_is_begun a b p result attempts) law

  pub after_did : {R : Type 0} (a b : CallLog G C A) (p : Program C A R) (x : R) (Before : S → Type 0) (P : S → S → Type 0) (Q : S → R → S → Type 0) (T : S → S → Type 0)
      → Completes a b p x → ((first : S) → Before first → HoldsThroughout Steps (P first) (Q first) first p) → ((first last : S) → Q first x last → T first last) → After Steps stood a b Before T
  after_did a b p x Before P Q T did law done given before since is_old is_new first last ends good went_on =
      let part = log_part a b did.entries did.grew given before since is_old is_new in
      done first last (holds_end Steps (P first) (Q first) first p (law first good) did.entries x last did.way (subst (λ (es : List (Entry C A)). Ends Steps first es last) (sym part) went_on))
