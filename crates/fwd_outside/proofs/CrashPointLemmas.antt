-- What holds at each crash point of a composed program.
use Rattle.std.proofs.Common.{◌≡◌, List, [], ◌∷◌, sym, subst}
use Rattle.fwd_outside.specs.Program.{Entry, Program, Return, Ask, bind, Execution}
use Rattle.fwd_outside.specs.AtCrashPoints.{TransitionsOf, Ends, AtCrashPoints, HoldsThroughout}

module _ {C : Type 0} {A : C → Type 0} {S : Type 0} (Steps : TransitionsOf C A S) where
  pub holds_now : {R : Type 0} (P : S → Type 0) (Q : R → S → Type 0) (s : S) (p : Program C A R) → HoldsThroughout Steps P Q s p → P s
  holds_now P Q s (Return x) holds = holds.0
  holds_now P Q s (Ask call go) holds = holds.0

  pub holds_bind : {R T : Type 0} (P : S → Type 0) (M : R → S → Type 0) (Q : T → S → Type 0) (s : S) (p : Program C A R) (next : R → Program C A T)
      → HoldsThroughout Steps P M s p → ((x : R) (end : S) → M x end → HoldsThroughout Steps P Q end (next x)) → HoldsThroughout Steps P Q s (bind p next)
  holds_bind P M Q s (Return x) next first second = second x s first.1
  holds_bind P M Q s (Ask call go) next first second =
      (first.0, λ answer during after steps. let went = first.1 answer during after steps in (went.0, holds_bind P M Q after (go answer) next went.1 second))

  pub holds_weaker : {R : Type 0} (P P2 : S → Type 0) (Q Q2 : R → S → Type 0) (s : S) (p : Program C A R)
      → ((s : S) → P s → P2 s) → ((x : R) (s : S) → Q x s → Q2 x s) → HoldsThroughout Steps P Q s p → HoldsThroughout Steps P2 Q2 s p
  holds_weaker P P2 Q Q2 s (Return x) fp fq holds = (fp s holds.0, fq x s holds.1)
  holds_weaker P P2 Q Q2 s (Ask call go) fp fq holds =
      (fp s holds.0, λ answer during after steps. let went = holds.1 answer during after steps in (fp during went.0, holds_weaker P P2 Q Q2 after (go answer) fp fq went.1))

  -- after any first calls of the program
  pub holds_moments : {R : Type 0} (P : S → Type 0) (Q : R → S → Type 0) (s : S) (p : Program C A R) → HoldsThroughout Steps P Q s p
      → (es : List (Entry C A)) (q : Program C A R) → Execution p es q → AtCrashPoints Steps P s es
  holds_moments P Q s p holds [] q way = holds_now P Q s p holds
  holds_moments P Q s (Return x) holds (e ∷ es) q way = absurd way
  holds_moments P Q s (Ask call go) holds (e ∷ es) q way =
      subst (λ (x : Entry C A). AtCrashPoints Steps P s (x ∷ es)) (sym way.1)
      (holds.0, λ during after steps. let went = holds.1 way.0 during after steps in (went.0, holds_moments P Q after (go way.0) went.1 es q way.2))

  -- and at the end of a program that completed
  pub holds_end : {R : Type 0} (P : S → Type 0) (Q : R → S → Type 0) (s : S) (p : Program C A R) → HoldsThroughout Steps P Q s p
      → (es : List (Entry C A)) (x : R) (last : S) → Execution p es (Return x) → Ends Steps s es last → Q x last
  holds_end {R = R} P Q s (Return y) holds [] x last way ends =
      let same : y ≡ x = cc way in subst (λ (z : R). Q z last) same (subst (λ (t : S). Q y t) (sym ends) holds.1)
  holds_end P Q s (Ask call go) holds [] x last way ends = absurd (cc way)
  holds_end P Q s (Return y) holds (e ∷ es) x last way ends = absurd way
  holds_end P Q s (Ask call go) holds (e ∷ es) x last way ends =
      let went = subst (λ (y : Entry C A). Ends Steps s (y ∷ es) last) way.1 ends in
      holds_end P Q went.1 (go way.0) (holds.1 way.0 went.0 went.1 went.2).1 es x last way.2 went.3
