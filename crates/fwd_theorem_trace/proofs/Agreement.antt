-- Two ways through an action with the same answers are the same.
use Rattle.std.proofs.Common.{◌≡◌, List, [], ◌∷◌, ◌++◌, refl, sym, ◌∙◌, ap, subst}
use Rattle.fwd_outside.specs.Program.{entry, Return, Ask, Execution}
use Rattle.fwd_model.specs.Trace.{Call, Answer, Action, TraceEntry}
use Rattle.fwd_theorem_trace.specs.Platform.{Platform, AreAnswersOf}

module _ (outside : Platform) where
  -- the answer to a call, and the answer that is given after it
  answered : (call : Call) (given : Answer call) (e : TraceEntry) (es before : List TraceEntry) → e ≡ entry call given → AreAnswersOf outside before (e ∷ es)
      → (given ≡ outside before call) × AreAnswersOf outside (before ++ entry call given ∷ []) es
  answered call given e es before is all = subst (λ (x : TraceEntry). (x.answer ≡ outside before x.call) × AreAnswersOf outside (before ++ x ∷ []) es) is all

  pub same_way : {R : Type 0} (act : Action R) (before one other : List TraceEntry) (x y : R)
      → Execution act one (Return x) → Execution act other (Return y) → AreAnswersOf outside before one → AreAnswersOf outside before other → (other ≡ one) × (y ≡ x)
  same_way (Return z) before [] [] x y first second given again = let a : z ≡ x = cc first in let b : z ≡ y = cc second in (refl, sym b ∙ a)
  same_way (Return z) before [] (f ∷ fs) x y first second given again = absurd second
  same_way (Return z) before (e ∷ es) other x y first second given again = absurd first
  same_way (Ask call go) before [] other x y first second given again = absurd (cc first)
  same_way (Ask call go) before (e ∷ es) [] x y first second given again = absurd (cc second)
  same_way (Ask call go) before (e ∷ es) (f ∷ fs) x y first second given again =
      let here = answered call first.0 e es before first.1 given in
      let there = answered call second.0 f fs before second.1 again in
      let same : second.0 ≡ first.0 = there.0 ∙ sym here.0 in
      let heads : f ≡ e = second.1 ∙ (ap (λ (a : Answer call). entry call a) same ∙ sym first.1) in
      let way = subst (λ (a : Answer call). Execution (go a) fs (Return y)) same second.2 in
      let given_on = subst (λ (a : Answer call). AreAnswersOf outside (before ++ entry call a ∷ []) fs) same there.1 in
      let rest = same_way (go first.0) (before ++ entry call first.0 ∷ []) es fs x y first.2 way here.1 given_on in
      (ap (λ (g : TraceEntry). g ∷ fs) heads ∙ ap (λ (l : List TraceEntry). e ∷ l) rest.0, rest.1)
