-- The calls of an action, each with the entries before it.
use Rattle.std.proofs.Common.{◌≡◌, Bool, true, false, cond, List, [], ◌∷◌, ◌++◌, append-nil, append_assoc, refl, sym, ◌∙◌, subst}
use Rattle.fwd_outside.specs.Program.{entry, Return, Ask, bind, Execution}
use Rattle.fwd_model.specs.Trace.{Call, Answer, Action, TraceEntry}
use Rattle.fwd_theorem_trace.specs.Past.{Past, past_after}
use Rattle.fwd_theorem_delivery.proofs.SilentActions.{is_silent, AreSilent, IsSilent}

-- for all answers, P holds of each call and the entries before it, and Q of the result and all entries at
-- the end
abbrev pub MakesCalls : {R : Type 0} → (List TraceEntry → Call → Type 0) → (R → List TraceEntry → Type 0) → List TraceEntry → Action R → Type 0
MakesCalls P Q es (Return x) = Q x es
MakesCalls P Q es (Ask call go) = P es call × ((answer : Answer call) → MakesCalls P Q (es ++ entry call answer ∷ []) (go answer))

-- P holds of each of these calls, and of the entries before it
abbrev pub HoldsAlong : (List TraceEntry → Call → Type 0) → List TraceEntry → List TraceEntry → Type 0
HoldsAlong P es [] = Unit {0}
HoldsAlong P es (e ∷ more) = P es e.call × HoldsAlong P (es ++ e ∷ []) more

pub since_both : (past : Past) (one two : List TraceEntry) → past_after past (one ++ two) ≡ past_after (past_after past one) two
since_both past [] two = refl
since_both past (e ∷ one) two = since_both (e ∷ past) one two

module _ (P : List TraceEntry → Call → Type 0) where
  pub makes_bind : {R S : Type 0} (M : R → List TraceEntry → Type 0) (Q : S → List TraceEntry → Type 0) (es : List TraceEntry) (p : Action R) (next : R → Action S)
      → MakesCalls P M es p → ((x : R) (now : List TraceEntry) → M x now → MakesCalls P Q now (next x)) → MakesCalls P Q es (bind p next)
  makes_bind M Q es (Return x) next first more = more x es first
  makes_bind M Q es (Ask call go) next first more = (first.0, λ answer. makes_bind M Q (es ++ entry call answer ∷ []) (go answer) next (first.1 answer) more)

  pub makes_if : {R : Type 0} (Q : R → List TraceEntry → Type 0) (b : Bool) (es : List TraceEntry) (p q : Action R)
      → (b ≡ true → MakesCalls P Q es p) → (b ≡ false → MakesCalls P Q es q) → MakesCalls P Q es (cond b p q)
  makes_if Q true es p q first second = first refl
  makes_if Q false es p q first second = second refl

  pub makes_so : {R : Type 0} (Q S : R → List TraceEntry → Type 0) (es : List TraceEntry) (p : Action R) → ((x : R) (now : List TraceEntry) → Q x now → S x now)
      → MakesCalls P Q es p → MakesCalls P S es p
  makes_so Q S es (Return x) so first = so x es first
  makes_so Q S es (Ask call go) so first = (first.0, λ answer. makes_so Q S (es ++ entry call answer ∷ []) (go answer) so (first.1 answer))

  -- an action of calls of which P always holds
  pub still_makes : {R : Type 0} (es : List TraceEntry) (p : Action R) → ((before : List TraceEntry) (call : Call) → is_silent call ≡ true → P before call) → IsSilent p
      → MakesCalls P (λ (x : R) (now : List TraceEntry). (own : List TraceEntry) × (now ≡ es ++ own) × AreSilent own) es p
  still_makes es (Return x) holds still = ([], sym (append-nil es), tt)
  still_makes {R = R} es (Ask call go) holds still = (
    holds es call still.0,
    λ answer.
        let e : TraceEntry = entry call answer in
        makes_so (λ (x : R) (now : List TraceEntry). (own : List TraceEntry) × (now ≡ es ++ e ∷ [] ++ own) × AreSilent own) (λ (x : R) (now : List TraceEntry). (own : List TraceEntry) × (now ≡ es ++ own) × AreSilent own)
        (es ++ e ∷ []) (go answer) (λ x now more. (e ∷ more.0, more.1 ∙ append_assoc es (e ∷ []) more.0, (still.0, more.2)))
        (still_makes (es ++ e ∷ []) (go answer) holds (still.1 answer)),
  )

  -- ---- ways

  pub made_along : {R : Type 0} (Q : R → List TraceEntry → Type 0) (es : List TraceEntry) (p : Action R) (more : List TraceEntry) (left : Action R) → MakesCalls P Q es p → Execution p more left → HoldsAlong P es more
  made_along Q es p [] left makes way = tt
  made_along Q es (Return x) (e ∷ more) left makes way = absurd way
  made_along Q es (Ask call go) (e ∷ more) left makes way =
      subst (λ (x : TraceEntry). HoldsAlong P es (x ∷ more)) (sym way.1) (makes.0, made_along Q (es ++ entry call way.0 ∷ []) (go way.0) more left (makes.1 way.0) way.2)

  pub made_end : {R : Type 0} (Q : R → List TraceEntry → Type 0) (es : List TraceEntry) (p : Action R) (more : List TraceEntry) (x : R) → MakesCalls P Q es p → Execution p more (Return x) → Q x (es ++ more)
  made_end {R = R} Q es p [] x makes way =
      subst (λ (now : List TraceEntry). Q x now) (sym (append-nil es)) (subst (λ (q : Action R). MakesCalls P Q es q) (sym way) makes)
  made_end Q es (Return y) (e ∷ more) x makes way = absurd way
  made_end Q es (Ask call go) (e ∷ more) x makes way =
      let own : TraceEntry = entry call way.0 in
      subst (λ (y : TraceEntry). Q x (es ++ y ∷ more)) (sym way.1)
      (subst (λ (now : List TraceEntry). Q x now) (append_assoc es (own ∷ []) more) (made_end Q (es ++ own ∷ []) (go way.0) more x (makes.1 way.0) way.2))
