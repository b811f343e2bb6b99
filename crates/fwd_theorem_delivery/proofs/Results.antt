-- The results of an action, for all answers.
use Rattle.std.proofs.Common.{◌≡◌, Bool, true, false, cond, ◌∷◌, refl}
use Rattle.fwd_outside.specs.Program.{entry, Return, Ask, bind}
use Rattle.fwd_model.specs.Trace.{Action, Answer}
use Rattle.fwd_theorem_trace.specs.Past.{Past}
use Rattle.fwd_theorem_trace.proofs.Traversal.{Traverses}

-- for all answers, Q holds of the result
abbrev pub Yields : {R : Type 0} → (R → Type 0) → Action R → Type 0
Yields Q (Return x) = Q x
Yields Q (Ask call go) = (answer : Answer call) → Yields Q (go answer)

pub gives_so : {R : Type 0} (Q S : R → Type 0) (p : Action R) → ((x : R) → Q x → S x) → Yields Q p → Yields S p
gives_so Q S (Return x) so first = so x first
gives_so Q S (Ask call go) so first = λ answer. gives_so Q S (go answer) so (first answer)

pub gives_then : {R T : Type 0} (Q : R → Type 0) (S : T → Type 0) (p : Action R) (next : R → Action T) → Yields Q p → ((x : R) → Q x → Yields S (next x)) → Yields S (bind p next)
gives_then Q S (Return x) next first second = second x first
gives_then Q S (Ask call go) next first second = λ answer. gives_then Q S (go answer) next (first answer) second

-- whatever the action before returns
pub gives_behind : {R T : Type 0} (S : T → Type 0) (p : Action R) (next : R → Action T) → ((x : R) → Yields S (next x)) → Yields S (bind p next)
gives_behind S (Return x) next more = more x
gives_behind S (Ask call go) next more = λ answer. gives_behind S (go answer) next more

pub gives_if : {R : Type 0} (Q : R → Type 0) (b : Bool) (p q : Action R) → (b ≡ true → Yields Q p) → (b ≡ false → Yields Q q) → Yields Q (cond b p q)
gives_if Q true p q first second = first refl
gives_if Q false p q first second = second refl

-- it holds of the result of each traversal of the action
pub gives_walks : {R : Type 0} (P : Past → Type 0) (Q : R → Type 0) (W : R → Past → Type 0) (past : Past) (p : Action R) → Yields Q p → Traverses P W past p → Traverses P (λ (x : R) (now : Past). Q x × W x now) past p
gives_walks P Q W past (Return x) gives walks = (walks.0, (gives, walks.1))
gives_walks P Q W past (Ask call go) gives walks = (walks.0, λ answer. gives_walks P Q W (entry call answer ∷ past) (go answer) (gives answer) (walks.1 answer))
