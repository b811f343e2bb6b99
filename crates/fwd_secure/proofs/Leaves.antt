-- What holds of each result that a program may come to.
use Rattle.std.proofs.Common.{◌≡◌, List, [], ◌∷◌, sym, subst}
use Rattle.fwd_outside.specs.Program.{Return, Ask, bind, Execution}
use Rattle.fwd_outside.specs.Loop.{LoopAnswer, LoopEntry, LoopProgram}

abbrev pub Leaves : {R : Type 0} → (R → Type 0) → LoopProgram R → Type 0
Leaves P (Return x) = P x
Leaves P (Ask call go) = (answer : LoopAnswer call) → Leaves P (go answer)

same_result : {R : Type 0} (x y : R) → ◌≡◌ {A = LoopProgram R} (Return x) (Return y) → x ≡ y
same_result x y is = cc is

pub at_leaf : {R : Type 0} (P : R → Type 0) (p : LoopProgram R) (entries : List LoopEntry) (x : R) → Leaves P p → Execution p entries (Return x) → P x
at_leaf P (Return y) [] x leaves way = subst P (sym (same_result x y way)) leaves
at_leaf P (Return y) (e ∷ es) x leaves way = absurd way
at_leaf P (Ask call go) [] x leaves way = absurd (cc way)
at_leaf P (Ask call go) (e ∷ es) x leaves way = at_leaf P (go way.0) es x (leaves way.0) way.2

pub leaves_bind : {R S : Type 0} (P : R → Type 0) (Q : S → Type 0) (p : LoopProgram R) (next : R → LoopProgram S) → Leaves P p → ((x : R) → P x → Leaves Q (next x)) → Leaves Q (bind p next)
leaves_bind P Q (Return x) next leaves later = later x leaves
leaves_bind P Q (Ask call go) next leaves later = λ answer. leaves_bind P Q (go answer) next (leaves answer) later
