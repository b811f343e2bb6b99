-- Actions one after another.
use Rattle.std.proofs.Common.{◌≡◌, refl, ap}
use mathlib.Core.Path.{fun_ext}
use Rattle.fwd_outside.specs.Program.{entry, Return, Ask, bind}
use Rattle.fwd_model.specs.Trace.{Action, Answer}
use Rattle.std.specs.Prelude.{◌∷◌}
use Rattle.fwd_theorem_trace.specs.Past.{Past}
use Rattle.fwd_theorem_trace.proofs.Traversal.{Traverses, Extends, same_past, longer}

pub bind_twice : {Q R S : Type 0} (p : Action Q) (f : Q → Action R) (g : R → Action S) → bind (bind p f) g ≡ bind p (λ x. bind (f x) g)
bind_twice (Return x) f g = refl
bind_twice {S = S} (Ask call go) f g = ap (λ (next : Answer call → Action S). Ask call next) (fun_ext (λ (answer : Answer call). bind_twice (go answer) f g))

pub bind_same : {R S : Type 0} (p : Action R) (f g : R → Action S) → ((x : R) → f x ≡ g x) → bind p f ≡ bind p g
bind_same {R = R} {S = S} p f g same = ap (λ (next : R → Action S). bind p next) (fun_ext (λ (x : R). same x))

-- what follows has to be the same only for results that a traversal allows
module _ (P : Past → Type 0) {R S : Type 0} (Q : R → Past → Type 0) (f g : R → Action S) where
  pub bind_traversed : (past : Past) (p : Action R) → Traverses P Q past p → ((x : R) (now : Past) → Extends past now → P now → Q x now → f x ≡ g x) → bind p f ≡ bind p g
  bind_traversed past (Return x) walks same = same x past (same_past past) walks.0 walks.1
  bind_traversed past (Ask call go) walks same =
      ap (λ (next : Answer call → Action S). Ask call next)
      (fun_ext (λ (answer : Answer call). bind_traversed (entry call answer ∷ past) (go answer) (walks.1 answer) (λ x now grown due is. same x now (longer (entry call answer) past now grown) due is)))
