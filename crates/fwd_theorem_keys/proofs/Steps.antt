-- What holds of each way through a program, and of the parts of a list of calls.
use Rattle.std.proofs.Common.{◌≡◌, List, [], ◌∷◌, ◌++◌, refl, sym, ap, subst, ◌∙◌, append_assoc}
use Rattle.fwd_outside.specs.Program.{entry, Return, Ask, bind, Execution}
use Rattle.fwd_outside.specs.Loop.{LoopAnswer, LoopEntry, LoopProgram}
use Rattle.fwd_secure.specs.declared.keys.Keys.{Keys}
use Rattle.fwd_secure.specs.Handshakes.{Handshakes}
use Rattle.fwd_secure.specs.Carried.{Carries}

-- P holds of the calls and the result of each way through the program
abbrev pub Always : {R : Type 0} → (List LoopEntry → R → Type 0) → LoopProgram R → Type 0
Always P (Return x) = P [] x
Always P (Ask call go) = (answer : LoopAnswer call) → Always (λ own x. P (entry call answer ∷ own) x) (go answer)

same_result : {R : Type 0} (x y : R) → ◌≡◌ {A = LoopProgram R} (Return x) (Return y) → x ≡ y
same_result x y is = cc is

pub always : {R : Type 0} (P : List LoopEntry → R → Type 0) (p : LoopProgram R) (own : List LoopEntry) (x : R) → Always P p → Execution p own (Return x) → P own x
always P (Return y) [] x holds way = subst (P []) (sym (same_result x y way)) holds
always P (Return y) (e ∷ es) x holds way = absurd way
always P (Ask call go) [] x holds way = absurd (cc way)
always P (Ask call go) (e ∷ es) x holds way =
    subst (λ (f : LoopEntry). P (f ∷ es) x) (sym way.1) (always (λ own y. P (entry call way.0 ∷ own) y) (go way.0) es x (holds way.0) way.2)

-- what holds of everything
pub always_any : {R : Type 0} (P : List LoopEntry → R → Type 0) (p : LoopProgram R) → ((own : List LoopEntry) (x : R) → P own x) → Always P p
always_any P (Return x) holds = holds [] x
always_any P (Ask call go) holds = λ answer. always_any (λ own x. P (entry call answer ∷ own) x) (go answer) (λ own x. holds (entry call answer ∷ own) x)

pub always_map : {R : Type 0} (P Q : List LoopEntry → R → Type 0) (p : LoopProgram R) → ((own : List LoopEntry) (x : R) → P own x → Q own x) → Always P p → Always Q p
always_map P Q (Return x) more holds = more [] x holds
always_map P Q (Ask call go) more holds =
    λ answer. always_map (λ own x. P (entry call answer ∷ own) x) (λ own x. Q (entry call answer ∷ own) x) (go answer) (λ own x. more (entry call answer ∷ own) x) (holds answer)

pub always_bind : {R S : Type 0} (P : List LoopEntry → S → Type 0) (p : LoopProgram R) (next : R → LoopProgram S) → Always (λ own x. Always (λ more y. P (own ++ more) y) (next x)) p → Always P (bind p next)
always_bind P (Return x) next holds = holds
always_bind P (Ask call go) next holds = λ answer. always_bind (λ own y. P (entry call answer ∷ own) y) (go answer) next (holds answer)

-- what holds under a condition
pub always_if : {R : Type 0} {A : Type 0} (P : List LoopEntry → R → Type 0) (p : LoopProgram R) → (A → Always P p) → Always (λ own x. A → P own x) p
always_if P (Return x) holds = holds
always_if P (Ask call go) holds = λ answer. always_if (λ own x. P (entry call answer ∷ own) x) (go answer) (λ a. holds a answer)

-- ---- the parts of a list

pub record Parts (keys : Keys) (k : Handshakes) (below one two : List LoopEntry) (t : Handshakes) : Type 0 where
  pub below_one : List LoopEntry
  pub below_two : List LoopEntry
  pub at : Handshakes
  pub below_is : below ≡ below_one ++ below_two
  pub first : Carries keys k below_one one at
  pub second : Carries keys at below_two two t

pub parts : (keys : Keys) (k : Handshakes) (below one two : List LoopEntry) (t : Handshakes) → Carries keys k below (one ++ two) t → Parts keys k below one two t
parts keys k below [] two t carries = record { below_one = []; below_two = below; at = k; below_is = refl; first = (refl, refl); second = carries }
parts keys k below (e ∷ es) two t (own, rest, u, is, way, more) =
    let later : Parts keys u rest es two t = parts keys u rest es two t more in
    record {
      below_one = own ++ later.below_one;
      below_two = later.below_two;
      at = later.at;
      below_is = is ∙ ap (λ (l : List LoopEntry). own ++ l) later.below_is ∙ sym (append_assoc own later.below_one later.below_two);
      first = (own, later.below_one, u, refl, way, later.first);
      second = later.second;
    }
