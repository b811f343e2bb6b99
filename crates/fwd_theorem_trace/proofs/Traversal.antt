-- Traversals of an action, with all that came before each of its calls.
use Rattle.std.proofs.Common.{◌≡◌, Bool, true, false, cond, List, [], ◌∷◌, ◌++◌, append_assoc, refl, sym, ◌∙◌, subst}
use Rattle.fwd_outside.specs.Program.{entry, Return, Ask, bind, Execution}
use Rattle.fwd_model.specs.Trace.{Action, Answer, TraceEntry, history_after}
use Rattle.fwd_theorem_trace.specs.Past.{Past, logged, past_after}

-- for all answers, P holds of the past at each point, and Q of the result at the end
abbrev pub Traverses : {R : Type 0} → (Past → Type 0) → (R → Past → Type 0) → Past → Action R → Type 0
Traverses P Q past (Return x) = P past × Q x past
Traverses P Q past (Ask call go) = P past × ((answer : Answer call) → Traverses P Q (entry call answer ∷ past) (go answer))

-- the second past is that of a later point
abbrev pub Extends : Past → Past → Type 0
Extends old new = (own : List TraceEntry) × (new ≡ own ++ old)

pub same_past : (past : Past) → Extends past past
same_past past = ([], refl)

pub longer : (e : TraceEntry) (old new : Past) → Extends (e ∷ old) new → Extends old new
longer e old new grown = (grown.0 ++ e ∷ [], grown.1 ∙ sym (append_assoc grown.0 (e ∷ []) old))

module _ (P : Past → Type 0) where
  pub holds_now : {R : Type 0} (Q : R → Past → Type 0) (past : Past) (p : Action R) → Traverses P Q past p → P past
  holds_now Q past (Return x) walks = walks.0
  holds_now Q past (Ask call go) walks = walks.0

  -- the continuation of a way through an action is traversed too
  pub traverses_rest : {R : Type 0} (Q : R → Past → Type 0) (past : Past) (p : Action R) → Traverses P Q past p
      → (es : List TraceEntry) (left : Action R) → Execution p es left → Traverses P Q (past_after past es) left
  traverses_rest {R = R} Q past p walks [] left way = subst (λ (q : Action R). Traverses P Q past q) (sym way) walks
  traverses_rest Q past (Return x) walks (e ∷ es) left way = absurd way
  traverses_rest Q past (Ask call go) walks (e ∷ es) left way =
      subst (λ (x : TraceEntry). Traverses P Q (past_after (x ∷ past) es) left) (sym way.1) (traverses_rest Q (entry call way.0 ∷ past) (go way.0) (walks.1 way.0) es left way.2)

  pub walks_bind : {R S : Type 0} (M : R → Past → Type 0) (Q : S → Past → Type 0) (past : Past) (p : Action R) (next : R → Action S)
      → Traverses P M past p → ((x : R) (now : Past) → Extends past now → P now → M x now → Traverses P Q now (next x)) → Traverses P Q past (bind p next)
  walks_bind M Q past (Return x) next first second = second x past (same_past past) first.0 first.1
  walks_bind M Q past (Ask call go) next first second =
      (first.0, λ answer. walks_bind M Q (entry call answer ∷ past) (go answer) next (first.1 answer) (λ x now grown. second x now (longer (entry call answer) past now grown)))

  -- weakening: a property that holds at each end, for pasts that extend the given one
  pub traverses_map : {R : Type 0} (Q W : R → Past → Type 0) (past : Past) (p : Action R) → ((x : R) (now : Past) → Extends past now → Q x now → W x now) → Traverses P Q past p → Traverses P W past p
  traverses_map Q W past (Return x) more walks = (walks.0, more x past (same_past past) walks.1)
  traverses_map Q W past (Ask call go) more walks =
      (walks.0, λ answer. traverses_map Q W (entry call answer ∷ past) (go answer) (λ x now grown. more x now (longer (entry call answer) past now grown)) (walks.1 answer))

  pub walks_if : {R : Type 0} (Q : R → Past → Type 0) (b : Bool) (past : Past) (p q : Action R)
      → (b ≡ true → Traverses P Q past p) → (b ≡ false → Traverses P Q past q) → Traverses P Q past (cond b p q)
  walks_if Q true past p q first second = first refl
  walks_if Q false past p q first second = second refl

pub noted_since : (past : Past) (es : List TraceEntry) → logged (past_after past es) ≡ history_after es (logged past)
noted_since past [] = refl
noted_since past (e ∷ es) = noted_since (e ∷ past) es
