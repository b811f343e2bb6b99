-- An action simulates another: it does with renamed links what the other does.
use Rattle.std.proofs.Common.{◌≡◌, ℕ, Bool, true, false, if◌then◌else◌, List, [], ◌∷◌, Some, refl, sym, ap, subst}
use Rattle.fwd_outside.specs.Program.{entry, Return, Ask, bind, Execution}
use Rattle.fwd_outside.specs.Loop.{Dial}
use Rattle.fwd_model.specs.Trace.{Call, OnLoop, OnFiles, OnKeeper, Answer, Action, TraceEntry}
use Rattle.fwd_theorem_links.specs.RenamedLinks.{renamed_call, renamed_answer, renamed_trace}

module _ (rename : ℕ → ℕ) (IsDialed : ℕ → Type 0) (HasFollowed : Type 0) where
  -- a link that this call returned is one of the dialed ones
  abbrev pub AnswerIsDialed : (call : Call) → Answer call → Type 0
  AnswerIsDialed (OnLoop (Dial output tag)) (Some link) = IsDialed link
  AnswerIsDialed call answer = Unit {0}

  abbrev pub AllDialed : List TraceEntry → Type 0
  AllDialed [] = Unit {0}
  AllDialed (e ∷ es) = AnswerIsDialed e.call e.answer × AllDialed es

  -- files and the keeper of offsets are called only if a file is followed
  abbrev pub IsForFollowed : Call → Type 0
  IsForFollowed (OnFiles call) = HasFollowed
  IsForFollowed (OnKeeper call) = HasFollowed
  IsForFollowed call = Unit {0}

  abbrev pub AllForFollowed : List TraceEntry → Type 0
  AllForFollowed [] = Unit {0}
  AllForFollowed (e ∷ es) = IsForFollowed e.call × AllForFollowed es

  -- the other action makes the same call, renamed, and continues so after each answer
  abbrev pub Simulates : {A B : Type 0} → (A → B → Type 0) → Action A → Action B → Type 0
  Simulates {B = B} P (Return x) q = (y : B) × (q ≡ Return y) × P x y
  Simulates {B = B} P (Ask call go) q =
      (next : Answer (renamed_call rename call) → Action B)
      × (q ≡ Ask (renamed_call rename call) next)
      × IsForFollowed call
      × ((x : Answer call) → AnswerIsDialed call x → Simulates P (go x) (next (renamed_answer rename call x)))

  -- ---- one action and then another

  module _ {A B C D : Type 0} (P : A → B → Type 0) (Q : C → D → Type 0) (f : A → Action C) (g : B → Action D) where
    pub simulates_bind : (p : Action A) (q : Action B) → Simulates P p q → ((x : A) (y : B) → P x y → Simulates Q (f x) (g y)) → Simulates Q (bind p f) (bind q g)
    simulates_bind (Return x) q same more = subst (λ (r : Action B). Simulates Q (f x) (bind r g)) (sym same.1) (more x same.0 same.2)
    simulates_bind (Ask call go) q same more = (
      (λ x. bind (same.0 x) g),
      ap (λ r. bind r g) same.1,
      same.2,
      λ x dialed. simulates_bind (go x) (same.0 (renamed_answer rename call x)) (same.3 x dialed) more,
    )

  pub simulates_if : {A B : Type 0} (P : A → B → Type 0) (b : Bool) (p q : Action A) (r t : Action B) → Simulates P p r → Simulates P q t → Simulates P (if b then p else q) (if b then r else t)
  simulates_if P true p q r t first second = first
  simulates_if P false p q r t first second = second

  -- ---- executions

  -- the renamed trace leads to an action that simulates what is left
  pub record IsSimulated {A B : Type 0} (P : A → B → Type 0) (q : Action B) (es : List TraceEntry) (left : Action A) : Type 0 where
    pub rest : Action B
    pub same : Simulates P left rest
    pub way : Execution q (renamed_trace rename es) rest
    pub followed : AllForFollowed es

  module _ {A B : Type 0} (P : A → B → Type 0) (left : Action A) where
    pub simulates_execution : (p : Action A) (q : Action B) (es : List TraceEntry) → Simulates P p q → Execution p es left → AllDialed es → IsSimulated P q es left
    simulates_execution p q [] same way dialed =
        record { rest = q; same = subst (λ (r : Action A). Simulates P r q) (sym way) same; way = refl; followed = tt }
    simulates_execution (Return z) q (e ∷ es) same way dialed = absurd way
    simulates_execution (Ask call go) q (e ∷ es) same way dialed =
        let answer = way.0 in
        let all = subst (λ (f : TraceEntry). AnswerIsDialed f.call f.answer × AllDialed es) way.1 dialed in
        let after = simulates_execution (go answer) (same.0 (renamed_answer rename call answer)) es (same.3 answer all.0) way.2 all.1 in
        subst (λ (f : TraceEntry). IsSimulated P q (f ∷ es) left) (sym way.1)
        (record {
          rest = after.rest;
          same = after.same;
          way =
              subst (λ (r : Action B). Execution r (entry (renamed_call rename call) (renamed_answer rename call answer) ∷ renamed_trace rename es) after.rest) (sym same.1)
              (renamed_answer rename call answer, refl, after.way);
          followed = (same.2, after.followed);
        })
