-- A program of a loop simulates another: it does with renamed links what the other does.
use Rattle.std.proofs.Common.{◌≡◌, ℕ, List, [], ◌∷◌, ◌++◌, Some, refl, sym, ap, subst}
use Rattle.fwd_outside.specs.Program.{entry, Return, Ask, bind, Execution}
use Rattle.fwd_outside.specs.Loop.{LoopCall, LoopAnswer, LoopEntry, LoopProgram, Dial}
use Rattle.fwd_theorem_links.specs.RenamedLinks.{renamed_loop_call, renamed_loop_answer}

module _ (rename : ℕ → ℕ) where
  abbrev pub renamed_loop_entry : LoopEntry → LoopEntry
  renamed_loop_entry e = entry (renamed_loop_call rename e.call) (renamed_loop_answer rename e.call e.answer)

  abbrev pub renamed_calls : List LoopEntry → List LoopEntry
  renamed_calls [] = []
  renamed_calls (e ∷ es) = renamed_loop_entry e ∷ renamed_calls es

module _ (rename : ℕ → ℕ) (IsDialed : ℕ → Type 0) where
  -- a link that this call returned is one of the dialed ones
  abbrev pub LinkIsDialed : (call : LoopCall) → LoopAnswer call → Type 0
  LinkIsDialed (Dial output tag) (Some link) = IsDialed link
  LinkIsDialed call answer = Unit {0}

  abbrev pub LinksAreDialed : List LoopEntry → Type 0
  LinksAreDialed [] = Unit {0}
  LinksAreDialed (e ∷ es) = LinkIsDialed e.call e.answer × LinksAreDialed es

  pub dialed_left : (xs ys : List LoopEntry) → LinksAreDialed (xs ++ ys) → LinksAreDialed xs
  dialed_left [] ys all = tt
  dialed_left (e ∷ xs) ys all = (all.0, dialed_left xs ys all.1)

  pub dialed_right : (xs ys : List LoopEntry) → LinksAreDialed (xs ++ ys) → LinksAreDialed ys
  dialed_right [] ys all = all
  dialed_right (e ∷ xs) ys all = dialed_right xs ys all.1

  -- the other program makes the same call, renamed, and continues so after each answer
  abbrev pub LoopSimulates : {A B : Type 0} → (A → B → Type 0) → LoopProgram A → LoopProgram B → Type 0
  LoopSimulates {B = B} P (Return x) q = (y : B) × (q ≡ Return y) × P x y
  LoopSimulates {B = B} P (Ask call go) q =
      (next : LoopAnswer (renamed_loop_call rename call) → LoopProgram B)
      × (q ≡ Ask (renamed_loop_call rename call) next)
      × ((x : LoopAnswer call) → LinkIsDialed call x → LoopSimulates P (go x) (next (renamed_loop_answer rename call x)))

  module _ {A B C D : Type 0} (P : A → B → Type 0) (Q : C → D → Type 0) (f : A → LoopProgram C) (g : B → LoopProgram D) where
    pub simulates_then : (p : LoopProgram A) (q : LoopProgram B) → LoopSimulates P p q → ((x : A) (y : B) → P x y → LoopSimulates Q (f x) (g y)) → LoopSimulates Q (bind p f) (bind q g)
    simulates_then (Return x) q same more = subst (λ (r : LoopProgram B). LoopSimulates Q (f x) (bind r g)) (sym same.1) (more x same.0 same.2)
    simulates_then (Ask call go) q same more = (
      (λ x. bind (same.0 x) g),
      ap (λ (r : LoopProgram B). bind r g) same.1,
      λ x dialed. simulates_then (go x) (same.0 (renamed_loop_answer rename call x)) (same.2 x dialed) more,
    )

  -- ---- executions

  -- the renamed calls lead to a related result
  pub record IsLoopSimulated {A B : Type 0} (P : A → B → Type 0) (q : LoopProgram B) (es : List LoopEntry) (x : A) : Type 0 where
    pub result : B
    pub same : P x result
    pub way : Execution q (renamed_calls rename es) (Return result)

  same_result : {A : Type 0} (x y : A) → ◌≡◌ {A = LoopProgram A} (Return x) (Return y) → x ≡ y
  same_result x y is = cc is

  module _ {A B : Type 0} (P : A → B → Type 0) (x : A) where
    pub simulates_to_end : (p : LoopProgram A) (q : LoopProgram B) (es : List LoopEntry) → LoopSimulates P p q → Execution p es (Return x) → LinksAreDialed es → IsLoopSimulated P q es x
    simulates_to_end (Return z) q [] same way dialed =
        record { result = same.0; same = subst (λ (a : A). P a same.0) (sym (same_result x z way)) same.2; way = sym same.1 }
    simulates_to_end (Return z) q (e ∷ es) same way dialed = absurd way
    simulates_to_end (Ask call go) q [] same way dialed = absurd (cc way)
    simulates_to_end (Ask call go) q (e ∷ es) same way dialed =
        let answer = way.0 in
        let all = subst (λ (f : LoopEntry). LinkIsDialed f.call f.answer × LinksAreDialed es) way.1 dialed in
        let after = simulates_to_end (go answer) (same.0 (renamed_loop_answer rename call answer)) es (same.2 answer all.0) way.2 all.1 in
        subst (λ (f : LoopEntry). IsLoopSimulated P q (f ∷ es) x) (sym way.1)
        (record {
          result = after.result;
          same = after.same;
          way =
              subst (λ (r : LoopProgram B). Execution r (entry (renamed_loop_call rename call) (renamed_loop_answer rename call answer) ∷ renamed_calls rename es) (Return after.result)) (sym same.1)
              (renamed_loop_answer rename call answer, refl, after.way);
        })
