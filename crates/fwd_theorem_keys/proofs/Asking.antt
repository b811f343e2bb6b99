-- What holds of each call of a program, and where a call stands.
use Rattle.std.proofs.Common.{◌≡◌, ◌⊎◌, inl, inr, ⊎_elim, List, [], ◌∷◌, ◌++◌, refl, sym, ap, subst, ◌∙◌, append_assoc}
use Rattle.fwd_outside.specs.Program.{entry, Return, Ask, bind, Execution}
use Rattle.fwd_outside.specs.Loop.{LoopCall, LoopAnswer, LoopEntry, LoopProgram}
use Rattle.fwd_secure.specs.declared.keys.Keys.{Keys}
use Rattle.fwd_secure.specs.Handshakes.{Handshakes, no_handshakes}
use Rattle.fwd_secure.specs.Rules.{answers}
use Rattle.fwd_secure.specs.Carried.{Carries}
use Rattle.fwd_secure.proofs.Carrying.{carries_more}

-- P holds of each call, after the calls before it
abbrev pub Each : {R : Type 0} → (List LoopEntry → LoopEntry → Type 0) → LoopProgram R → Type 0
Each P (Return x) = Unit {0}
Each P (Ask call go) = (answer : LoopAnswer call) → P [] (entry call answer) × Each (λ before e. P (entry call answer ∷ before) e) (go answer)

-- Q holds of each call
abbrev pub Asks : {R : Type 0} → (LoopCall → Type 0) → LoopProgram R → Type 0
Asks Q (Return x) = Unit {0}
Asks Q (Ask call go) = Q call × ((answer : LoopAnswer call) → Asks Q (go answer))

pub asks_each : {R : Type 0} (P : List LoopEntry → LoopEntry → Type 0) (Q : LoopCall → Type 0) (p : LoopProgram R) → ((before : List LoopEntry) (call : LoopCall) (answer : LoopAnswer call) → Q call → P before (entry call answer)) → Asks Q p → Each P p
asks_each P Q (Return x) holds asks = tt
asks_each P Q (Ask call go) holds asks = λ answer.
    (holds [] call answer asks.0, asks_each (λ before e. P (entry call answer ∷ before) e) Q (go answer) (λ before c a q. holds (entry call answer ∷ before) c a q) (asks.1 answer))

pub asks_bind : {R S : Type 0} (Q : LoopCall → Type 0) (p : LoopProgram R) (next : R → LoopProgram S) → Asks Q p → ((x : R) → Asks Q (next x)) → Asks Q (bind p next)
asks_bind Q (Return x) next asks later = later x
asks_bind Q (Ask call go) next asks later = (asks.0, λ answer. asks_bind Q (go answer) next (asks.1 answer) later)

nothing_there : (before : List LoopEntry) (e : LoopEntry) (after : List LoopEntry) → [] ≡ before ++ e ∷ after → ⊥
nothing_there [] e after is = cc is
nothing_there (f ∷ before) e after is = cc is

first_same : (x y : LoopEntry) (xs ys : List LoopEntry) → x ∷ xs ≡ y ∷ ys → x ≡ y
first_same x y xs ys is = cc is

rest_same : (x y : LoopEntry) (xs ys : List LoopEntry) → x ∷ xs ≡ y ∷ ys → xs ≡ ys
rest_same x y xs ys is = cc is

pub each : {R : Type 0} (P : List LoopEntry → LoopEntry → Type 0) (p : LoopProgram R) (own : List LoopEntry) (x : LoopProgram R) (before : List LoopEntry) (e : LoopEntry) (after : List LoopEntry)
    → Each P p → Execution p own x → own ≡ before ++ e ∷ after → P before e
each P (Return y) [] x before e after holds way is = absurd (nothing_there before e after is)
each P (Return y) (f ∷ own) x before e after holds way is = absurd way
each P (Ask call go) [] x before e after holds way is = absurd (nothing_there before e after is)
each P (Ask call go) (f ∷ own) x [] e after holds way is =
    subst (P []) (sym way.1 ∙ first_same f e own after is) ((holds way.0).0)
each P (Ask call go) (f ∷ own) x (z ∷ before) e after holds way is =
    subst (λ (g : LoopEntry). P (g ∷ before) e) (sym way.1 ∙ first_same f z own (before ++ e ∷ after) is)
    (each (λ front g. P (entry call way.0 ∷ front) g) (go way.0) own x before e after ((holds way.0).1) way.2 (rest_same f z own (before ++ e ∷ after) is))

-- ---- where a call below stands

pub record Place (keys : Keys) (front : List LoopEntry) (x : LoopEntry) (above : List LoopEntry) : Type 0 where
  pub below_before : List LoopEntry
  pub above_before : List LoopEntry
  pub at : Handshakes
  pub carries : Carries keys no_handshakes below_before above_before at
  pub call : LoopCall
  pub answer : LoopAnswer call
  pub above_after : List LoopEntry
  pub above_is : above ≡ above_before ++ entry call answer ∷ above_after
  pub state : Handshakes
  pub own : List LoopEntry
  pub way : Execution (answers keys at call) own (Return (answer, state))
  pub before : List LoopEntry
  pub after : List LoopEntry
  pub own_is : own ≡ before ++ x ∷ after
  pub front_is : front ≡ below_before ++ before

pub cut : (xs ys front rest : List LoopEntry) (x : LoopEntry) → xs ++ ys ≡ front ++ x ∷ rest
    → ((more : List LoopEntry) × (xs ≡ front ++ x ∷ more)) ⊎ ((later : List LoopEntry) × (front ≡ xs ++ later) × (ys ≡ later ++ x ∷ rest))
cut [] ys front rest x is = inr (front, refl, is)
cut (y ∷ xs) ys [] rest x is = inl (xs, ap (λ (e : LoopEntry). e ∷ xs) (first_same y x (xs ++ ys) rest is))
cut (y ∷ xs) ys (z ∷ front) rest x is =
    let same : y ≡ z = first_same y z (xs ++ ys) (front ++ x ∷ rest) is in
    ⊎_elim {C = ((more : List LoopEntry) × (y ∷ xs ≡ (z ∷ front) ++ x ∷ more)) ⊎ ((later : List LoopEntry) × (z ∷ front ≡ (y ∷ xs) ++ later) × (ys ≡ later ++ x ∷ rest))}
    (λ (here : (more : List LoopEntry) × (xs ≡ front ++ x ∷ more)). inl (here.0, ap (λ (e : LoopEntry). e ∷ xs) same ∙ ap (λ (l : List LoopEntry). z ∷ l) here.1))
    (λ (later : (later : List LoopEntry) × (front ≡ xs ++ later) × (ys ≡ later ++ x ∷ rest)). inr (later.0, ap (λ (l : List LoopEntry). z ∷ l) later.1 ∙ ap (λ (e : LoopEntry). e ∷ (xs ++ later.0)) (sym same), later.2))
    (cut xs ys front rest x (rest_same y z (xs ++ ys) (front ++ x ∷ rest) is))

module _ (keys : Keys) (x : LoopEntry) where
  place_from : (above below b a : List LoopEntry) (k t : Handshakes) → Carries keys no_handshakes b a k → Carries keys k below above t → (front rest : List LoopEntry) → below ≡ front ++ x ∷ rest → Place keys (b ++ front) x (a ++ above)
  place_from [] below b a k t carries (none, same) front rest is = absurd (nothing_there front x rest (sym none ∙ is))
  place_from (e ∷ above) below b a k t carries (own, later, u, parts_are, way, more) front rest is =
      ⊎_elim {C = Place keys (b ++ front) x (a ++ e ∷ above)}
      (λ (here : (more : List LoopEntry) × (own ≡ front ++ x ∷ more)). record {
        below_before = b;
        above_before = a;
        at = k;
        carries = carries;
        call = e.call;
        answer = e.answer;
        above_after = above;
        above_is = refl;
        state = u;
        own = own;
        way = way;
        before = front;
        after = here.0;
        own_is = here.1;
        front_is = refl;
      })
      (λ (past : (f : List LoopEntry) × (front ≡ own ++ f) × (later ≡ f ++ x ∷ rest)).
      subst (λ (l : List LoopEntry). Place keys (b ++ front) x l) (append_assoc a (e ∷ []) above)
      (subst (λ (l : List LoopEntry). Place keys l x ((a ++ e ∷ []) ++ above)) (append_assoc b own past.0 ∙ ap (λ (l : List LoopEntry). b ++ l) (sym past.1))
      (place_from above later (b ++ own) (a ++ e ∷ []) u t (carries_more keys no_handshakes k u b own a e.call e.answer carries way) more past.0 rest past.2)))
      (cut own later front rest x (sym parts_are ∙ is))

  pub place : (front rest above : List LoopEntry) (t : Handshakes) → Carries keys no_handshakes (front ++ x ∷ rest) above t → Place keys front x above
  place front rest above t carries = place_from above (front ++ x ∷ rest) [] [] no_handshakes t (refl, refl) carries front rest refl
