-- What happened on a link, after further calls.
use Rattle.std.proofs.Common.{◌≡◌, ℕ, ◌⊎◌, inl, inr, true, false, List, [], ◌∷◌, ◌++◌, append_assoc, Some, None, refl, sym, ◌∙◌, ap}
use Rattle.std.proofs.lemmas.Bool.{cases_Bool, eq-eqb, eqb-true}
use Rattle.fwd_outside.specs.Loop.{LoopCall, LoopAnswer, LoopEntry, Start, Wait, Dial, Push, Close, Reply, DropConn, Word}
use Rattle.fwd_flush.specs.Outcome.{Event}
use Rattle.fwd_theorem_delivery.specs.Links.{DialTarget, AnyCall, ReturnsLink, WasDialled, returns_link, on_link, all_on_link, since_dial}

module _ (P : (call : LoopCall) → LoopAnswer call → Type 0) where
  pub among_left : (xs ys : List LoopEntry) → AnyCall P xs → AnyCall P (xs ++ ys)
  among_left [] ys is = absurd is
  among_left (e ∷ xs) ys (inl is) = inl is
  among_left (e ∷ xs) ys (inr is) = inr (among_left xs ys is)

  pub among_right : (xs ys : List LoopEntry) → AnyCall P ys → AnyCall P (xs ++ ys)
  among_right [] ys is = is
  among_right (e ∷ xs) ys is = inr (among_right xs ys is)

  pub among_either : (xs ys : List LoopEntry) → AnyCall P (xs ++ ys) → AnyCall P xs ⊎ AnyCall P ys
  among_either [] ys is = inr is
  among_either (e ∷ xs) ys (inl is) = inl (inl is)
  among_either (e ∷ xs) ys (inr is) = elim (among_either xs ys is) [ inl a ↦ inl (inr a) | inr b ↦ inr b ]

-- no dial among these gave a link
abbrev pub GivesNone : List LoopEntry → Type 0
GivesNone es = (to : DialTarget) (link : ℕ) → WasDialled to link es → ⊥

pub all_on_link-append : (link : ℕ) (xs ys : List LoopEntry) → all_on_link link (xs ++ ys) ≡ all_on_link link xs ++ all_on_link link ys
all_on_link-append link [] ys = refl
all_on_link-append link (e ∷ xs) ys = rw (all_on_link-append link xs ys) (sym (append_assoc (on_link link e.call e.answer) (all_on_link link xs) (all_on_link link ys)))

gives_it : (to : DialTarget) (link : ℕ) (call : LoopCall) (answer : LoopAnswer call) → ReturnsLink to link call answer → returns_link link call answer ≡ true
gives_it to link (Dial output tag) (Some given) is = eq-eqb given link is.1
gives_it to link (Dial output tag) None is = absurd is
gives_it to link (Start ends) answer is = absurd is
gives_it to link (Wait until paused) answer is = absurd is
gives_it to link (Push other bytes) answer is = absurd is
gives_it to link (Close other) answer is = absurd is
gives_it to link (Reply conn bytes) answer is = absurd is
gives_it to link (DropConn conn) answer is = absurd is
gives_it to link Word answer is = absurd is

gives_some : (link : ℕ) (call : LoopCall) (answer : LoopAnswer call) → returns_link link call answer ≡ true → (to : DialTarget) × ReturnsLink to link call answer
gives_some link (Dial output tag) (Some given) is = (record { output = output; tag = tag }, (refl, eqb-true given link is))
gives_some link (Dial output tag) None is = absurd (cc is)
gives_some link (Start ends) answer is = absurd (cc is)
gives_some link (Wait until paused) answer is = absurd (cc is)
gives_some link (Push other bytes) answer is = absurd (cc is)
gives_some link (Close other) answer is = absurd (cc is)
gives_some link (Reply conn bytes) answer is = absurd (cc is)
gives_some link (DropConn conn) answer is = absurd (cc is)
gives_some link Word answer is = absurd (cc is)

-- more happens on a link that was given
pub own_more : (to : DialTarget) (link : ℕ) (es zs : List LoopEntry) → WasDialled to link es → since_dial link (es ++ zs) ≡ since_dial link es ++ all_on_link link zs
own_more to link [] zs given = absurd given
own_more to link (e ∷ es) zs given = elim (cases_Bool (returns_link link e.call e.answer)) [
  | inl is ↦ rw is (ap (λ (l : List Event). on_link link e.call e.answer ++ l) (all_on_link-append link es zs) ∙ sym (append_assoc (on_link link e.call e.answer) (all_on_link link es) (all_on_link link zs)))
  | inr isnt ↦ rw isnt (own_more to link es zs (later given isnt))
]
  where
    later : WasDialled to link (e ∷ es) → returns_link link e.call e.answer ≡ false → WasDialled to link es
    later (inl here) isnt = absurd (cc (sym isnt ∙ gives_it to link e.call e.answer here))
    later (inr there) isnt = there

-- earlier calls don't count
pub own_new : (link : ℕ) (es zs : List LoopEntry) → ((to : DialTarget) → WasDialled to link es → ⊥) → since_dial link (es ++ zs) ≡ since_dial link zs
own_new link [] zs none = refl
own_new link (e ∷ es) zs none = elim (cases_Bool (returns_link link e.call e.answer)) [
  | inl is ↦ let some = gives_some link e.call e.answer is in absurd (none some.0 (inl some.1))
  | inr isnt ↦ rw isnt (own_new link es zs (λ to given. none to (inr given)))
]
