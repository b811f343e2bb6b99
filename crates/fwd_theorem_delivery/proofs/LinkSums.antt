-- The bytes taken over links with rising numbers.
use Rattle.std.proofs.Common.{◌≡◌, ℕ, ◌+◌, ◌<◌, ◌≤◌, ◌⊎◌, List, [], ◌∷◌, ◌++◌, append_assoc, length, Some, None, inl, inr, refl, sym, ◌∙◌, ap, subst, arith}
use Rattle.std.specs.Prelude.{◌==◌, if◌then◌else◌}
use Rattle.std.proofs.lemmas.Bool.{cases_Bool, eq-eqb, ne_eqb, eqb-true}
use Rattle.fwd_outside.specs.Loop.{LoopCall, LoopAnswer, LoopEntry, Start, Wait, Dial, Push, Close, Reply, DropConn, Word}
use Rattle.fwd_outside.specs.NewLinks.{greatest_by, IsNewLink, AreNewLinks, greatest_after}
use Rattle.fwd_flush.specs.Outcome.{bytes_pushed}
use Rattle.fwd_theorem_delivery.specs.Links.{DialTarget, ReturnsLink, WasDialled, since_dial}
use Rattle.fwd_theorem_delivery.specs.TakenBytes.{links_by, links_of, taken_over}
use Rattle.fwd_theorem_delivery.proofs.OwnEvents.{GivesNone}

-- ---- new links

-- a call that gives no link
module _ (output : ℕ) where
  pub one_none : (greatest : ℕ) (call : LoopCall) (answer : LoopAnswer call) → ((to : DialTarget) (link : ℕ) → ReturnsLink to link call answer → ⊥)
      → IsNewLink greatest call answer × (greatest_by greatest call answer ≡ greatest) × (links_by output call answer ≡ [])
  one_none greatest (Dial other tag) (Some link) none = absurd (none (record { output = other; tag = tag }) link (refl, refl))
  one_none greatest (Dial other tag) None none = (tt, refl, refl)
  one_none greatest (Start ends) answer none = (tt, refl, refl)
  one_none greatest (Wait until paused) answer none = (tt, refl, refl)
  one_none greatest (Push link bytes) answer none = (tt, refl, refl)
  one_none greatest (Close link) answer none = (tt, refl, refl)
  one_none greatest (Reply conn bytes) answer none = (tt, refl, refl)
  one_none greatest (DropConn conn) answer none = (tt, refl, refl)
  one_none greatest Word answer none = (tt, refl, refl)

  pub links_none : (ys : List LoopEntry) → GivesNone ys → links_of output ys ≡ []
  links_none [] none = refl
  links_none (e ∷ ys) none = rw ((one_none 0 e.call e.answer (λ to link gives. none to link (inl gives))).2) (links_none ys (λ to link given. none to link (inr given)))

  pub links_append : (xs ys : List LoopEntry) → links_of output (xs ++ ys) ≡ links_of output xs ++ links_of output ys
  links_append [] ys = refl
  links_append (e ∷ xs) ys = rw (links_append xs ys) (sym (append_assoc (links_by output e.call e.answer) (links_of output xs) (links_of output ys)))

pub new_none : (greatest : ℕ) (ys : List LoopEntry) → GivesNone ys → AreNewLinks greatest ys × (greatest_after greatest ys ≡ greatest)
new_none greatest [] none = (tt, refl)
new_none greatest (e ∷ ys) none =
    let one = one_none 0 greatest e.call e.answer (λ to link gives. none to link (inl gives)) in
    let rest = new_none (greatest_by greatest e.call e.answer) ys (λ to link given. none to link (inr given)) in
    ((one.0, rest.0), rest.1 ∙ one.1)

one_given : (to : DialTarget) (link greatest : ℕ) (call : LoopCall) (answer : LoopAnswer call) → ReturnsLink to link call answer → IsNewLink greatest call answer → (greatest < link) × (greatest_by greatest call answer ≡ link)
one_given to link greatest (Dial other tag) (Some given) gives new = (subst (λ (l : ℕ). greatest < l) gives.1 new, gives.1)
one_given to link greatest (Dial other tag) None gives new = absurd gives
one_given to link greatest (Start ends) answer gives new = absurd gives
one_given to link greatest (Wait until paused) answer gives new = absurd gives
one_given to link greatest (Push other bytes) answer gives new = absurd gives
one_given to link greatest (Close other) answer gives new = absurd gives
one_given to link greatest (Reply conn bytes) answer gives new = absurd gives
one_given to link greatest (DropConn conn) answer gives new = absurd gives
one_given to link greatest Word answer gives new = absurd gives

one_rises : (greatest : ℕ) (call : LoopCall) (answer : LoopAnswer call) → IsNewLink greatest call answer → greatest ≤ greatest_by greatest call answer
one_rises greatest (Dial other tag) (Some given) new = omega (arith, new)
one_rises greatest (Dial other tag) None new = omega arith
one_rises greatest (Start ends) answer new = omega arith
one_rises greatest (Wait until paused) answer new = omega arith
one_rises greatest (Push other bytes) answer new = omega arith
one_rises greatest (Close other) answer new = omega arith
one_rises greatest (Reply conn bytes) answer new = omega arith
one_rises greatest (DropConn conn) answer new = omega arith
one_rises greatest Word answer new = omega arith

-- a link that is returned is above all before
pub given_above : (greatest : ℕ) (es : List LoopEntry) (to : DialTarget) (link : ℕ) → AreNewLinks greatest es → WasDialled to link es → greatest < link
given_above greatest [] to link new given = absurd given
given_above greatest (e ∷ es) to link new (inl here) = (one_given to link greatest e.call e.answer here new.0).0
given_above greatest (e ∷ es) to link new (inr there) =
    let first : greatest ≤ greatest_by greatest e.call e.answer = one_rises greatest e.call e.answer new.0 in
    let rest : greatest_by greatest e.call e.answer < link = given_above (greatest_by greatest e.call e.answer) es to link new.1 there in
    omega (arith, first, rest)

-- ---- sums over links

abbrev pub IsIn : ℕ → List ℕ → Type 0
IsIn link [] = ⊥
IsIn link (x ∷ xs) = (x ≡ link) ⊎ IsIn link xs

in_either : (link : ℕ) (xs ys : List ℕ) → IsIn link (xs ++ ys) → IsIn link xs ⊎ IsIn link ys
in_either link [] ys is = inr is
in_either link (x ∷ xs) ys (inl is) = inl (inl is)
in_either link (x ∷ xs) ys (inr is) = elim (in_either link xs ys is) [ inl a ↦ inl (inr a) | inr b ↦ inr b ]

one_in : (output link : ℕ) (call : LoopCall) (answer : LoopAnswer call) → IsIn link (links_by output call answer) → (to : DialTarget) × (to.output ≡ output) × ReturnsLink to link call answer
one_in output link (Dial other tag) (Some given) is = elim (cases_Bool (other == output)) [
  | inl same ↦ (record { output = other; tag = tag }, eqb-true other output same, (refl, first (rw same at is)))
  | inr differs ↦ absurd (rw differs at is)
]
  where
    first : IsIn link (given ∷ []) → given ≡ link
    first (inl here) = here
    first (inr there) = absurd there
one_in output link (Dial other tag) None is = absurd is
one_in output link (Start ends) answer is = absurd is
one_in output link (Wait until paused) answer is = absurd is
one_in output link (Push other bytes) answer is = absurd is
one_in output link (Close other) answer is = absurd is
one_in output link (Reply conn bytes) answer is = absurd is
one_in output link (DropConn conn) answer is = absurd is
one_in output link Word answer is = absurd is

pub in_given : (output link : ℕ) (es : List LoopEntry) → IsIn link (links_of output es) → (to : DialTarget) × (to.output ≡ output) × WasDialled to link es
in_given output link [] is = absurd is
in_given output link (e ∷ es) is = elim (in_either link (links_by output e.call e.answer) (links_of output es) is) [
  | inl here ↦ let one = one_in output link e.call e.answer here in (one.0, one.1, inl one.2)
  | inr there ↦ let rest = in_given output link es there in (rest.0, rest.1, inr rest.2)
]

pub over_append : (xs ys : List ℕ) (es : List LoopEntry) → taken_over (xs ++ ys) es ≡ taken_over xs es + taken_over ys es
over_append [] ys es = omega arith
over_append (x ∷ xs) ys es = let rest : taken_over (xs ++ ys) es ≡ taken_over xs es + taken_over ys es = over_append xs ys es in omega (arith, rest)

pub over_same : (links : List ℕ) (es es2 : List LoopEntry) → ((link : ℕ) → IsIn link links → bytes_pushed (since_dial link es2) ≡ bytes_pushed (since_dial link es)) → taken_over links es2 ≡ taken_over links es
over_same [] es es2 same = refl
over_same (link ∷ links) es es2 same = rw (same link (inl refl), over_same links es es2 (λ l is. same l (inr is))) refl

-- that many more for each time that a link is among them
abbrev pub added : ℕ → ℕ → List ℕ → ℕ
added link more [] = 0
added link more (x ∷ xs) = (if x == link then more else 0) + added link more xs

pub over_grown : (link more : ℕ) (links : List ℕ) (es es2 : List LoopEntry)
    → ((l : ℕ) → IsIn l links → length (bytes_pushed (since_dial l es2)) ≡ length (bytes_pushed (since_dial l es)) + (if l == link then more else 0)) → taken_over links es2 ≡ taken_over links es + added link more links
over_grown link more [] es es2 grown = refl
over_grown link more (x ∷ links) es es2 grown =
    let one : length (bytes_pushed (since_dial x es2)) ≡ length (bytes_pushed (since_dial x es)) + (if x == link then more else 0) = grown x (inl refl) in
    let rest : taken_over links es2 ≡ taken_over links es + added link more links = over_grown link more links es es2 (λ l is. grown l (inr is)) in
    omega (arith, one, rest)

added_append : (link more : ℕ) (xs ys : List ℕ) → added link more (xs ++ ys) ≡ added link more xs + added link more ys
added_append link more [] ys = omega arith
added_append link more (x ∷ xs) ys = let rest : added link more (xs ++ ys) ≡ added link more xs + added link more ys = added_append link more xs ys in omega (arith, rest)

added_never : (link more : ℕ) (xs : List ℕ) → (IsIn link xs → ⊥) → added link more xs ≡ 0
added_never link more [] never = refl
added_never link more (x ∷ xs) never = rw (ne_eqb x link (λ e. never (inl e)), added_never link more xs (λ is. never (inr is))) refl

added_here : (to : DialTarget) (link output more : ℕ) (call : LoopCall) (answer : LoopAnswer call) → ReturnsLink to link call answer → added link more (links_by output call answer) ≡ (if to.output == output then more else 0)
added_here to link output more (Dial other tag) (Some given) gives =
    let same : other ≡ to.output = ap (λ (a : DialTarget). a.output) gives.0 in
    elim (cases_Bool (to.output == output)) [
      | inl is ↦ rw (ap (λ (o : ℕ). o == output) same ∙ is, is, eq-eqb given link gives.1) (omega arith)
      | inr isnt ↦ rw (ap (λ (o : ℕ). o == output) same ∙ isnt, isnt) refl
    ]
added_here to link output more (Dial other tag) None gives = absurd gives
added_here to link output more (Start ends) answer gives = absurd gives
added_here to link output more (Wait until paused) answer gives = absurd gives
added_here to link output more (Push other bytes) answer gives = absurd gives
added_here to link output more (Close other) answer gives = absurd gives
added_here to link output more (Reply conn bytes) answer gives = absurd gives
added_here to link output more (DropConn conn) answer gives = absurd gives
added_here to link output more Word answer gives = absurd gives

-- a later link isn't one of this call
not_before : (greatest : ℕ) (e : LoopEntry) (es : List LoopEntry) (to : DialTarget) (link output : ℕ) → AreNewLinks greatest (e ∷ es) → WasDialled to link es → IsIn link (links_by output e.call e.answer) → ⊥
not_before greatest e es to link output new there is =
    let one = one_in output link e.call e.answer is in
    let above : greatest_by greatest e.call e.answer < link = given_above (greatest_by greatest e.call e.answer) es to link new.1 there in
    let same : greatest_by greatest e.call e.answer ≡ link = (one_given one.0 link greatest e.call e.answer one.2 new.0).1 in
    omega (arith, above, same)

-- a link is among those of its output once, and never among others
pub added_once : (greatest : ℕ) (es : List LoopEntry) (to : DialTarget) (link output more : ℕ) → AreNewLinks greatest es → WasDialled to link es → added link more (links_of output es) ≡ (if to.output == output then more else 0)
added_once greatest [] to link output more new given = absurd given
added_once greatest (e ∷ es) to link output more new (inl here) =
    added_append link more (links_by output e.call e.answer) (links_of output es)
    ∙ rw (added_here to link output more e.call e.answer here, added_never link more (links_of output es) never) (omega arith)
  where
    never : IsIn link (links_of output es) → ⊥
    never is =
        let again = in_given output link es is in
        let above : greatest_by greatest e.call e.answer < link = given_above (greatest_by greatest e.call e.answer) es again.0 link new.1 again.2 in
        let same : greatest_by greatest e.call e.answer ≡ link = (one_given to link greatest e.call e.answer here new.0).1 in
        omega (arith, above, same)
added_once greatest (e ∷ es) to link output more new (inr there) =
    added_append link more (links_by output e.call e.answer) (links_of output es)
    ∙ rw (added_never link more (links_by output e.call e.answer) (not_before greatest e es to link output new there), added_once (greatest_by greatest e.call e.answer) es to link output more new.1 there) (omega arith)
