-- Calls of a flush are on an open link.
use Rattle.std.proofs.Common.{◌≡◌, ◌⊎◌, inl, inr, ℕ, ◌+◌, Bool, true, if◌then◌else◌, List, [], ◌∷◌, ◌++◌, append_assoc, refl, sym, subst, arith}
use Rattle.std.proofs.lemmas.Bool.{eq-eqb}
use Rattle.std.proofs.lemmas.List.{append-nil}
use Rattle.fwd_outside.specs.Loop.{LoopCall, LoopAnswer, LoopEntry, Push, Close}
use Rattle.fwd_flush.specs.Outcome.{Event, Pushed}
use Rattle.fwd_theorem_delivery.specs.Links.{ReturnsLink, on_link, all_on_link, close_of, close_count}
use Rattle.fwd_theorem_delivery.specs.OpenLinks.{IsOpenLink, HasOpenLink, AreOnOpenLinks}
use Rattle.fwd_theorem_delivery.proofs.OwnEvents.{among_left}
use Rattle.fwd_theorem_delivery.proofs.LinkCalls.{IsOn, AreOn, CloseIsLast, closes_link}
use Rattle.fwd_theorem_delivery.proofs.LinkClosures.{close_count-append}

-- ---- calls one after another

open_both : (before xs ys : List LoopEntry) → AreOnOpenLinks before xs → AreOnOpenLinks (before ++ xs) ys → AreOnOpenLinks before (xs ++ ys)
open_both before [] ys first second = subst (λ (l : List LoopEntry). AreOnOpenLinks l ys) (append-nil before) second
open_both before (e ∷ xs) ys first second =
    (first.0, open_both (before ++ e ∷ []) xs ys first.1 (subst (λ (l : List LoopEntry). AreOnOpenLinks l ys) (sym (append_assoc before (e ∷ []) xs)) second))

-- a call that needs no link
pub opened_one : (calls : List LoopEntry) (e : LoopEntry) → AreOnOpenLinks [] calls → HasOpenLink calls e.call → AreOnOpenLinks [] (calls ++ e ∷ [])
opened_one calls e opened has = open_both [] calls (e ∷ []) opened (has, tt)

-- ---- calls that are on no link

no_parts : (xs ys : List Event) → xs ++ ys ≡ [] → (xs ≡ []) × (ys ≡ [])
no_parts [] ys none = (refl, none)
no_parts (x ∷ xs) ys none = absurd (cc none)

abbrev once : Bool → ℕ
once b = if b then 1 else 0

needs_none : (before : List LoopEntry) (call : LoopCall) (answer : LoopAnswer call) → ((link : ℕ) → on_link link call answer ≡ []) → ((link : ℕ) → close_of link call ≡ 0) → HasOpenLink before call
needs_none before (Push link bytes) answer nothing unclosed =
    let pushed : (if true then Pushed bytes answer ∷ [] else []) ≡ [] = subst (λ (b : Bool). (if b then Pushed bytes answer ∷ [] else []) ≡ []) (eq-eqb link link refl) (nothing link) in
    absurd (cc pushed)
needs_none before (Close link) answer nothing unclosed =
    let closes : once true ≡ 0 = subst (λ (b : Bool). once b ≡ 0) (eq-eqb link link refl) (unclosed link) in absurd (omega (arith, closes))
needs_none before call answer nothing unclosed = tt

on_none : (before ys : List LoopEntry) → ((link : ℕ) → all_on_link link ys ≡ []) → ((link : ℕ) → close_count link ys ≡ 0) → AreOnOpenLinks before ys
on_none before [] nothing unclosed = tt
on_none before (e ∷ ys) nothing unclosed = (
  needs_none before e.call e.answer (λ link. (no_parts (on_link link e.call e.answer) (all_on_link link ys) (nothing link)).0)
      (λ link. let all : close_of link e.call + close_count link ys ≡ 0 = unclosed link in omega (arith, all)),
  on_none (before ++ e ∷ []) ys (λ link. (no_parts (on_link link e.call e.answer) (all_on_link link ys) (nothing link)).1)
      (λ link. let all : close_of link e.call + close_count link ys ≡ 0 = unclosed link in omega (arith, all)),
)

pub opened_aside : (calls ys : List LoopEntry) → AreOnOpenLinks [] calls → ((link : ℕ) → all_on_link link ys ≡ []) → ((link : ℕ) → close_count link ys ≡ 0) → AreOnOpenLinks [] (calls ++ ys)
opened_aside calls ys opened nothing unclosed = open_both [] calls ys opened (on_none calls ys nothing unclosed)

-- ---- calls of a flush, which are on its link

has_link : (before : List LoopEntry) (link : ℕ) (call : LoopCall) → IsOn link call → IsOpenLink link before → HasOpenLink before call
has_link before link (Push other bytes) on is_open = subst (λ (l : ℕ). IsOpenLink l before) (sym on) is_open
has_link before link (Close other) on is_open = subst (λ (l : ℕ). IsOpenLink l before) (sym on) is_open
has_link before link call on is_open = tt

closes_none : (link : ℕ) (call : LoopCall) → closes_link call ≡ 0 → close_of link call ≡ 0
closes_none link (Close other) none = absurd (omega (arith, none))
closes_none link call none = refl

still_open : (before : List LoopEntry) (link : ℕ) (e : LoopEntry) → closes_link e.call ≡ 0 → IsOpenLink link before → IsOpenLink link (before ++ e ∷ [])
still_open before link e none is_open =
    let was : close_count link before ≡ 0 = is_open.unclosed in
    let all : close_count link (before ++ e ∷ []) ≡ close_count link before + (close_of link e.call + 0) = close_count-append link before (e ∷ []) in
    let here : close_of link e.call ≡ 0 = closes_none link e.call none in
    record { dialed = (is_open.dialed.0, among_left (ReturnsLink is_open.dialed.0 link) before (e ∷ []) is_open.dialed.1); unclosed = omega (arith, was, all, here) }

on_its_link : (before : List LoopEntry) (link : ℕ) (xs : List LoopEntry) → AreOn link xs → CloseIsLast xs → IsOpenLink link before → AreOnOpenLinks before xs
on_its_link before link [] on last is_open = tt
on_its_link before link (e ∷ xs) on last is_open =
    (has_link before link e.call on.0 is_open, by last.0 (λ none. on_its_link (before ++ e ∷ []) link xs on.1 last.1 (still_open before link e none is_open)))
  where
    by : (closes_link e.call ≡ 0) ⊎ (xs ≡ []) → (closes_link e.call ≡ 0 → AreOnOpenLinks (before ++ e ∷ []) xs) → AreOnOpenLinks (before ++ e ∷ []) xs
    by (inl none) more = more none
    by (inr ended) more = subst (λ (l : List LoopEntry). AreOnOpenLinks (before ++ e ∷ []) l) (sym ended) tt

-- a call after which the link is open, the calls of its flush, and calls that are on no link
pub opened_flush : (calls : List LoopEntry) (first : LoopEntry) (xs ys : List LoopEntry) (link : ℕ) → AreOnOpenLinks [] calls → HasOpenLink calls first.call → IsOpenLink link (calls ++ first ∷ [])
    → AreOn link xs → CloseIsLast xs → ((other : ℕ) → all_on_link other ys ≡ []) → ((other : ℕ) → close_count other ys ≡ 0) → AreOnOpenLinks [] (calls ++ ((first ∷ xs) ++ ys))
opened_flush calls first xs ys link opened has is_open on last nothing unclosed =
    open_both [] calls ((first ∷ xs) ++ ys) opened
    (open_both calls (first ∷ xs) ys (has, on_its_link (calls ++ first ∷ []) link xs on last is_open) (on_none (calls ++ first ∷ xs) ys nothing unclosed))
