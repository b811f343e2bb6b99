-- Actions that add facts to a history.
use Rattle.std.proofs.Common.{◌≡◌, [], ◌∷◌, ◌++◌, refl, sym, ◌∙◌, ap}
use Rattle.fwd_outside.specs.Program.{bind}
use Rattle.fwd_model.specs.Fact.{Fact, History}
use Rattle.fwd_model.specs.Trace.{Action}
use Rattle.fwd_model.specs.Notes.{note_then, note}
use Rattle.fwd_theorem_trace.proofs.Actions.{IsInnerFact}
use Rattle.fwd_theorem_delivery.proofs.Results.{Yields, gives_so, gives_then}

-- facts, given oldest first, logged after a history
abbrev pub onto : History → History → History
onto [] h = h
onto (fact ∷ new) h = onto new (fact ∷ h)

onto_both : (one two h : History) → onto (one ++ two) h ≡ onto two (onto one h)
onto_both [] two h = refl
onto_both (fact ∷ one) two h = onto_both one two (fact ∷ h)

-- facts were added, and P holds of them, the oldest first
abbrev pub Adds : (History → Type 0) → History → History → Type 0
Adds P h now = (new : History) × (now ≡ onto new h) × P new

pub adds_both : (P Q R : History → Type 0) (h at now : History) → ((one two : History) → P one → Q two → R (one ++ two)) → Adds P h at → Adds Q at now → Adds R h now
adds_both P Q R h at now both (one, is, so) (two, is2, so2) = (one ++ two, is2 ∙ (ap (onto two) is ∙ sym (onto_both one two h)), both one two so so2)

-- facts about existing chunks
abbrev pub AreInner : History → Type 0
AreInner [] = Unit {0}
AreInner (fact ∷ facts) = IsInnerFact fact × AreInner facts

pub inner_both : (one two : History) → AreInner one → AreInner two → AreInner (one ++ two)
inner_both [] two first second = second
inner_both (fact ∷ one) two first second = (first.0, inner_both one two first.1 second)

-- only such facts were added
abbrev pub AddsInner : History → History → Type 0
AddsInner h now = Adds AreInner h now

later_both : (h at now : History) → AddsInner h at → AddsInner at now → AddsInner h now
later_both h at now first second = adds_both AreInner AreInner AreInner h at now inner_both first second

-- ---- actions

pub later_nothing : (h : History) → AddsInner h h
later_nothing h = ([], refl, tt)

later_one : (fact : Fact) (h : History) → IsInnerFact fact → AddsInner h (fact ∷ h)
later_one fact h inner = (fact ∷ [], refl, (inner, tt))

pub later_only : (fact : Fact) (h : History) → IsInnerFact fact → Yields (AddsInner h) (note fact h)
later_only fact h inner = λ _. later_one fact h inner

pub later_note : (fact : Fact) (h : History) (next : History → Action History) → IsInnerFact fact → Yields (AddsInner (fact ∷ h)) (next (fact ∷ h)) → Yields (AddsInner h) (note_then fact h next)
later_note fact h next inner more = λ _. gives_so (AddsInner (fact ∷ h)) (AddsInner h) (next (fact ∷ h)) (λ now later. later_both h (fact ∷ h) now (later_one fact h inner) later) more

pub later_then : (h : History) (p : Action History) (next : History → Action History) → Yields (AddsInner h) p → ((at : History) → Yields (AddsInner at) (next at)) → Yields (AddsInner h) (bind p next)
later_then h p next first second =
    gives_then (AddsInner h) (AddsInner h) p next first (λ at is. gives_so (AddsInner at) (AddsInner h) (next at) (λ now later. later_both h at now is later) (second at))
