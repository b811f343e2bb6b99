-- The events that bytes encode or values are.
use Rattle.std.proofs.Common.{◌≡◌, ◌⊎◌, ◌↔◌, ℕ, List, [], ◌∷◌, ◌++◌, Option, Some, None, option_map, Ok, Err, refl, ap, subst, append_assoc, inl, inr}
use Rattle.fwd_event.specs.declared.event.Event.{Event}
use Rattle.fwd_event.specs.declared.errors.EventErr.{EventErr}
use Rattle.fwd_event.specs.Event.{AreEvents}
use Rattle.fwd_event.specs.ReadAnswers.{EventsRead, IsAnswer, IsMemory}
use Rattle.fwd_wire.specs.Message.{in_front}

pub unpacked_all : (es : List Event) (b : List ℕ) → ((answer : EventsRead) → IsMemory (Ok es) ⊎ ((Ok es ≡ answer) ↔ IsAnswer answer b)) → AreEvents es b
unpacked_all es b h = elim (h (Ok es)) [ inl m ↦ absurd m | inr k ↦ k.0 refl ]

not_both : (e : EventErr) (es : List Event) → ◌≡◌ {A = EventsRead} (Err e) (Ok es) → ⊥
not_both e es h = cc

pub unpacked_none : (e : EventErr) (b : List ℕ) → (IsMemory (Err e) → ⊥) → ((answer : EventsRead) → IsMemory (Err e) ⊎ ((Err e ≡ answer) ↔ IsAnswer answer b)) → (es : List Event) → AreEvents es b → ⊥
unpacked_none e b never h es a = elim (h (Ok es)) [ inl m ↦ absurd (never m) | inr k ↦ absurd (not_both e es (k.1 a)) ]

pub never_by : (e x : EventErr) → e ≡ x → (IsMemory (Err x) → ⊥) → IsMemory (Err e) → ⊥
never_by e x same never m = never (subst (λ (y : EventErr). IsMemory (Err y)) same m)

-- events before those that are still to be read
abbrev pub behind : List Event → Option (List Event) → Option (List Event)
behind es o = option_map (λ (fs : List Event). es ++ fs) o

pub one_more : (es : List Event) (e : Event) (o : Option (List Event)) → behind (es ++ e ∷ []) o ≡ behind es (in_front (Some e) o)
one_more es e (Some fs) = ap Some (append_assoc es (e ∷ []) fs)
one_more es e None = refl
