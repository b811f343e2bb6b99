-- Actions that log facts.
use Rattle.std.specs.Prelude.{Bool, true, false, List, [], ◌∷◌}
use Rattle.fwd_outside.specs.Program.{Return, Ask}
use Rattle.fwd_model.specs.Fact.{Fact, History}
use Rattle.fwd_model.specs.Trace.{Action, Note}

-- log a fact, and go on with the longer history
abbrev pub note_then : {R : Type 0} → Fact → History → (History → Action R) → Action R
note_then fact h next = Ask (Note fact) (λ _. next (fact ∷ h))

abbrev pub note : Fact → History → Action History
note fact h = note_then fact h Return

abbrev pub is_empty : {T : Type 0} → List T → Bool
is_empty [] = true
is_empty (x ∷ xs) = false
