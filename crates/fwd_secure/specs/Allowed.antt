-- The calls of a rule over a loop below that brings only events that may occur.
use Rattle.std.specs.Prelude.{false, List, [], ◌∷◌, Option, Some, None}
use Rattle.fwd_outside.specs.Log.{RunsProgram}
use Rattle.fwd_outside.specs.Loop.{LoopCall, LoopAnswer, LoopEntry, LoopLog, LoopProgram, Wait, MayOccur}

-- The answer of a wait is an event that may occur: none of an input that the wait pauses. It may be `End`.
abbrev pub MayAnswer : (call : LoopCall) → LoopAnswer call → Type 0
MayAnswer (Wait until paused) brought = MayOccur false paused brought
MayAnswer call answer = Unit {0}

abbrev pub AllMayOccur : List LoopEntry → Type 0
AllMayOccur [] = Unit {0}
AllMayOccur (e ∷ es) = MayAnswer e.call e.answer × AllMayOccur es

-- the calls that were made, with a result or without
abbrev pub calls_made : {R : Type 0} (old new : LoopLog) (program : LoopProgram R) (r : Option R)
    → RunsProgram old new program r → List LoopEntry
calls_made old new program (Some result) made = made.entries
calls_made old new program None made = made.1.entries

-- the calls of a program were made, and each event that came may occur
pub record RunsAllowed {R : Type 0} (old new : LoopLog) (program : LoopProgram R) (r : Option R)
    : Type 0 where
  pub made : RunsProgram old new program r
  pub allowed : AllMayOccur (calls_made old new program r made)
