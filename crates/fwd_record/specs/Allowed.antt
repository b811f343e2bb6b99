-- What every loop keeps to in its answers, and what a schedule can say of them.
use Rattle.std.specs.Prelude.{ℕ, ◌<◌, ◌≤◌, Bool, List, [], ◌∷◌, length}
use Rattle.fwd_base.specs.Limits.{longest_piece}
use Rattle.fwd_outside.specs.declared.happening.Happening.{Happening}
use Rattle.fwd_outside.specs.declared.happening.Happening.TheVariants.{Piece, End}
use Rattle.fwd_outside.specs.Loop.{LoopCall, LoopAnswer, LoopEntry, PushAnswer, Wait, Push, Took, Again, Broke, MayOccur}

-- a link accepts no more bytes than were pushed
abbrev pub TakesWithin : List ℕ → PushAnswer → Type 0
TakesWithin bytes (Took taken) = taken ≤ length bytes
TakesWithin bytes Again = Unit {0}
TakesWithin bytes Broke = Unit {0}

-- an event may occur under the mask of its wait
abbrev pub IsAllowed : Bool → (call : LoopCall) → LoopAnswer call → Type 0
IsAllowed endless (Wait until paused) brought = MayOccur endless paused brought
IsAllowed endless (Push link bytes) answer = TakesWithin bytes answer
IsAllowed endless call answer = Unit {0}

-- `endless`: whether the loop never ends
abbrev pub AreAllowed : Bool → List LoopEntry → Type 0
AreAllowed endless [] = Unit {0}
AreAllowed endless (e ∷ es) = IsAllowed endless e.call e.answer × AreAllowed endless es

-- an event that a line can have: not the end, and a read of 1 byte to the longest piece
abbrev pub IsLine : Happening → Type 0
IsLine (Piece input conn bytes) = (0 < length bytes) × (length bytes ≤ longest_piece)
IsLine End = ⊥
IsLine brought = Unit {0}
