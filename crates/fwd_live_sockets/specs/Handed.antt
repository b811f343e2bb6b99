-- How much a link takes.
use Rattle.std.specs.Prelude.{ℕ, ◌≤◌, List, length}
use Rattle.fwd_live_sockets.specs.declared.link.Handed.{Handed}
use Rattle.fwd_live_sockets.specs.declared.link.Handed.TheVariants.{Took, Full, Broken}

-- no more than it was given
abbrev pub TakesAtMost : List ℕ → Handed → Type 0
TakesAtMost bytes (Took taken) = taken ≤ length bytes
TakesAtMost bytes Full = Unit {0}
TakesAtMost bytes Broken = Unit {0}
