-- How many bytes the links of an output took.
use Rattle.std.specs.Prelude.{ℕ, ◌+◌, ◌==◌, if◌then◌else◌, List, [], ◌∷◌, ◌++◌, length, Some}
use Rattle.fwd_outside.specs.Loop.{LoopCall, LoopAnswer, LoopEntry, Dial}
use Rattle.fwd_flush.specs.Outcome.{bytes_pushed}
use Rattle.fwd_theorem_delivery.specs.Links.{since_dial}

-- the links that dials to an output returned, in order
abbrev pub links_by : ℕ → (call : LoopCall) → LoopAnswer call → List ℕ
links_by output (Dial other tag) (Some link) = if other == output then link ∷ [] else []
links_by output call answer = []

abbrev pub links_of : ℕ → List LoopEntry → List ℕ
links_of output [] = []
links_of output (e ∷ es) = links_by output e.call e.answer ++ links_of output es

-- how many bytes the pushes on these links took
abbrev pub taken_over : List ℕ → List LoopEntry → ℕ
taken_over [] es = 0
taken_over (link ∷ links) es = length (bytes_pushed (since_dial link es)) + taken_over links es
