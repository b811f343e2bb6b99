-- The bytes that links took, whatever their numbers are.
use Rattle.std.specs.Prelude.{ℕ, if◌then◌else◌, List, [], ◌∷◌, ◌++◌}
use Rattle.fwd_outside.specs.Loop.{LoopCall, LoopAnswer, LoopEntry, Push}
use Rattle.fwd_script_loop.specs.LinkBytes.{taken_of, leads_to, dialed_by}
use Rattle.fwd_record.specs.Links.{links_by, number_of}

-- `links` are those that dials gave so far, and `targets` their outputs
abbrev pub taken_from : ℕ → (links targets : List ℕ) → (call : LoopCall) → LoopAnswer call → List ℕ
taken_from outputs links targets (Push link bytes) answer =
    if leads_to outputs targets (number_of links link) then taken_of bytes answer else []
taken_from outputs links targets call answer = []

-- the bytes that links of the outputs in a mask took, in order
abbrev pub handed_from : ℕ → (links targets : List ℕ) → List LoopEntry → List ℕ
handed_from outputs links targets [] = []
handed_from outputs links targets (e ∷ es) =
    taken_from outputs links targets e.call e.answer
    ++ handed_from outputs (links ++ links_by e.call e.answer) (dialed_by targets e.call e.answer) es
