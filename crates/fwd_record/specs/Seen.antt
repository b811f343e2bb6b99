-- What a recorder saw, in order.
use Rattle.std.specs.Prelude.{List, [], ◌∷◌}
use Rattle.std.specs.List.{flat_map}
use Rattle.fwd_outside.specs.Loop.{LoopEntry}

pub data Seen : Type 0 where
  -- a call with its answer
  Answered : (entry : LoopEntry) → Seen
  -- the run was stopped, without a call
  Stopped : Seen

abbrev pub calls_in : Seen → List LoopEntry
calls_in (Answered entry) = entry ∷ []
calls_in Stopped = []

-- the calls alone
abbrev pub calls_of : List Seen → List LoopEntry
calls_of seen = flat_map calls_in seen
