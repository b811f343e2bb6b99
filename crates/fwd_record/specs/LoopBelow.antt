-- What contracts see of the loop below.
use Rattle.std.specs.Prelude.{ℕ, false, List, [], ◌∷◌, None}
use Rattle.fwd_outside.specs.Loop.{LoopLog, LoopCounts}

pub record LoopBelow : Type 0 where
  pub call_log : LoopLog
  pub counts : LoopCounts
  pub faults : ℕ

-- stands for none
abbrev pub no_loop : LoopBelow
no_loop = record { call_log = None; counts = record { happenings = 0; greatest = 0; endless = false }; faults = 0 }

-- the first that was noted
abbrev pub first_of : List LoopBelow → LoopBelow
first_of [] = no_loop
first_of (below ∷ later) = below
