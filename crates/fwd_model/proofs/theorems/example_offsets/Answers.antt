use Rattle.fwd_model.proofs.ExampleOffsets.{runs_first, runs_second}
use Rattle.fwd_model.proofs.theorems.example_offsets.Goals as goal

pub returns-clause-first : goal.returns-clause-first
returns-clause-first c = runs_first

pub returns-clause-second : goal.returns-clause-second
returns-clause-second c = runs_second
