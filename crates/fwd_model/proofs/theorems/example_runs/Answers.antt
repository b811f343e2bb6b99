use Rattle.fwd_model.proofs.Example.{is_lived, is_lived_later}
use Rattle.fwd_model.proofs.theorems.example_runs.Goals as goal

pub returns-clause-first : goal.returns-clause-first
returns-clause-first c ends = is_lived ends

pub returns-clause-later : goal.returns-clause-later
returns-clause-later c ends = is_lived_later ends
