use Rattle.fwd_outside.proofs.UnchangedFiles.{untouched}
use Rattle.fwd_outside.proofs.theorems.changed_only_by_own_calls.Goals as goal

pub returns : goal.returns
returns c name entries files off = untouched name entries files off
