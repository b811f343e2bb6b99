use Rattle.fwd_route.proofs.TestDecides.{globs_tell}
use Rattle.fwd_route.proofs.theorems.test_decides_globs.Goals as goal

pub returns : goal.returns
returns c = globs_tell
