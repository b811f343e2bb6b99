use Rattle.fwd_theorem_crash.proofs.RunSafety.{all_safe}
use Rattle.fwd_theorem_crash.proofs.consistency.crash_points_are_safe.Goals as goal

pub returns : goal.returns
returns c s ends ticks turns first entries left settings full fresh way = all_safe s settings full first ends ticks turns entries left fresh way
