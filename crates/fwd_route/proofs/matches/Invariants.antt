use Rattle.std.proofs.Common.{◌+◌, ◌*◌, length}
use Rattle.fwd_route.proofs.ScanInvariant.{Scan, left}
use Rattle.fwd_route.proofs.matches.Given as goal

abbrev pub invariant-steps : goal.invariant-steps
invariant-steps l = Scan l.pattern l.tag l.back l.glob l.text

abbrev pub decreases-steps : goal.decreases-steps
decreases-steps l = left (length l.tag) l.back * (length l.pattern + 1) + length l.glob
