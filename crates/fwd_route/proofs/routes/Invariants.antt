-- The mask has a bit for each glob that was looked at and matches.
use Rattle.fwd_route.proofs.Masks.{RoutesBelow}
use Rattle.fwd_route.proofs.routes.Given as goal

abbrev pub invariant-loop-i : goal.invariant-loop-i
invariant-loop-i l = RoutesBelow l.i l.glob-items l.tag l.mask
