use Rattle.std.proofs.Common.{◌≡◌}
use Rattle.fwd_backlog.specs.Listing.{in_order}
use Rattle.fwd_backlog.proofs.order.in_order.Given as goal

abbrev pub invariant-loop-file : goal.invariant-loop-file
invariant-loop-file l = l.ordered.keys ≡ in_order l.yielded
