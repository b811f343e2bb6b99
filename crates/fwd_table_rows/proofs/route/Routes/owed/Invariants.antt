use Rattle.std.proofs.Common.{◌≡◌, take}
use Rattle.fwd_table_rows.specs.Routes.{mask_of}
use Rattle.fwd_table_rows.proofs.route.Routes.owed.Given as goal

abbrev pub invariant-loop-route : goal.invariant-loop-route
invariant-loop-route l = l.mask ≡ mask_of (take l.route-index l.route-items)
