use Rattle.std.proofs.Common.{lit≤}
use Rattle.fwd_table_rows.proofs.MaskRoutes.{rise-routes_below}
use Rattle.fwd_table_rows.proofs.Bits.{mask_of_routes_below}
use Rattle.fwd_table_rows.proofs.route.Routes.to.Goals as goal

pub invariant_of-result : goal.invariant_of-result
invariant_of-result c = rw c.put_routes.ensures (rise-routes_below 64 c.args.owed (lit≤ tt))

pub returns-clause-bits : goal.returns-clause-bits
returns-clause-bits c = mask_of_routes_below 64 c.args.owed c.ranges.owed.fits
