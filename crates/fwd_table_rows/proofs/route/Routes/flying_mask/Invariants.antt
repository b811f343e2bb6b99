use Rattle.std.proofs.Common.{◌≡◌, take}
use Rattle.fwd_table_rows.specs.Routes.{mask_of, flying_of}
use Rattle.fwd_table_rows.proofs.route.Routes.flying_mask.Given as goal

abbrev pub invariant-loop-route : goal.invariant-loop-route
invariant-loop-route l = l.mask ≡ mask_of (flying_of (take l.route-index l.route-items))
