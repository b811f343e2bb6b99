use Rattle.std.proofs.Common.{◌≡◌, sym, subst, arith}
use Rattle.std.proofs.lemmas.Grind.{common_steps}
use Rattle.fwd_table_rows.specs.declared.route.Route.{Route}
use Rattle.fwd_table_rows.specs.Routes.{RiseFrom, mask_of, flying_of, IsMaskOf}
use Rattle.fwd_table_rows.proofs.RouteOrder.{output_below, rise-filter}
use Rattle.fwd_table_rows.proofs.Bits.{mask_has_bits}
use Rattle.fwd_table_rows.proofs.Masks.{kept_more, left_more}
use Rattle.fwd_table_rows.proofs.route.Routes.flying_mask.Goals as goal
use Rattle.fwd_table_rows.proofs.route.Routes.flying_mask.Goals.{then-route, else-route}

pub overflow_shl-mask : goal.overflow_shl-mask
overflow_shl-mask c =
    let rise : RiseFrom 0 c.deref-route-items.result.now = rw c.deref-route-items.ensures.value c.self.invariant in
    output_below 0 c.deref-route-items.result.now c.loop-route.route-index _ rise c.loop-route-test.true

pub loop-route-preserved : goal.loop-route-preserved
loop-route-preserved c =
    let rise : RiseFrom 0 c.deref-route-items.result.now = rw c.deref-route-items.ensures.value c.self.invariant in
    elim c.if-route.branch [
      | then-route w ↦ rw w.mask-is (kept_more (λ (r : Route). r.flying) c.deref-route-items.result.now c.loop-route.route-index _ c.loop-route.mask rise c.loop-route-test.true w.if-route.true c.loop-route.invariant)
      | else-route w ↦ rw w.mask-is (left_more (λ (r : Route). r.flying) c.deref-route-items.result.now c.loop-route.route-index _ c.loop-route.mask c.loop-route-test.true w.if-route.false c.loop-route.invariant)
    ]

pub returns-clause-bits : goal.returns-clause-bits
returns-clause-bits c =
    let rise : RiseFrom 0 c.args.self.now = rw (← c.self.view_is) c.self.invariant in
    let value : c.loop-route.mask ≡ mask_of (flying_of c.args.self.now) = grind (arith, common_steps) in
    subst (IsMaskOf (flying_of c.args.self.now)) (sym value) (mask_has_bits 0 _ (rise-filter (λ (r : Route). r.flying) 0 _ rise))
