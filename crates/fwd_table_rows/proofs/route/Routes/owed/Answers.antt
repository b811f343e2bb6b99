use Rattle.std.proofs.Common.{◌≡◌, sym, subst, arith}
use Rattle.std.proofs.lemmas.Grind.{common_steps}
use Rattle.fwd_table_rows.specs.Routes.{RiseFrom, mask_of, IsMaskOf}
use Rattle.fwd_table_rows.proofs.RouteOrder.{output_below}
use Rattle.fwd_table_rows.proofs.Bits.{mask_has_bits}
use Rattle.fwd_table_rows.proofs.Masks.{mask_more}
use Rattle.fwd_table_rows.proofs.route.Routes.owed.Goals as goal

pub overflow_shl-mask : goal.overflow_shl-mask
overflow_shl-mask c =
    let rise : RiseFrom 0 c.deref-route-items.result.now = rw c.deref-route-items.ensures.value c.self.invariant in
    output_below 0 c.deref-route-items.result.now c.loop-route.route-index _ rise c.loop-route-test.true

pub loop-route-preserved : goal.loop-route-preserved
loop-route-preserved c =
    let rise : RiseFrom 0 c.deref-route-items.result.now = rw c.deref-route-items.ensures.value c.self.invariant in
    mask_more c.deref-route-items.result.now c.loop-route.route-index _ c.loop-route.mask rise c.loop-route-test.true c.loop-route.invariant

pub returns-clause-bits : goal.returns-clause-bits
returns-clause-bits c =
    let rise : RiseFrom 0 c.args.self.now = rw (← c.self.view_is) c.self.invariant in
    let value : c.loop-route.mask ≡ mask_of c.args.self.now = grind (arith, common_steps) in
    subst (IsMaskOf c.args.self.now) (sym value) (mask_has_bits 0 _ (rise))
