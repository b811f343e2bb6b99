use Rattle.std.proofs.Common.{refl, sym, subst, arith}
use Rattle.std.proofs.lemmas.List.{with_items_is}
use Rattle.fwd_table_rows.specs.Routes.{RiseFrom}
use Rattle.fwd_table_rows.proofs.RouteOrder.{rise-map}
use Rattle.fwd_table_rows.proofs.route.Routes.begin.Goals as goal

pub invariant_of-self : goal.invariant_of-self
invariant_of-self c =
    let rise : RiseFrom 0 c.begin_routes.new.routes = rw (c.begin_routes.ensures, c.deref_mut.ensures.value) (rise-map _ (λ r. refl) 0 _ c.self.invariant) in
    subst (RiseFrom 0) (sym (with_items_is c.self.inside.routes c.begin_routes.new.routes (omega arith))) rise
