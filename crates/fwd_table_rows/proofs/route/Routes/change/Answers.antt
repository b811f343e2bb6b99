use Rattle.std.proofs.Common.{sym, subst, arith}
use Rattle.std.proofs.lemmas.List.{with_items_is}
use Rattle.fwd_table_rows.specs.Routes.{RiseFrom}
use Rattle.fwd_table_rows.proofs.RouteOrder.{rise-on_output}
use Rattle.fwd_table_rows.proofs.route.Routes.change.Goals as goal

pub invariant_of-self : goal.invariant_of-self
invariant_of-self c =
    let rise : RiseFrom 0 c.change_routes.new.routes = rw (c.change_routes.ensures, c.deref_mut.ensures.value) (rise-on_output c.args.output c.args.change 0 _ c.self.invariant) in
    subst (RiseFrom 0) (sym (with_items_is c.self.inside.routes c.change_routes.new.routes (omega arith))) rise
