use Rattle.std.proofs.Common.{◌≡◌, not, rules}
use Rattle.std.proofs.lemmas.Fn.{filter_same}
use Rattle.fwd_table_rows.specs.Routes.{is_to, without_output}
use Rattle.fwd_table_rows.proofs.RouteOrder.{rise-filter}
use Rattle.fwd_table_rows.proofs.route.Routes.remove.Goals as goal

pub invariant_of-self : goal.invariant_of-self
invariant_of-self c =
    let kept : c.retain.new.self.items ≡ without_output c.args.output c.self.inside.routes.items = filter_same _ _ _ (λ x b f' k. search rules) _ _ c.retain.ensures.filtered in
    rw kept (rise-filter (λ r. not (is_to c.args.output r)) 0 _ c.self.invariant)

pub returns : goal.returns
returns c = rw (← c.self.view_is) (filter_same _ _ _ (λ x b f' k. search rules) _ _ c.retain.ensures.filtered)
