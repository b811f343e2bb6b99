use Rattle.std.proofs.Common.{ℕ, ◌∙◌, ap}
use Rattle.fwd_table.specs.Outcomes.{may_retry}
use Rattle.fwd_table.specs.Rows.{tries_of}
use Rattle.fwd_engine_state.specs.Views.{route_of}
use Rattle.fwd_engine_state.proofs.PendingRoutes.{pending_tries}
use Rattle.fwd_engine_state.proofs.state.State.may_retry.Goals as goal

pub returns : goal.returns
returns c s h out before pending =
    c.may_retry.ensures
    ∙ ap (λ (n : ℕ). may_retry c.args.limit n) (ap (tries_of c.args.route.chunk c.args.route.output) (c.table.ensures ∙ before.rows) ∙ pending_tries s h (route_of c.args.route) pending)
