use Rattle.std.proofs.Common.{◌∙◌, ap}
use Rattle.fwd_table.specs.Rows.{is_route_idle}
use Rattle.fwd_engine_state.proofs.state.State.is_idle.Goals as goal

pub returns : goal.returns
returns c s h out before = c.is_idle.ensures.value ∙ ap (is_route_idle c.args.route.chunk c.args.route.output) (c.table.ensures ∙ before.rows)
