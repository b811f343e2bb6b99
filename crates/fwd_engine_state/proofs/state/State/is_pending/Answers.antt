use Rattle.std.proofs.Common.{◌∙◌, ap}
use Rattle.fwd_table.specs.Rows.{has_row}
use Rattle.fwd_engine_state.proofs.PendingRows.{has_owes}
use Rattle.fwd_engine_state.proofs.state.State.is_pending.Goals as goal

pub returns : goal.returns
returns c s h out before = c.has.ensures ∙ ap (has_row c.args.chunk) (c.table.ensures ∙ before.rows) ∙ has_owes s h c.args.chunk.0 before.numbers
