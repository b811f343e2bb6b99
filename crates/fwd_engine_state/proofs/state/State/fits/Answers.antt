use Rattle.std.proofs.Common.{List, ◌∙◌, ap}
use Rattle.fwd_table.specs.Rows.{row_at}
use Rattle.fwd_table.specs.Row.{Row}
use Rattle.fwd_model.specs.Dispatch.{fits_row}
use Rattle.fwd_engine_state.proofs.state.State.fits.Goals as goal

pub returns : goal.returns
returns c s h out before up backlog = c.chunk_fits.ensures s up backlog ∙ ap (λ (rows : List Row). fits_row s rows (row_at c.args.route.chunk rows)) (c.table.ensures ∙ before.rows)
