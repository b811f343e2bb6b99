use Rattle.std.proofs.Common.{sym, ◌∙◌}
use Rattle.fwd_table.specs.Rows.{row_at}
use Rattle.fwd_engine_state.proofs.CapacityLemmas.{fits_some, fits_none}
use Rattle.fwd_engine_state.proofs.capacity.chunk_fits.Goals as goal

pub returns-in-Some : goal.returns-in-Some
returns-in-Some c s up backlog =
    let rows = c.args.table.now.rows in
    c.fits.ensures ∙ fits_some s c.args.limits.max_up c.args.limits.backlog_limit rows c.in-Some.row (row_at c.args.chunk rows) up backlog c.in-Some.ensures.value

pub returns-in-None : goal.returns-in-None
returns-in-None c s up backlog = let rows = c.args.table.now.rows in sym (fits_none s rows (row_at c.args.chunk rows) (sym c.in-None.ensures.value))
