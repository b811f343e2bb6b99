use Rattle.std.proofs.Common.{ap, ◌∙◌}
use Rattle.std.specs.Prelude.{filter}
use Rattle.fwd_table.specs.Rows.{is_row_of, row_at}
use Rattle.fwd_limits.specs.ChunkState.{waiting_size}
use Rattle.fwd_limits.proofs.WaitingBytes.{waiting_is}
use Rattle.fwd_limits.proofs.eviction.own_waiting.Goals as goal

pub returns-in-Some : goal.returns-in-Some
returns-in-Some c =
    c.waiting_part.ensures
    ∙ ap waiting_size c.state_in_row.ensures
    ∙ waiting_is c.args.output (filter (is_row_of c.args.chunk) c.args.table.now.rows) (row_at c.args.chunk c.args.table.now.rows) c.in-Some.row
    c.in-Some.ensures.alone c.in-Some.ensures.value c.in-Some.ensures.owed c.in-Some.ensures.flying
