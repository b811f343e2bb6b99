use Rattle.std.proofs.Common.{Some, None, get_or, ap, ◌∙◌}
use Rattle.fwd_limits.proofs.ChunkStates.{look_is}
use Rattle.fwd_limits.proofs.chunk_state.state_in_slot.Goals as goal

pub returns : goal.returns
returns c =
    ap Some c.state_in_row.ensures
    ∙ look_is (get_or c.args.table.now.places c.args.place None) c.in_ok-row.row c.args.output c.in_ok-row.ensures.value c.in_ok-row.ensures.owed c.in_ok-row.ensures.flying
