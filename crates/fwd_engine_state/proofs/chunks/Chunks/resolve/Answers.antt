use Rattle.std.proofs.Common.{refl}
use Rattle.fwd_table.specs.Rows.{resolved_to}
use Rattle.fwd_engine_state.proofs.RowBounds.{at_most_on_chunk, at_most_owed}
use Rattle.fwd_engine_state.proofs.chunks.Chunks.resolve.Goals as goal

pub invariant_of-self : goal.invariant_of-self
invariant_of-self c = rw (c.keep_owed.ensures.rows, c.lose.ensures.rows) (at_most_owed _ _ (at_most_on_chunk _ c.args.chunk (resolved_to c.args.output) (λ row. refl) _ c.self.invariant))
