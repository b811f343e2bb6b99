use Rattle.std.proofs.Common.{refl}
use Rattle.fwd_table.specs.Rows.{shut_at}
use Rattle.fwd_engine_state.proofs.RowBounds.{at_most_on_chunk}
use Rattle.fwd_engine_state.proofs.chunks.Chunks.close.Goals as goal

pub invariant_of-self : goal.invariant_of-self
invariant_of-self c = rw c.shut.ensures.rows (at_most_on_chunk _ c.args.chunk (shut_at c.args.now) (λ row. refl) _ c.self.invariant)
