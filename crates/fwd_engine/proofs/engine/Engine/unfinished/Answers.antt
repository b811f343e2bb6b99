use Rattle.std.proofs.Common.{ℕ, subst}
use Rattle.fwd_model.specs.Fact.{MessageStream}
use Rattle.fwd_model.specs.Streams.{input_of, said}
use Rattle.fwd_engine_state.specs.ReaderStates.{ending, droppable_bytes, IsLargest}
use Rattle.fwd_engine.proofs.engine.Engine.unfinished.Goals as goal

pub returns-clause-largest : goal.returns-clause-largest
returns-clause-largest c s h at =
    subst (λ (mask : ℕ). IsLargest (droppable_bytes mask (input_of s h) (λ conn. ending (said s h (MessageStream conn)))) c.unfinished.result.largest) (c.paused.ensures s h at) (c.unfinished.ensures.largest s h at.shows.input_streams)
