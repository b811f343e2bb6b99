use Rattle.std.proofs.Common.{ℕ}
use Rattle.fwd_frames.specs.Streams.{conn_input}
use Rattle.fwd_model.specs.Fact.{MessageStream}
use Rattle.fwd_model.specs.Streams.{input_of, said}
use Rattle.fwd_engine_inputs.specs.ReaderStates.{ending, reader_in}
use Rattle.fwd_engine_inputs.proofs.UnfinishedMessages.{largest_by_views}
use Rattle.fwd_engine_inputs.proofs.input_streams.InputStreams.unfinished.Goals as goal

pub returns-clause-largest : goal.returns-clause-largest
returns-clause-largest c s h k =
    largest_by_views c.args.paused (conn_input c.args.self.now.connections) (input_of s h) (reader_in c.args.self.now.wires) (λ (conn : ℕ). ending (said s h (MessageStream conn))) k.inputs k.wires c.unfinished.result.largest c.unfinished.ensures.largest
