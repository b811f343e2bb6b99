use Rattle.std.proofs.Common.{ℕ, ap, ◌∙◌}
use Rattle.std.specs.Prelude.{if◌then◌else◌, None, Option, ◌==◌}
use Rattle.fwd_model.specs.Fact.{LineStream, MessageStream}
use Rattle.fwd_model.specs.Streams.{said}
use Rattle.fwd_frames.specs.Streams.{reader_state}
use Rattle.fwd_engine_inputs.specs.ReaderStates.{reader_in}
use Rattle.fwd_engine_inputs.proofs.StreamSteps.{left_peer, left_wire}
use Rattle.fwd_engine_inputs.proofs.input_streams.InputStreams.remove_connection.Goals as goal

pub returns : goal.returns
returns c s h k = record {
  inputs = λ conn. c.leave.ensures conn ∙ ap (λ (x : Option ℕ). if c.args.conn.0 == conn then None else x) (k.inputs conn);
  peers = λ conn. c.leave-2.ensures conn ∙ left_peer c.args.conn.0 conn (reader_state c.args.self.now.peers conn) (said s h (LineStream conn)) (k.peers conn);
  standard = k.standard;
  wires = λ conn. c.leave-3.ensures conn ∙ left_wire c.args.conn.0 conn (reader_in c.args.self.now.wires conn) (said s h (MessageStream conn)) (k.wires conn);
}
