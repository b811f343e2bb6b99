use Rattle.std.proofs.Common.{◌∙◌, sym}
use Rattle.fwd_engine_inputs.proofs.StreamMessages.{nothing_waits}
use Rattle.fwd_engine_inputs.proofs.input_streams.InputStreams.new.Goals as goal

pub returns : goal.returns
returns c s = record {
  inputs = c.new.ensures;
  peers = c.new-2.ensures;
  standard = c.new-3.ensures;
  wires = λ conn. c.new-4.ensures conn ∙ sym nothing_waits;
}
