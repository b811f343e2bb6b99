use Rattle.std.proofs.Common.{arith}
use Rattle.fwd_msgpack.proofs.Ranges.{all_bytes}
use Rattle.fwd_wire.specs.Representation.{answer_of}
use Rattle.fwd_wire.proofs.OneAnswer.{exactly}
use Rattle.fwd_wire.proofs.Encodable.{returned_fits}
use Rattle.fwd_wire.proofs.reader.read_message.Goals as goal

pub returns-clause-answer : goal.returns-clause-answer
returns-clause-answer c = exactly c.args.bytes.now (answer_of c.read.result) c.read.ensures

pub returns-clause-fits : goal.returns-clause-fits
returns-clause-fits c = returned_fits c.args.bytes.now c.read.result (all_bytes c.args.bytes.now (λ i. omega (arith, c.type_inv.bytes i))) c.read.ensures
