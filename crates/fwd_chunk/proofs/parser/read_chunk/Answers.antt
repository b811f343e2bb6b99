use Rattle.fwd_chunk.proofs.OneReading.{exactly}
use Rattle.fwd_chunk.proofs.parser.read_chunk.Goals as goal

pub returns-clause-answer : goal.returns-clause-answer
returns-clause-answer c = exactly c.args.bytes.now c.read.result c.read.ensures.answer
