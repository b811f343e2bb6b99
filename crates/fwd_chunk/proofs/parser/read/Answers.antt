use Rattle.fwd_chunk.proofs.HeaderFacts.{long_enough}
use Rattle.fwd_chunk.proofs.parser.read.Goals as goal

pub content_of-requires-clause-enough : goal.content_of-requires-clause-enough
content_of-requires-clause-enough c = long_enough c.args.bytes.now c.in_ok-metadata.metadata c.in_ok-metadata.ensures.answer
