use Rattle.std.proofs.Common.{arith}
use Rattle.fwd_msgpack.proofs.AnswerMeanings.{ok_in_range, ok_lengths, value_exactly, short_exactly, unused_exactly, deep_exactly}
use Rattle.fwd_msgpack.proofs.decoding.decode.Goals as goal

pub returns-clause-value : goal.returns-clause-value
returns-clause-value c = value_exactly c.args.bytes.now c.decode_value.result c.decode_value.ensures

pub returns-clause-short : goal.returns-clause-short
returns-clause-short c = short_exactly c.args.bytes.now c.decode_value.result c.decode_value.ensures

pub returns-clause-unused : goal.returns-clause-unused
returns-clause-unused c = unused_exactly c.args.bytes.now c.decode_value.result c.decode_value.ensures

pub returns-clause-too_deep : goal.returns-clause-too_deep
returns-clause-too_deep c = deep_exactly c.args.bytes.now c.decode_value.result c.decode_value.ensures

pub returns-clause-in_range : goal.returns-clause-in_range
returns-clause-in_range c = ok_in_range c.args.bytes.now c.decode_value.result (λ i. omega (arith, c.type_inv.bytes i)) c.decode_value.ensures

pub returns-clause-lengths : goal.returns-clause-lengths
returns-clause-lengths c = ok_lengths c.args.bytes.now c.decode_value.result (λ i. omega (arith, c.type_inv.bytes i)) c.decode_value.ensures
