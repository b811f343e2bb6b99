use Rattle.std.proofs.Common.{◌≡◌, ◌+◌, drop}
use Rattle.fwd_chunk.specs.Outcome.{named_length, bytes_from}
use Rattle.fwd_chunk.proofs.outcome.outcome_place.Given as goal

abbrev pub invariant-loop-name : goal.invariant-loop-name
invariant-loop-name l = (l.place + named_length (drop l.name-index l.outputs) ≡ 24 + l.head.meta) × (bytes_from l.output (drop l.name-index l.outputs) ≡ bytes_from l.output l.outputs)
