use Rattle.std.proofs.Common.{◌≡◌, ◌+◌, drop}
use Rattle.fwd_chunk.specs.Outcome.{named_length}
use Rattle.fwd_chunk.proofs.outcome.named_length.Given as goal

abbrev pub invariant-loop-name : goal.invariant-loop-name
invariant-loop-name l = l.length + named_length (drop l.name-index l.names) ≡ named_length l.names
