-- The bytes are the encodings of the events of the lines so far.
use Rattle.std.proofs.Common.{◌≡◌, map}
use Rattle.fwd_frames.specs.declared.line.Line.{Line}
use Rattle.fwd_parser.specs.LineEvent.{parsed}
use Rattle.fwd_engine_chunks.specs.BatchOutcome.{IsEncodingOf}
use Rattle.fwd_engine_ingest.proofs.batches.encodings.Given as goal

abbrev pub invariant-loop-line : goal.invariant-loop-line
invariant-loop-line l = IsEncodingOf (map (λ (line : Line). parsed l.fn.reader line.bytes l.now) l.yielded) l.bytes × (l.reader ≡ l.fn.reader)
