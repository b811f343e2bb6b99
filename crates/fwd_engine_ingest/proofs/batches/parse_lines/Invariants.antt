-- The events are those of the lines so far, by a reader of the input's parser.
use Rattle.std.proofs.Common.{◌≡◌, Some}
use Rattle.fwd_model.specs.Batches.{events_of}
use Rattle.fwd_engine_ingest.proofs.batches.parse_lines.Given as goal

abbrev pub invariant-loop-line : goal.invariant-loop-line
invariant-loop-line l = (l.events ≡ events_of (Some l.input) l.now l.yielded) × (l.reader ≡ l.input.parser)
