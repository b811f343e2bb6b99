use Rattle.std.proofs.Common.{◌≡◌, length}
use Rattle.fwd_parser.specs.Time.{read_format, directive, no_fields}
use Rattle.fwd_parser.proofs.time.read_format.Given as goal

abbrev pub invariant-loop-place : goal.invariant-loop-place
invariant-loop-place l =
    read_format directive l.place.format.now l.place.text.now l.place.fields ≡ read_format directive l.format l.text no_fields

abbrev pub decreases-loop-place : goal.decreases-loop-place
decreases-loop-place l = length l.place.format.now
