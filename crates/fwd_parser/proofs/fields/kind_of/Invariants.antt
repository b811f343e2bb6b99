use Rattle.std.proofs.Common.{◌≡◌, take}
use Rattle.fwd_parser.specs.Field.{kind_of}
use Rattle.fwd_parser.proofs.fields.kind_of.Given as goal

abbrev pub invariant-loop-given : goal.invariant-loop-given
invariant-loop-given l = l.kind ≡ kind_of (take l.given-index l.given-items) l.key
