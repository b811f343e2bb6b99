use Rattle.std.proofs.Common.{◌≡◌, map, take}
use Rattle.fwd_base.specs.Pattern.{captured}
use Rattle.fwd_parser.specs.Field.{fields_of}
use Rattle.fwd_parser.proofs.fields.fields_of.Given as goal

abbrev pub invariant-loop-group : goal.invariant-loop-group
invariant-loop-group l = l.body ≡ fields_of l.floats l.types l.skip_empty (map captured (take l.group-index l.groups))
