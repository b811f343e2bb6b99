-- The record of groups that are lent from the pattern and the line.
use Rattle.std.specs.Prelude.{◌<◌, ◌^◌, List, [], ◌∷◌, map, length}
use Rattle.fwd_base.specs.Pattern.{captured}
use Rattle.fwd_base.specs.declared.search.Capture.{Capture}
use Rattle.fwd_value.specs.Val.{Val}
use Rattle.fwd_value.specs.Keys.{Record}
use Rattle.fwd_json.specs.declared.floats.Floats.{Floats}
use Rattle.fwd_parser.specs.Field.{field_of}
use Rattle.fwd_parser.specs.declared.parser.FieldType.{FieldType}

-- the field of a lent group
abbrev pub lent_field : Floats → List FieldType → Capture → Val × Val
lent_field floats types c = field_of floats types (captured c)

-- the record of these groups
abbrev pub lent_record : Floats → List FieldType → List Capture → Record
lent_record floats types groups = map (lent_field floats types) groups

-- each name and each text is shorter than 2^32 bytes
abbrev pub AreShort : List Capture → Type 0
AreShort [] = Unit {0}
AreShort (c ∷ cs) =
    (length c.name.now < 2 ^ 32) × (length c.bytes.now < 2 ^ 32) × AreShort cs
