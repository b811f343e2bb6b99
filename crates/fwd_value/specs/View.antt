-- The mathematical value of a `Value`.
use Rattle.std.specs.Prelude.{pos}
use Rattle.fwd_value.specs.Val.{Val, nil, truth, whole, text, bin, float32, float64, ext, list, mapping, vals_of, entries_of}
use Rattle.fwd_value.specs.declared.value.Value.{Value}
use Rattle.fwd_value.specs.declared.value.Value.TheVariants as held

abbrev pub val_of : Value → Val
val_of held.Nil = nil
val_of (held.Truth b) = truth b
val_of (held.Uint n) = whole (pos n)
val_of (held.Neg n) = whole n
val_of (held.Text s) = text s
val_of (held.Bin s) = bin s
val_of (held.Float32 n) = float32 n
val_of (held.Float64 n) = float64 n
val_of (held.Ext t s) = ext t s
val_of (held.List vs) = list (vals_of vs)
val_of (held.Map es) = mapping (entries_of es)

-- the mathematical key and value of a pair
abbrev pub pair_of : Value × Value → Val × Val
pair_of p = (val_of p.0, val_of p.1)
