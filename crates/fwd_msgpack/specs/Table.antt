-- The table of first bytes (MessagePack specification, "Formats": overview).
use Rattle.std.specs.Prelude.{ℕ, ◌-◌, nat_lt, true, false, List, [], ◌∷◌, slice_index_or, if◌then◌else◌}
use Rattle.std.specs.Int.{w8, cast_signed}
use Rattle.fwd_msgpack.specs.declared.form.ByteWidth.TheVariants.{One, Two, Four, Eight}
use Rattle.fwd_msgpack.specs.declared.form.Count.TheVariants.{Known, Sized}
use Rattle.fwd_msgpack.specs.declared.form.Form.{Form}
use Rattle.fwd_msgpack.specs.declared.form.Form.TheVariants as form

-- the first bytes c0 to df, in order
abbrev pub middle : List Form
middle = form.Nil ∷ form.Unused ∷ form.Bool false ∷ form.Bool true
    ∷ form.Bin (Sized One) ∷ form.Bin (Sized Two) ∷ form.Bin (Sized Four)
    ∷ form.Ext (Sized One) ∷ form.Ext (Sized Two) ∷ form.Ext (Sized Four)
    ∷ form.Float32 ∷ form.Float64
    ∷ form.Uint One ∷ form.Uint Two ∷ form.Uint Four ∷ form.Uint Eight
    ∷ form.Int One ∷ form.Int Two ∷ form.Int Four ∷ form.Int Eight
    ∷ form.Ext (Known 1) ∷ form.Ext (Known 2) ∷ form.Ext (Known 4) ∷ form.Ext (Known 8) ∷ form.Ext (Known 16)
    ∷ form.Str (Sized One) ∷ form.Str (Sized Two) ∷ form.Str (Sized Four)
    ∷ form.Array (Sized Two) ∷ form.Array (Sized Four)
    ∷ form.Map (Sized Two) ∷ form.Map (Sized Four)
    ∷ []

-- the form of a first byte
unfoldable pub form_of : ℕ → Form
form_of c =
    if nat_lt c 128 then form.PositiveFixint c else
    if nat_lt c 144 then form.Map (Known (c - 128)) else
    if nat_lt c 160 then form.Array (Known (c - 144)) else
    if nat_lt c 192 then form.Str (Known (c - 160)) else
    if nat_lt c 224 then slice_index_or middle (c - 192) form.Unused else
    form.NegativeFixint (cast_signed w8 c)
