-- What follows a first byte.
use Rattle.fwd_msgpack.specs.declared.form.ByteWidth.TheVariants.{One, Two, Eight}
use Rattle.fwd_msgpack.specs.declared.form.Count.{Count}
use Rattle.fwd_msgpack.specs.declared.form.Count.TheVariants as count
use Rattle.fwd_msgpack.specs.declared.form.Form.{Form}
use Rattle.fwd_msgpack.specs.declared.form.Form.TheVariants as form
use Rattle.fwd_msgpack.specs.declared.part.PartialLength.TheVariants as left
use Rattle.fwd_msgpack.specs.declared.part.Holds.{Holds}
use Rattle.fwd_msgpack.specs.declared.part.Holds.TheVariants as holds
use Rattle.fwd_msgpack.specs.declared.part.Begun.{Begun}
use Rattle.fwd_msgpack.specs.declared.part.Begun.TheVariants.{Unused, Bytes, Known, Sized}
use Rattle.fwd_msgpack.specs.Encodings.{size}

-- a length of at most four bytes, as all lengths of the table are
abbrev pub IsShortCount : Count → Type 0
IsShortCount (count.Sized Eight) = ⊥
IsShortCount _ = Unit {0}

abbrev pub IsTabled : Form → Type 0
IsTabled (form.Str k) = IsShortCount k
IsTabled (form.Bin k) = IsShortCount k
IsTabled (form.Ext k) = IsShortCount k
IsTabled (form.Array k) = IsShortCount k
IsTabled (form.Map k) = IsShortCount k
IsTabled _ = Unit {0}

-- a length, and what it counts
abbrev pub continuation_of_count : Count → Holds → Begun
continuation_of_count (count.Known n) h = Known n h
continuation_of_count (count.Sized One) h = Sized (left.One 0 0) h
continuation_of_count (count.Sized Two) h = Sized (left.Two 0) h
continuation_of_count (count.Sized w) h = Sized left.Four h

-- what follows a first byte of this form
abbrev pub continuation_of : Form → Begun
continuation_of form.Unused = Unused
continuation_of (form.Uint w) = Bytes (size w)
continuation_of (form.Int w) = Bytes (size w)
continuation_of form.Float32 = Bytes 4
continuation_of form.Float64 = Bytes 8
continuation_of (form.Str k) = continuation_of_count k holds.Bytes
continuation_of (form.Bin k) = continuation_of_count k holds.Bytes
continuation_of (form.Ext k) = continuation_of_count k holds.Typed
continuation_of (form.Array k) = continuation_of_count k holds.Values
continuation_of (form.Map k) = continuation_of_count k holds.Pairs
continuation_of _ = Bytes 0
