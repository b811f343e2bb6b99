-- Records and their keys. A record is the key-value pairs of an event, in order; a key may occur more than
-- once.
use Rattle.std.specs.Prelude.{ℕ, List, Bool, false, Option, find, is_some}
use Rattle.std.specs.Str.{bytes_eq}
use Rattle.fwd_value.specs.Val.{Val, text}

-- a record: the pairs of an event
abbrev pub Record : Type 0
Record = List (Val × Val)

-- whether the value is this text
abbrev pub is_text : List ℕ → Val → Bool
is_text k (text s) = bytes_eq s k
is_text k _ = false

-- whether the key of the pair is this text
abbrev pub has_key : List ℕ → Val × Val → Bool
has_key k p = is_text k p.0

-- the first pair whose key is the text k
abbrev pub key : Record → List ℕ → Option (Val × Val)
key body k = find (has_key k) body

-- whether there is a pair whose key is the text k
abbrev pub has : Record → List ℕ → Bool
has body k = is_some (key body k)
