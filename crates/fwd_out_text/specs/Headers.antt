-- Encoded events, values and pairs at the start of bytes, and the rest after them.
use Rattle.std.specs.Prelude.{◌≡◌, ℕ, ◌-◌, ◌≤◌, List, ◌∷◌, ◌++◌, length, Some}
use Rattle.fwd_base.specs.Limits.{deepest}
use Rattle.fwd_value.specs.Val.{Val, vals_of, entries_of}
use Rattle.fwd_value.specs.Limits.{nesting, nestings, entry_nestings}
use Rattle.fwd_msgpack.specs.Encodings.{Encodes, EncodesAll, EncodesEntries}
use Rattle.fwd_msgpack.specs.Heads.{StartsWithMap}
use Rattle.fwd_event.specs.Event.{event_time}

-- the bytes are the header of an event with this time and no metadata, in the encoding that this program
-- writes, and then its record
abbrev pub StartsWithTime : ℕ → ℕ → List ℕ → List ℕ → Type 0
StartsWithTime sec nsec rest b =
    (time : List ℕ) × (b ≡ 146 ∷ 146 ∷ 215 ∷ 0 ∷ (time ++ 128 ∷ rest)) × (length time ≡ 8)
    × (event_time time ≡ Some (sec, nsec))

-- the same, and then the header of a record with so many pairs
abbrev pub StartsWithHeader : ℕ → ℕ → ℕ → List ℕ → List ℕ → Type 0
StartsWithHeader sec nsec count rest b =
    (body : List ℕ) × StartsWithTime sec nsec body b × StartsWithMap count rest body

-- the depth limit of a value in a record: the event and the record are two levels
abbrev pub deepest_member : ℕ
deepest_member = deepest - 2

-- values, one after another, each nested at most `depth` deep
pub record StartsWithValues (depth : ℕ) (vs : List Val) (rest b : List ℕ) : Type 0 where
  pub front : List ℕ
  pub parts : b ≡ front ++ rest
  pub encoded : EncodesAll (vals_of vs) front
  pub nested : nestings (vals_of vs) ≤ depth

-- a key and a value, each nested at most `depth` deep
pub record StartsWithPair (depth : ℕ) (p : Val × Val) (rest b : List ℕ) : Type 0 where
  pub key : List ℕ
  pub value : List ℕ
  pub parts : b ≡ key ++ (value ++ rest)
  pub key_encoded : Encodes p.0 key
  pub value_encoded : Encodes p.1 value
  pub key_nested : nesting p.0 ≤ depth
  pub value_nested : nesting p.1 ≤ depth

-- such pairs, one after another
pub record StartsWithPairs (depth : ℕ) (pairs : List (Val × Val)) (rest b : List ℕ) : Type 0 where
  pub front : List ℕ
  pub parts : b ≡ front ++ rest
  pub encoded : EncodesEntries (entries_of pairs) front
  pub nested : entry_nestings (entries_of pairs) ≤ depth
