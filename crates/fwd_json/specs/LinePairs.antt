-- The pairs of a line of JSON.
use Rattle.std.specs.Prelude.{ℕ, ◌-◌, pos, Bool, true, false, ◌&&◌, not, nat_lt, List, [], ◌∷◌, Option, Some, None, Result, Ok, Err, if◌then◌else◌, to_bits}
use Rattle.std.specs.Float.Ieee.{binary64}
use Rattle.std.specs.Str.{is_utf8}
use Rattle.serde_json.specs.Data.{Num, unsigned, negative, float, Data, null, boolean, number, string, array, object, Items, no_items, item, Members, no_members, member, depth}
use Rattle.serde_json.specs.Read.{read}
use Rattle.fwd_base.specs.Limits.{deepest}
use Rattle.fwd_value.specs.Val.{Val, nil, truth, whole, text, float64, list, mapping, Vals, no_vals, val, Entries, no_entries, entry}
use Rattle.fwd_json.specs.declared.floats.Floats.{Floats}
use Rattle.fwd_json.specs.declared.floats.Floats.TheVariants.{Tagged, Numbers}
use Rattle.fwd_json.specs.declared.reading.JsonErr.{JsonErr}
use Rattle.fwd_json.specs.declared.reading.JsonErr.TheVariants.{NotJson, NotAnObject, NotWhole, TooDeep}

-- Whether a number is an integer of at most 64 bits. `-0` isn't one.
abbrev pub is_whole : Num → Bool
is_whole (unsigned n) = true
is_whole (negative z) = true
is_whole (float x) = false

-- whether every number of a value is one
abbrev mutual
  pub all_whole : Data → Bool
  all_whole null = true
  all_whole (boolean b) = true
  all_whole (number n) = is_whole n
  all_whole (string s) = true
  all_whole (array ds) = items_whole ds
  all_whole (object ms) = members_whole ms

  pub items_whole : Items → Bool
  items_whole no_items = true
  items_whole (item d ds) = all_whole d && items_whole ds

  pub members_whole : Members → Bool
  members_whole no_members = true
  members_whole (member k d ms) = all_whole d && members_whole ms

-- whether the numbers of an object can be read: as floats any can, and else integers alone
abbrev pub are_readable : Floats → Members → Bool
are_readable Tagged ms = members_whole ms
are_readable Numbers ms = true

-- the value of a number; one that isn't an integer is a float of 64 bits, or nil if floats aren't read
abbrev pub number_value : Floats → Num → Val
number_value floats (unsigned n) = whole (pos n)
number_value floats (negative z) = whole z
number_value Tagged (float x) = nil
number_value Numbers (float x) = float64 (to_bits binary64 x)

-- the value of JSON data: objects are maps, in the order of their members, with text keys
abbrev mutual
  pub value_of : Floats → Data → Val
  value_of floats null = nil
  value_of floats (boolean b) = truth b
  value_of floats (number n) = number_value floats n
  value_of floats (string s) = text s
  value_of floats (array ds) = list (values_of floats ds)
  value_of floats (object ms) = mapping (entries_in floats ms)

  pub values_of : Floats → Items → Vals
  values_of floats no_items = no_vals
  values_of floats (item d ds) = val (value_of floats d) (values_of floats ds)

  pub entries_in : Floats → Members → Entries
  entries_in floats no_members = no_entries
  entries_in floats (member k d ms) = entry (text k) (value_of floats d) (entries_in floats ms)

-- the pairs of an object, in the byte order of its keys, which differ
abbrev pub pairs_of : Floats → Members → List (Val × Val)
pairs_of floats no_members = []
pairs_of floats (member k d ms) = (text k, value_of floats d) ∷ pairs_of floats ms

-- the deepest nesting of an object that is the record of an event, which is one level deeper
abbrev pub deepest_body : ℕ
deepest_body = deepest - 1

-- the pairs of an object, or why it is rejected
abbrev pub pairs_or : Floats → Members → Result (List (Val × Val)) JsonErr
pairs_or floats ms =
    if not (are_readable floats ms) then Err NotWhole
    else (if nat_lt deepest_body (depth (object ms)) then Err TooDeep
    else Ok (pairs_of floats ms))

abbrev pub object_pairs : Floats → Data → Result (List (Val × Val)) JsonErr
object_pairs floats null = Err NotAnObject
object_pairs floats (boolean b) = Err NotAnObject
object_pairs floats (number n) = Err NotAnObject
object_pairs floats (string s) = Err NotAnObject
object_pairs floats (array ds) = Err NotAnObject
object_pairs floats (object ms) = pairs_or floats ms

abbrev pub pairs_read : Floats → Option Data → Result (List (Val × Val)) JsonErr
pairs_read floats None = Err NotJson
pairs_read floats (Some d) = object_pairs floats d

-- The pairs of a line, or why it is rejected; of equal keys the last counts, as `read` has it. Which text is
-- which float is left to `read` too: to it, a number too large for a float isn't JSON.
abbrev pub pairs_in : Floats → List ℕ → Result (List (Val × Val)) JsonErr
pairs_in floats line = if is_utf8 line then pairs_read floats (read line) else Err NotJson
