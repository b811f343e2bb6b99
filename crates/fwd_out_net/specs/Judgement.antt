-- The judgement of a reply (Forward Protocol v1, "Response").
use Rattle.std.specs.Prelude.{ℕ, Bool, false, ◌&&◌, nat_le, List, length, Ok, Err, if◌then◌else◌}
use Rattle.fwd_base.specs.Limits.{deepest, longest_reply}
use Rattle.fwd_value.specs.Val.{Val, mapping, entry, no_entries}
use Rattle.fwd_msgpack.specs.declared.fault.FormatErr.TheVariants.{Short}
use Rattle.fwd_msgpack.specs.Decoder.{Read, value_at}
use Rattle.fwd_value.specs.Keys.{is_text}
use Rattle.fwd_wire.specs.Encode.{ack_key}
use Rattle.fwd_flush.specs.declared.judgement.Judged.{Judged}
use Rattle.fwd_flush.specs.declared.judgement.Judged.TheVariants.{More, Right, Wrong}

-- the map of `ack` with the id, as a text
abbrev pub is_ack : List ℕ → Val → Bool
is_ack id (mapping (entry k v no_entries)) = is_text ack_key k && is_text id v
is_ack id _ = false

-- a reply of so many bytes that ends inside its first value
abbrev pub short_judgement : ℕ → Judged
short_judgement n = if nat_le n longest_reply then More else Wrong

-- a reply that starts with a value
abbrev pub value_judgement : List ℕ → Val → Judged
value_judgement id v = if is_ack id v then Right else Wrong

-- By the first value of a reply of so many bytes. A complete and right first value counts, however long the
-- reply is: the limit is on incomplete replies.
abbrev pub read_judgement : List ℕ → ℕ → Read Val → Judged
read_judgement id n (Ok x) = value_judgement id x.0
read_judgement id n (Err Short) = short_judgement n
read_judgement id n (Err _) = Wrong

-- the judgement of a reply that has to acknowledge an id
abbrev pub ack_judgement : List ℕ → List ℕ → Judged
ack_judgement id reply = read_judgement id (length reply) (value_at deepest reply)
