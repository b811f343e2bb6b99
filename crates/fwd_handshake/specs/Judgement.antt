-- The judgement of a stream by its first value.
use Rattle.std.specs.Prelude.{ℕ, ◌-◌, nat_le, List, length, Option, Some, None, Ok, Err, if◌then◌else◌}
use Rattle.fwd_base.specs.Limits.{deepest}
use Rattle.fwd_value.specs.Val.{Val}
use Rattle.fwd_msgpack.specs.declared.fault.FormatErr.TheVariants.{Short}
use Rattle.fwd_msgpack.specs.Decoder.{Read, value_at}
use Rattle.fwd_handshake.specs.declared.ring.Ring.{Ring}
use Rattle.fwd_handshake.specs.declared.received.Greeted.{Greeted}
use Rattle.fwd_handshake.specs.declared.received.Greeted.TheVariants as greeted
use Rattle.fwd_handshake.specs.declared.received.Received.{Received}
use Rattle.fwd_handshake.specs.declared.received.Received.TheVariants.{More, Right, Wrong}
use Rattle.fwd_handshake.specs.Members.{nonce_of, salt_of, host_of}

-- so many bytes may begin a message of the handshake without being one
abbrev pub longest_greeting : ℕ
longest_greeting = 4096

-- a stream of so many bytes that ends inside its first value
abbrev pub short_received : ℕ → Received
short_received n = if nat_le n longest_greeting then More else Wrong

-- a stream whose first value has so many bytes, and this content if it is the wanted message
abbrev pub content_received : ℕ → Option (List ℕ) → Received
content_received len (Some content) = Right len content
content_received len None = Wrong

-- By the first value of a stream of so many bytes, where `content` finds what is wanted in it. A complete
-- first value counts, however long it is: the limit is on incomplete ones.
abbrev pub received_by : (Val → Option (List ℕ)) → ℕ → Read Val → Received
received_by content n (Ok x) = content_received (n - length x.1) (content x.0)
received_by content n (Err Short) = short_received n
received_by content n (Err _) = Wrong

unfoldable pub received : (Val → Option (List ℕ)) → List ℕ → Received
received content stream = received_by content (length stream) (value_at deepest stream)

-- without the content
abbrev pub greeted_of : Received → Greeted
greeted_of More = greeted.More
greeted_of (Right len content) = greeted.Right len
greeted_of Wrong = greeted.Wrong

unfoldable pub judged : (Val → Option (List ℕ)) → List ℕ → Greeted
judged content stream = greeted_of (received content stream)

-- a stream that begins with a HELO, a PING or a PONG
abbrev pub helo_received : List ℕ → Received
helo_received stream = received nonce_of stream

abbrev pub ping_received : Ring → (nonce stream : List ℕ) → Received
ping_received ring nonce stream = received (salt_of ring nonce) stream

abbrev pub pong_received : Ring → (salt nonce stream : List ℕ) → Received
pong_received ring salt nonce stream = received (host_of ring salt nonce) stream

abbrev pub helo_judged : List ℕ → Greeted
helo_judged stream = judged nonce_of stream

abbrev pub ping_judged : Ring → (nonce stream : List ℕ) → Greeted
ping_judged ring nonce stream = judged (salt_of ring nonce) stream

abbrev pub pong_judged : Ring → (salt nonce stream : List ℕ) → Greeted
pong_judged ring salt nonce stream = judged (host_of ring salt nonce) stream
