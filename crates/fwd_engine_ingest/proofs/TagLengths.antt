-- The tags of messages are at most as long as the longest tag.
use Rattle.std.proofs.Common.{◌≡◌, ℕ, zero, suc, ◌≤◌, Bool, true, false, List, [], ◌∷◌, ◌++◌, length, drop, Option, Some, None, refl, sym, subst}
use Rattle.std.specs.Prelude.{if◌then◌else◌}
use Rattle.std.proofs.lemmas.Bool.{leb-true}
use Rattle.fwd_base.specs.Limits.{longest_tag}
use Rattle.fwd_value.specs.Val.{Val, text, bin, list, Vals, no_vals, val}
use Rattle.fwd_value.specs.Keys.{Record}
use Rattle.fwd_wire.specs.Message.{MessageContent, nothing, batch, says, Carried, one, many, packed, Parts, empty, tagged, unfit, is_tag, tag_of, option_of, option_value, chunk_key, is_plain, tagged_by, with_option, with_time, in_mode, parts_of, PlainSays, PartsSay}
use Rattle.fwd_wire.specs.Answer.{message, IsAnswer}
use Rattle.fwd_wire.specs.Stream.{Ending, Streams}
use Rattle.fwd_wire.specs.Decode.{messages_in}
use Rattle.fwd_wire.proofs.Computed.{streams_exactly}
use Rattle.fwd_model.specs.Messages.{completed_messages}
use Rattle.fwd_theorem_depth.proofs.Shallow.{parts}
use Rattle.fwd_engine_ingest.specs.Continuation.{TagIsShort, TagsAreShort}

tag_short : (b : List ℕ) → is_tag b ≡ true → length b ≤ longest_tag
tag_short b is = leb-true (length b) longest_tag (parts _ _ (parts _ _ is).1).0

given : (b t : List ℕ) (x : Bool) → is_tag b ≡ x → (if x then Some b else None) ≡ Some t → length t ≤ longest_tag
given b t true is e = let same : b ≡ t = cc e in subst (λ (l : List ℕ). length l ≤ longest_tag) same (tag_short b is)
given b t false is e = absurd (cc e)

tagged_short : (v : Val) (t : List ℕ) → tag_of v ≡ Some t → length t ≤ longest_tag
tagged_short (text b) t e = given b t (is_tag b) refl e
tagged_short (bin b) t e = given b t (is_tag b) refl e
tagged_short v t e = absurd (cc e)

abbrev PartsShort : Parts → Type 0
PartsShort empty = Unit {0}
PartsShort (tagged t c o) = length t ≤ longest_tag
PartsShort unfit = Unit {0}

by_tag : (t : Option (List ℕ)) (o : Option Record) (c : Carried) → ((x : List ℕ) → t ≡ Some x → length x ≤ longest_tag) → PartsShort (tagged_by t o c)
by_tag (Some t) (Some o) c is = is t refl
by_tag (Some t) None c is = tt
by_tag None o c is = tt

by_option : (tag : Val) (c : Carried) (vs : Vals) → PartsShort (with_option tag c vs)
by_option tag c no_vals = by_tag (tag_of tag) (Some []) c (tagged_short tag)
by_option tag c (val o no_vals) = by_tag (tag_of tag) (option_of o) c (tagged_short tag)
by_option tag c (val o (val p vs)) = tt

by_time : (tag time : Val) (vs : Vals) → PartsShort (with_time tag time vs)
by_time tag time (val body vs) = by_option tag (one time body) vs
by_time tag time no_vals = tt

by_mode : (tag second : Val) (vs : Vals) → PartsShort (in_mode tag second vs)
by_mode tag (list es) vs = by_option tag (many es) vs
by_mode tag (text b) vs = by_option tag (packed b) vs
by_mode tag (bin b) vs = by_option tag (packed b) vs
by_mode tag time vs = by_time tag time vs

value_short : (x : Val) → PartsShort (parts_of x)
value_short (list (val tag (val second vs))) = by_mode tag second vs
value_short x = tt

plain_short : (p : Bool) (t : List ℕ) (k : Option Val) (c : Carried) (s : MessageContent) → length t ≤ longest_tag → PlainSays p t k c (says s) → TagIsShort s
plain_short true t k c nothing f h = tt
plain_short true t k c (batch tag es chunk) f h = subst (λ (l : List ℕ). length l ≤ longest_tag) (sym h.0) f
plain_short false t k c s f h = absurd cc

parts_short : (p : Parts) (s : MessageContent) → PartsShort p → PartsSay p (says s) → TagIsShort s
parts_short empty nothing f h = tt
parts_short empty (batch tag es chunk) f h = absurd cc
parts_short (tagged t c o) s f h = plain_short (is_plain o) t (option_value o chunk_key) c s f h
parts_short unfit s f h = absurd cc

-- the tag of the first message in some bytes
pub message_short : (b : List ℕ) (s : MessageContent) (n : ℕ) → IsAnswer b (message s n) → TagIsShort s
message_short b s n h = parts_short (parts_of h.0) s (value_short (h.0)) h.2

stream_short : (ms : List MessageContent) (e : Ending) (b : List ℕ) → Streams ms e b → TagsAreShort ms
stream_short [] e b h = tt
stream_short (m ∷ ms) e b h = (message_short b m h.0 h.1, stream_short ms e (drop h.0 b) h.2)

-- and the tag of each message of a stream
pub messages_short : (b : List ℕ) → TagsAreShort (messages_in b).messages
messages_short b = stream_short (messages_in b).messages (messages_in b).ending b ((streams_exactly (messages_in b).messages (messages_in b).ending b).1 refl)

drop_short : (n : ℕ) (ms : List MessageContent) → TagsAreShort ms → TagsAreShort (drop n ms)
drop_short zero ms are = are
drop_short (suc n) [] are = tt
drop_short (suc n) (m ∷ ms) are = drop_short n ms are.1

pub ending_short : (before piece : List ℕ) → TagsAreShort (completed_messages before piece)
ending_short before piece = drop_short (length (messages_in before).messages) (messages_in (before ++ piece)).messages (messages_short (before ++ piece))
