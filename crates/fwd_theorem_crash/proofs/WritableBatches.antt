-- Batches can be written into a chunk's file: their tags are short texts, and their events can be
-- encoded.
use Rattle.std.proofs.Common.{◌≡◌, ℕ, zero, suc, ◌≤◌, Bool, true, false, ◌&&◌, List, [], ◌∷◌, ◌++◌, length, drop, Option, Some, None, inl, inr, refl, sym, subst, arith, lit≤}
use Rattle.std.specs.Prelude.{if◌then◌else◌, slice_get, unwrap_or, nat_lt, nat_le, Contains, IsUtf8, option_and_then}
use Rattle.std.specs.List.{AllByRecursion}
use Rattle.std.specs.Str.{is_utf8}
use Rattle.std.proofs.lemmas.Bool.{leb-true}
use Rattle.std.proofs.lemmas.Str.{IsUtf8-from_ascii, IsUtf8-from_is_utf8}
use Rattle.fwd_base.specs.Limits.{longest_tag, largest_batch}
use Rattle.fwd_value.specs.Val.{Val, text, bin, list, Vals, no_vals, val}
use Rattle.fwd_event.specs.declared.event.Event.{Event}
use Rattle.fwd_event.specs.EventPrefix.{encodings}
use Rattle.fwd_frames.specs.declared.line.Line.{Line}
use Rattle.fwd_filters.specs.declared.filter_step.FilterStep.{FilterStep}
use Rattle.fwd_filters.specs.FilterFunction.{matching, filtered}
use Rattle.fwd_wire.specs.Message.{MessageContent, nothing, batch, says, Carried, one, many, packed, Parts, empty, tagged, unfit, is_tag, tag_of, option_of, option_value, chunk_key, is_plain, tagged_by, with_option, with_time, in_mode, parts_of, PlainSays, PartsSay}
use Rattle.fwd_wire.specs.Answer.{message, IsAnswer}
use Rattle.fwd_wire.specs.Stream.{Ending, Streams}
use Rattle.fwd_wire.specs.Decode.{messages_in}
use Rattle.fwd_wire.proofs.Computed.{streams_exactly}
use Rattle.fwd_theorem_depth.specs.Shallow.{are_shallow, events_of_content}
use Rattle.fwd_theorem_depth.proofs.Shallow.{AllShallow, all_pass, all_tell}
use Rattle.fwd_theorem_depth.proofs.LineDepth.{parsed_shallow}
use Rattle.fwd_theorem_depth.proofs.FilterDepth.{filtered_shallow}
use Rattle.fwd_theorem_depth.proofs.MessageDepth.{message_shallow}
use Rattle.fwd_theorem_depth.proofs.EncodedLengths.{events_fit}
use Rattle.fwd_settings.specs.declared.settings_types.AllSettings.{AllSettings}
use Rattle.fwd_settings.specs.declared.settings_types.InputSet.{InputSet}
use Rattle.fwd_settings.specs.declared.settings_types.InputKind.{InputKind}
use Rattle.fwd_settings.specs.declared.settings_types.InputKind.TheVariants.{Tail, Tcp, Forward, Stdin}
use Rattle.fwd_settings.specs.Requirements.{IsTagText, HasTag, MeetsRequirements}
use Rattle.fwd_model.specs.Fact.{History, Batch}
use Rattle.fwd_model.specs.Settings.{input_at, own_tag, tag_at}
use Rattle.fwd_model.specs.Clock.{clock}
use Rattle.fwd_model.specs.Chunks.{encoded}
use Rattle.fwd_model.specs.Batches.{events_of, batch_of}
use Rattle.fwd_model.specs.Messages.{completed_messages, message_batch}
use Rattle.fwd_chunk.proofs.Conditionals.{both}
use Rattle.fwd_theorem_trace.proofs.Members.{either}
use Rattle.fwd_theorem_crash.proofs.EncodedEvents.{AreWritten, events_written}

-- ---- batches

pub record IsWritable (b : Batch) : Type 0 where
  pub text : IsUtf8 b.tag
  pub short : length b.tag ≤ longest_tag
  pub shallow : are_shallow b.events ≡ true

-- its encoding is a list of equally many events
pub writable_are : (b : Batch) → IsWritable b → length (encoded b.events) ≤ largest_batch → AreWritten b.events (encodings b.events)
writable_are b is fits = events_written b.events (events_fit b.events (all_tell b.events is.shallow) fits)

-- ---- tags

abbrev IsTag : List ℕ → Type 0
IsTag tag = IsUtf8 tag × (length tag ≤ longest_tag)

no_tag : IsTag []
no_tag = (IsUtf8-from_ascii [] (λ i. lit≤ tt), omega arith)

has_tag : (kind : InputKind) (tag : List ℕ) → HasTag kind (Some tag) → IsTagText tag
has_tag (Tail paths from_head) tag has = has
has_tag (Tcp host port) tag has = has
has_tag (Forward host port) tag has = has
has_tag Stdin tag has = has

own_of : (inputs : List InputSet) (input : ℕ) (tag : List ℕ) → AllByRecursion (λ (set : InputSet). HasTag set.kind set.tag) inputs → option_and_then (λ (set : InputSet). set.tag) (slice_get inputs input) ≡ Some tag → IsTag tag
own_of [] input tag all is = absurd (cc is)
own_of (set ∷ inputs) zero tag all is =
    let text = has_tag set.kind tag (subst (λ (t : Option (List ℕ)). HasTag set.kind t) is all.0) in
    (text.2, text.1)
own_of (set ∷ inputs) (suc input) tag all is = own_of inputs input tag all.1 is

-- the tag of an input, or another instead
own_or : (s : AllSettings) → MeetsRequirements s → (input : ℕ) (other : List ℕ) → IsTag other → IsTag (unwrap_or (own_tag s input) other)
own_or s sound input other is = by (own_tag s input) refl
  where
    by : (o : Option (List ℕ)) → own_tag s input ≡ o → IsTag (unwrap_or o other)
    by None own = is
    by (Some tag) own = own_of s.inputs input tag sound.tagged own

-- ---- batches of lines

left_shallow : (steps : List FilterStep) (tag : List ℕ) (events : List Event) → AllShallow events → are_shallow (filtered steps tag events) ≡ true
left_shallow steps tag events are = all_pass (filtered steps tag events) (filtered_shallow (matching tag steps) events are)

lines_shallow : (input : Option InputSet) (now : ℕ) (read : List Line) → AllShallow (events_of input now read)
lines_shallow None now read = tt
lines_shallow (Some set) now [] = tt
lines_shallow (Some set) now (line ∷ read) = (parsed_shallow set.parser line.bytes now, lines_shallow (Some set) now read)

pub lines_writable : (s : AllSettings) → MeetsRequirements s → (h : History) (input : ℕ) (read : List Line) → IsWritable (batch_of s h input read)
lines_writable s sound h input read =
    let tag = own_or s sound input [] no_tag in
    record { text = tag.0; short = tag.1; shallow = left_shallow s.filters (tag_at s input) (events_of (input_at s input) (clock h) read) (lines_shallow (input_at s input) (clock h) read) }

-- ---- the tags of messages

tag_is : (b : List ℕ) → is_tag b ≡ true → IsTag b
tag_is b is =
    let parts = both (nat_lt 0 (length b)) (nat_le (length b) longest_tag && is_utf8 b) is in
    let rest = both (nat_le (length b) longest_tag) (is_utf8 b) parts.1 in
    (IsUtf8-from_is_utf8 b rest.1, leb-true (length b) longest_tag rest.0)

given : (b t : List ℕ) (x : Bool) → is_tag b ≡ x → (if x then Some b else None) ≡ Some t → IsTag t
given b t true is e = let same : b ≡ t = cc e in subst IsTag same (tag_is b is)
given b t false is e = absurd (cc e)

value_tag : (v : Val) (t : List ℕ) → tag_of v ≡ Some t → IsTag t
value_tag (text b) t e = given b t (is_tag b) refl e
value_tag (bin b) t e = given b t (is_tag b) refl e
value_tag v t e = absurd (cc e)

abbrev PartsTagged : Parts → Type 0
PartsTagged empty = Unit {0}
PartsTagged (tagged t c o) = IsTag t
PartsTagged unfit = Unit {0}

by_tag : (t : Option (List ℕ)) (o : Option (List (Val × Val))) (c : Carried) → ((x : List ℕ) → t ≡ Some x → IsTag x) → PartsTagged (tagged_by t o c)
by_tag (Some t) (Some o) c is = is t refl
by_tag (Some t) None c is = tt
by_tag None o c is = tt

by_option : (tag : Val) (c : Carried) (vs : Vals) → PartsTagged (with_option tag c vs)
by_option tag c no_vals = by_tag (tag_of tag) (Some []) c (value_tag tag)
by_option tag c (val o no_vals) = by_tag (tag_of tag) (option_of o) c (value_tag tag)
by_option tag c (val o (val p vs)) = tt

by_time : (tag time : Val) (vs : Vals) → PartsTagged (with_time tag time vs)
by_time tag time (val body vs) = by_option tag (one time body) vs
by_time tag time no_vals = tt

by_mode : (tag second : Val) (vs : Vals) → PartsTagged (in_mode tag second vs)
by_mode tag (list es) vs = by_option tag (many es) vs
by_mode tag (text b) vs = by_option tag (packed b) vs
by_mode tag (bin b) vs = by_option tag (packed b) vs
by_mode tag time vs = by_time tag time vs

value_parts : (x : Val) → PartsTagged (parts_of x)
value_parts (list (val tag (val second vs))) = by_mode tag second vs
value_parts x = tt

-- ---- batches of messages

-- the tag and the events of a message
abbrev IsFair : MessageContent → Type 0
IsFair nothing = Unit {0}
IsFair (batch tag events chunk) = IsTag tag × AllShallow events

plain_fair : (p : Bool) (t : List ℕ) (k : Option Val) (c : Carried) (m : MessageContent) → IsTag t → PlainSays p t k c (says m) → AllShallow (events_of_content m) → IsFair m
plain_fair true t k c nothing is h shallow = tt
plain_fair true t k c (batch tag events chunk) is h shallow = (subst IsTag (sym h.0) is, shallow)
plain_fair false t k c m is h shallow = absurd cc

parts_fair : (p : Parts) (m : MessageContent) → PartsTagged p → PartsSay p (says m) → AllShallow (events_of_content m) → IsFair m
parts_fair empty nothing is h shallow = tt
parts_fair empty (batch tag events chunk) is h shallow = absurd cc
parts_fair (tagged t c o) m is h shallow = plain_fair (is_plain o) t (option_value o chunk_key) c m is h shallow
parts_fair unfit m is h shallow = absurd cc

message_fair : (b : List ℕ) (m : MessageContent) (n : ℕ) → IsAnswer b (message m n) → IsFair m
message_fair b m n h = parts_fair (parts_of h.0) m (value_parts h.0) h.2 (message_shallow b m n h)

abbrev AreFair : List MessageContent → Type 0
AreFair [] = Unit {0}
AreFair (m ∷ ms) = IsFair m × AreFair ms

stream_fair : (ms : List MessageContent) (e : Ending) (b : List ℕ) → Streams ms e b → AreFair ms
stream_fair [] e b h = tt
stream_fair (m ∷ ms) e b h = (message_fair b m h.0 h.1, stream_fair ms e (drop h.0 b) h.2)

messages_fair : (b : List ℕ) → AreFair (messages_in b).messages
messages_fair b = stream_fair (messages_in b).messages (messages_in b).ending b ((streams_exactly (messages_in b).messages (messages_in b).ending b).1 refl)

drop_fair : (n : ℕ) (ms : List MessageContent) → AreFair ms → AreFair (drop n ms)
drop_fair zero ms are = are
drop_fair (suc n) [] are = tt
drop_fair (suc n) (m ∷ ms) are = drop_fair n ms are.1

one_fair : (ms : List MessageContent) (m : MessageContent) → AreFair ms → Contains ms m → IsFair m
one_fair [] m are has = absurd (omega (arith, has.1))
one_fair (first ∷ ms) m are has = elim (either first ms m has) [ inl same ↦ subst IsFair same are.0 | inr more ↦ one_fair ms m are.1 more ]

fair_writable : (s : AllSettings) → MeetsRequirements s → (input : ℕ) (m : MessageContent) → IsFair m → IsWritable (message_batch s input m)
fair_writable s sound input nothing is = record { text = no_tag.0; short = no_tag.1; shallow = refl }
fair_writable s sound input (batch tag events chunk) is =
    let own = own_or s sound input tag is.0 in
    record { text = own.0; short = own.1; shallow = left_shallow s.filters (unwrap_or (own_tag s input) tag) events is.1 }

pub messages_writable : (s : AllSettings) → MeetsRequirements s → (input : ℕ) (before bytes : List ℕ) (m : MessageContent) → Contains (completed_messages before bytes) m → IsWritable (message_batch s input m)
messages_writable s sound input before bytes m has =
    let are = drop_fair (length (messages_in before).messages) (messages_in (before ++ bytes)).messages (messages_fair (before ++ bytes)) in
    fair_writable s sound input m (one_fair (completed_messages before bytes) m are has)
