-- What reading computes is what the definitions say.
use Rattle.std.proofs.Common.{◌≡◌, ◌↔◌, ℕ, zero, suc, ◌-◌, ◌<◌, Bool, true, false, nat_lt, if◌then◌else◌, List, [], ◌∷◌, length, drop, Option, Some, None, Ok, Err, refl, sym, ap, subst, ◌∙◌, arith, inl, inr}
use Rattle.std.proofs.lemmas.Bool.{ltb-true, ltb-false}
use Rattle.std.proofs.lemmas.List.{length-take, length-drop}
use Rattle.fwd_base.specs.Limits.{longest_message}
use Rattle.fwd_value.specs.Val.{Val}
use Rattle.fwd_msgpack.specs.declared.fault.FormatErr.TheVariants.{Short, Unused, TooDeep}
use Rattle.fwd_msgpack.specs.Decoder.{Read, value_at}
use Rattle.fwd_msgpack.specs.DecodeAnswers.{IsProperPrefix, FailsAtForm, IsUnused, IsListOrMap}
use Rattle.fwd_event.specs.declared.event.Event.{Event}
use Rattle.fwd_event.proofs.EventLists.{not_empty}
use Rattle.fwd_wire.specs.declared.fault.ConnFault.{ConnFault}
use Rattle.fwd_wire.specs.declared.fault.ConnFault.TheVariants.{NotAMessage, Compressed, TooLong}
use Rattle.fwd_wire.specs.Message.{MessageContent, Verdict, says, compressed, no_message, Carried, one, many, packed, Parts, empty, tagged, unfit, parts_of, is_plain, option_value, chunk_key, CarriedSays, PlainSays, PartsSay}
use Rattle.fwd_wire.specs.Answer.{Answer, message, short, not_a_message, is_compressed, too_long, front, FrontSays, IsAnswer}
use Rattle.fwd_wire.specs.Stream.{Ending, waiting, broken, Breaks, IsEnding, Streams}
use Rattle.fwd_wire.specs.Decode.{carried_events, batch_verdict, verdict_of, value_answer, read_answer, answer_in, Stream, stream_by, stream_in, messages_in}
use Rattle.fwd_wire.specs.Representation.{CarriesExactly}
use Rattle.fwd_wire.proofs.Packed.{packed_exactly}
use Rattle.fwd_wire.proofs.Stops.{read_at, read_short, unused_place, deep_place}
use Rattle.fwd_wire.proofs.OneAnswer.{one_answer, cut_short}

none_some : (es : List Event) → ◌≡◌ {A = Option (List Event)} None (Some es) → ⊥
none_some es e = cc

carried_are : (c : Carried) (o : Option (List Event)) → carried_events c ≡ o → CarriesExactly c o
carried_are (one time body) (Some es) h = h
carried_are (one time body) None h = λ es k. none_some es (sym h ∙ k)
carried_are (many vs) (Some es) h = h
carried_are (many vs) None h = λ es k. none_some es (sym h ∙ k)
carried_are (packed b) (Some es) h = (packed_exactly es b).0 h
carried_are (packed b) None h = λ es k. none_some es (sym h ∙ (packed_exactly es b).1 k)

batch_says : (t : List ℕ) (k : Option Val) (c : Carried) (o : Option (List Event)) → carried_events c ≡ o → CarriedSays t k c (batch_verdict t k o)
batch_says t k c (Some es) h = (refl, refl, carried_are c (Some es) h)
batch_says t k c None h = carried_are c None h

plain_says : (p : Bool) (t : List ℕ) (k : Option Val) (c : Carried) → PlainSays p t k c (if p then batch_verdict t k (carried_events c) else compressed)
plain_says true t k c = batch_says t k c (carried_events c) refl
plain_says false t k c = refl

parts_say : (p : Parts) → PartsSay p (verdict_of p)
parts_say empty = refl
parts_say (tagged t c o) = plain_says (is_plain o) t (option_value o chunk_key) c
parts_say unfit = refl

value_is : (b : List ℕ) (n : ℕ) (v : Verdict) → FrontSays b n v → IsAnswer b (value_answer n v)
value_is b n (says s) h = h
value_is b n compressed h = (n, h)
value_is b n no_message h = inl (n, h, refl)

short_is : (b : List ℕ) (t : Bool) → nat_lt (length b) longest_message ≡ t → IsProperPrefix (front b) → IsAnswer b (if t then short else too_long)
short_is b true e h = cut_short b (ltb-true (length b) longest_message e) h
short_is b false e h = (ltb-false (length b) longest_message e, h)

read_is : (b : List ℕ) (r : Read Val) → value_at 64 (front b) ≡ r → IsAnswer b (read_answer (length b) (length (front b)) r)
read_is b (Ok x) e = value_is b (length (front b) - length x.1) (verdict_of (parts_of x.0)) (x.0, read_at (front b) x.0 x.1 e, parts_say (parts_of x.0))
read_is b (Err Short) e = short_is b (nat_lt (length b) longest_message) refl (read_short (front b) e)
read_is b (Err (Unused left)) e =
    let u = unused_place (front b) left e in
    let place : u.0 ≡ length (front b) - left = omega (arith, u.1) in
    inr (inl (subst (λ (i : ℕ). FailsAtForm IsUnused i (front b)) place u.2))
read_is b (Err (TooDeep left)) e =
    let u = deep_place (front b) left e in
    let place : u.0 ≡ length (front b) - left = omega (arith, u.1) in
    inr (inr (subst (λ (i : ℕ). FailsAtForm IsListOrMap i (front b)) place u.2))

answer_is : (b : List ℕ) → IsAnswer b (answer_in b)
answer_is b = read_is b (value_at 64 (front b)) refl

pub answers_exactly : (b : List ℕ) (a : Answer) → (answer_in b ≡ a) ↔ IsAnswer b a
answers_exactly b a = (λ e. subst (IsAnswer b) e (answer_is b), λ h. one_answer b (answer_in b) a (answer_is b) h)

-- a message has at least one byte, and is within the bytes
after_message : (b : List ℕ) (m : MessageContent) (n k : ℕ) → IsAnswer b (message m n) → length b < suc k → length (drop n b) < k
after_message b m n k h lt = omega (arith, lt, not_empty h.0 n (front b) h.1, h.1.0, length-take longest_message b, length-drop n b)

by_answer : (k : ℕ) → ((b : List ℕ) → length b < k → Streams (stream_in k b).messages (stream_in k b).ending b)
    → (b : List ℕ) (a : Answer) → IsAnswer b a → length b < suc k → Streams (stream_by (stream_in k) b a).messages (stream_by (stream_in k) b a).ending b
by_answer k others b (message m n) h lt = (n, h, others (drop n b) (after_message b m n k h lt))
by_answer k others b short h lt = (refl, h)
by_answer k others b (not_a_message at) h lt = (at, h)
by_answer k others b is_compressed h lt = h
by_answer k others b too_long h lt = h

stream_is : (k : ℕ) (b : List ℕ) → length b < k → Streams (stream_in k b).messages (stream_in k b).ending b
stream_is zero b lt = absurd (omega (arith, lt))
stream_is (suc k) b lt = by_answer k (stream_is k) b (answer_in b) (answer_is b) lt

-- the fault of an answer
abbrev fault_in : Answer → Option ConnFault
fault_in (message m n) = None
fault_in short = None
fault_in (not_a_message at) = Some NotAMessage
fault_in is_compressed = Some Compressed
fault_in too_long = Some TooLong

breaks_by : (fault : ConnFault) (b : List ℕ) → Breaks fault b → (a : Answer) × IsAnswer b a × (fault_in a ≡ Some fault)
breaks_by NotAMessage b h = (not_a_message h.0, h.1, refl)
breaks_by Compressed b h = (is_compressed, h, refl)
breaks_by TooLong b h = (too_long, h, refl)

same_fault : (f g : ConnFault) → ◌≡◌ {A = Option ConnFault} (Some f) (Some g) → f ≡ g
same_fault f g e = cc

no_fault : (f : ConnFault) → ◌≡◌ {A = Option ConnFault} None (Some f) → ⊥
no_fault f e = cc

not_broken : (fault : ConnFault) (b : List ℕ) (a : Answer) → Breaks fault b → IsAnswer b a → fault_in a ≡ None → ⊥
not_broken fault b a h x e =
    let by = breaks_by fault b h in
    no_fault fault (sym e ∙ ap fault_in (one_answer b a by.0 x by.1) ∙ by.2)

one_ending : (e f : Ending) (b : List ℕ) → IsEnding e b → IsEnding f b → e ≡ f
one_ending (waiting r) (waiting s) b x y = ap waiting (sym x.0 ∙ y.0)
one_ending (waiting r) (broken g) b x y = absurd (not_broken g b short y x.1 refl)
one_ending (broken f) (waiting s) b x y = absurd (not_broken f b short x y.1 refl)
one_ending (broken f) (broken g) b x y =
    let p = breaks_by f b x in
    let q = breaks_by g b y in
    ap broken (same_fault f g (sym p.2 ∙ ap fault_in (one_answer b p.0 q.0 p.1 q.1) ∙ q.2))

short_message : (m : MessageContent) (n : ℕ) → short ≡ message m n → ⊥
short_message m n e = cc

not_ended : (e : Ending) (b : List ℕ) (m : MessageContent) (n : ℕ) → IsEnding e b → IsAnswer b (message m n) → ⊥
not_ended (waiting rest) b m n x y = short_message m n (one_answer b short (message m n) x.1 y)
not_ended (broken fault) b m n x y = not_broken fault b (message m n) x y refl

same_said : (l m : MessageContent) (i j : ℕ) → message l i ≡ message m j → l ≡ m
same_said l m i j e = cc

same_length : (l m : MessageContent) (i j : ℕ) → message l i ≡ message m j → i ≡ j
same_length l m i j e = cc

pub one_stream : (ls ms : List MessageContent) (e f : Ending) (b : List ℕ) → Streams ls e b → Streams ms f b → (ls ≡ ms) × (e ≡ f)
one_stream [] [] e f b x y = (refl, one_ending e f b x y)
one_stream [] (m ∷ ms) e f b x y = absurd (not_ended e b m y.0 x y.1)
one_stream (l ∷ ls) [] e f b x y = absurd (not_ended f b l x.0 y x.1)
one_stream (l ∷ ls) (m ∷ ms) e f b x y =
    let same = one_answer b (message l x.0) (message m y.0) x.1 y.1 in
    let heads : l ≡ m = same_said l m x.0 y.0 same in
    let lengths : x.0 ≡ y.0 = same_length l m x.0 y.0 same in
    let more = one_stream ls ms e f (drop y.0 b) (subst (λ (i : ℕ). Streams ls e (drop i b)) lengths x.2) y.2 in
    (rw (heads, more.0) refl, more.1)

abbrev stream : List MessageContent → Ending → Stream
stream ms e = record { messages = ms; ending = e }

pub streams_exactly : (ms : List MessageContent) (e : Ending) (b : List ℕ) → Streams ms e b ↔ (messages_in b ≡ record { messages = ms; ending = e })
streams_exactly ms e b = (
  λ h.
      let is = stream_is (suc (length b)) b (omega arith) in
      let same = one_stream (messages_in b).messages ms (messages_in b).ending e b is h in
      ap (λ (x : List MessageContent). stream x (messages_in b).ending) same.0 ∙ ap (stream ms) same.1,
  λ is. subst (λ (s : Stream). Streams s.messages s.ending b) is (stream_is (suc (length b)) b (omega arith)),
)
