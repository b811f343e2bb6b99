-- What is decoded and written of events.
use Rattle.std.proofs.Common.{◌≡◌, ℕ, ◌+◌, ◌-◌, ◌<◌, ◌≤◌, ◌^◌, pos, List, [], ◌∷◌, ◌++◌, length, get_or, take, drop, Option, Some, None, Ok, refl, sym, ap, subst, ◌∙◌, append_assoc, arith}
use Rattle.std.specs.Prelude.{All}
use Rattle.std.specs.Int.{w32, to_be_bytes}
use Rattle.std.proofs.lemmas.Bool.{lt-ltb}
use Rattle.std.proofs.lemmas.List.{append-nil, length-append, take_all, flat_map_more}
use Rattle.std.proofs.lemmas.List.Elements.{All-nil, All-push}
use Rattle.fwd_value.specs.Val.{Val, nil, truth, whole, text, bin, float32, float64, ext, list, mapping, no_vals, val, vals_of, Entries, no_entries, entries_of}
use Rattle.fwd_value.specs.Limits.{nesting, nestings, IsInRange, LengthsFit}
use Rattle.fwd_msgpack.specs.declared.form.ByteWidth.{ByteWidth}
use Rattle.fwd_msgpack.specs.declared.form.Form.TheVariants as form
use Rattle.fwd_msgpack.specs.Table.{form_of}
use Rattle.fwd_msgpack.specs.Encodings.{size, number, AllBytes, Encodes, EncodesAll}
use Rattle.fwd_msgpack.specs.Canonical.{map_head, canonical}
use Rattle.fwd_msgpack.specs.Decoder.{number_at, after, value_by, value_at}
use Rattle.fwd_msgpack.proofs.Encodable.{Fits, fits_range, fits_lengths}
use Rattle.fwd_msgpack.proofs.Ranges.{bytes_front, bytes_back, encodings_fit}
use Rattle.fwd_msgpack.proofs.Grammar.{reads}
use Rattle.fwd_event.specs.declared.event.Event.{Event}
use Rattle.fwd_event.specs.Event.{Timestamp, time_of, event_at, event_with_header, event_of, event_val, EventFits, AreEvents}
use Rattle.fwd_event.specs.EventPrefix.{encodings, IsWritable}
use Rattle.fwd_event.proofs.EventParts.{pairs_back}
use Rattle.fwd_event.proofs.EventEncodings.{event_bytes}
use Rattle.fwd_event.proofs.EventLists.{are_more}
use Rattle.fwd_transcode.specs.Transcoded.{TranscodesMap}
use Rattle.fwd_transcode.specs.Events.{StartsWithEventTime, StartsWithTime, TranscodesEvent, TranscodesSingle, AreEventsOf, TranscodesEntries}

-- ---- first bytes

pub opening_one : (b rest : List ℕ) (x : ℕ) → 1 ≤ length b → get_or b 0 0 ≡ x → rest ≡ take (length b - 1) (drop 1 b) → b ≡ x ∷ rest
opening_one [] rest x long a is = absurd (omega (arith, long))
opening_one (p ∷ b) rest x long a is = let behind : rest ≡ b = is ∙ take_all (length (p ∷ b) - 1) b (omega arith) in λ i. a i ∷ sym behind i

pub opening_two : (b rest : List ℕ) (x y : ℕ) → 2 ≤ length b → get_or b 0 0 ≡ x → get_or b 1 0 ≡ y → rest ≡ take (length b - 2) (drop 2 b) → b ≡ x ∷ y ∷ rest
opening_two [] rest x y long a c is = absurd (omega (arith, long))
opening_two (p ∷ []) rest x y long a c is = absurd (omega (arith, long))
opening_two (p ∷ q ∷ b) rest x y long a c is = let behind : rest ≡ b = is ∙ take_all (length (p ∷ q ∷ b) - 2) b (omega arith) in λ i. a i ∷ c i ∷ sym behind i

pub opening_three : (b rest : List ℕ) (x y z : ℕ) → 3 ≤ length b → get_or b 0 0 ≡ x → get_or b 1 0 ≡ y → get_or b 2 0 ≡ z → rest ≡ take (length b - 3) (drop 3 b) → b ≡ x ∷ y ∷ z ∷ rest
opening_three [] rest x y z long a c d is = absurd (omega (arith, long))
opening_three (p ∷ []) rest x y z long a c d is = absurd (omega (arith, long))
opening_three (p ∷ q ∷ []) rest x y z long a c d is = absurd (omega (arith, long))
opening_three (p ∷ q ∷ r ∷ b) rest x y z long a c d is = let behind : rest ≡ b = is ∙ take_all (length (p ∷ q ∷ r ∷ b) - 3) b (omega arith) in λ i. a i ∷ c i ∷ d i ∷ sym behind i

-- ---- times

seconds_time : (n : ℕ) (b rest : List ℕ) → n < 2 ^ 32 → value_at 0 b ≡ Ok (whole (pos n), rest) → StartsWithTime n 0 rest b
seconds_time n b rest lt e =
    let r = reads 0 in
    let s = r.sound b (whole (pos n)) rest e in
    (whole (pos n), (s.0, s.1, s.2.0), rw (lt-ltb n 4294967296 (omega arith)) refl)

pub fixint_time : (n : ℕ) (b rest : List ℕ) → n < 128 → b ≡ n ∷ rest → StartsWithTime n 0 rest b
unfolding value_by after form_of
fixint_time n b rest lt is = seconds_time n b rest (omega arith) (rw (is, lt-ltb n 128 lt) refl)

pub uint_time : (w : ByteWidth) (n c : ℕ) (b more rest : List ℕ) → n < 2 ^ 32 → form.Uint w ≡ form_of c → b ≡ c ∷ more → number_at w more ≡ Ok (n, rest) → StartsWithTime n 0 rest b
unfolding value_by after
uint_time w n c b more rest lt f is r = seconds_time n b rest lt (rw (is, ← f, r) refl)

pub short_time : (sec nsec : ℕ) (b more rest : List ℕ) → b ≡ 215 ∷ 0 ∷ more → StartsWithEventTime sec nsec rest more → StartsWithTime sec nsec rest b
unfolding form_of
short_time sec nsec b more rest is (time, parts, eight, moment) =
    (ext (pos 0) time, (215 ∷ 0 ∷ time, is ∙ ap (λ (t : List ℕ). 215 ∷ 0 ∷ t) parts, ([], 0, (eight, refl), refl, refl)), moment)

pub long_time : (sec nsec : ℕ) (b more rest : List ℕ) → b ≡ 199 ∷ 8 ∷ 0 ∷ more → StartsWithEventTime sec nsec rest more → StartsWithTime sec nsec rest b
unfolding form_of size number
long_time sec nsec b more rest is (time, parts, eight, moment) =
    (ext (pos 0) time, (199 ∷ 8 ∷ 0 ∷ time, is ∙ ap (λ (t : List ℕ). 199 ∷ 8 ∷ 0 ∷ t) parts, (8 ∷ [], 0, (refl, eight), refl, refl)), moment)

-- a time is no list
timed_flat : (time : Val) (moment : Timestamp) → time_of time ≡ Some moment → nesting time ≡ 0
timed_flat nil moment h = refl
timed_flat (truth t) moment h = refl
timed_flat (whole n) moment h = refl
timed_flat (text s) moment h = refl
timed_flat (bin s) moment h = refl
timed_flat (float32 n) moment h = refl
timed_flat (float64 n) moment h = refl
timed_flat (ext t s) moment h = refl
timed_flat (list vs) moment h = let no : None ≡ Some moment = h in absurd (cc no)
timed_flat (mapping es) moment h = let no : None ≡ Some moment = h in absurd (cc no)

timed_alone : (time : Val) (moment : Timestamp) (body : Entries) → time_of time ≡ Some moment → event_with_header time body ≡ event_at (time_of time) no_entries body
timed_alone nil moment body h = refl
timed_alone (truth t) moment body h = refl
timed_alone (whole n) moment body h = refl
timed_alone (text s) moment body h = refl
timed_alone (bin s) moment body h = refl
timed_alone (float32 n) moment body h = refl
timed_alone (float64 n) moment body h = refl
timed_alone (ext t s) moment body h = refl
timed_alone (list vs) moment body h = let no : None ≡ Some moment = h in absurd (cc no)
timed_alone (mapping es) moment body h = refl

-- ---- maps

-- a map that was decoded and written, by its encoding
pub record MapWritten (d : ℕ) (b rest old new : List ℕ) : Type 0 where
  pub pairs : List (Val × Val)
  pub front : List ℕ
  pub parts : b ≡ front ++ rest
  pub encoded : Encodes (mapping (entries_of pairs)) front
  pub nested : nesting (mapping (entries_of pairs)) ≤ d
  pub range : IsInRange (mapping (entries_of pairs))
  pub lengths : LengthsFit (mapping (entries_of pairs))
  pub written : new ≡ old ++ canonical (mapping (entries_of pairs))
  pub bytes : AllBytes rest

map_written : (d : ℕ) (b rest old new : List ℕ) → AllBytes b → TranscodesMap (value_at d b) rest old new → MapWritten d b rest old new
map_written d b rest old new all (ps, r, e) =
    let q = reads d in
    let v = mapping (entries_of ps) in
    let s = q.sound b v rest r in
    let both : AllBytes (s.0 ++ rest) = subst AllBytes s.1 all in
    let fits : Fits v = encodings_fit v s.0 (bytes_front s.0 rest both) s.2.0 in
    record {
      pairs = ps;
      front = s.0;
      parts = s.1;
      encoded = s.2.0;
      nested = s.2.1;
      range = fits_range v fits;
      lengths = fits_lengths v fits;
      written = e;
      bytes = bytes_back s.0 rest both;
    }

-- ---- events

abbrev time_bytes : ℕ → ℕ → List ℕ
time_bytes sec nsec = 146 ∷ 146 ∷ 215 ∷ 0 ∷ (to_be_bytes w32 sec ++ to_be_bytes w32 nsec)

event_written : (e : Event) (old timed between new : List ℕ) → timed ≡ old ++ time_bytes e.sec e.nsec → between ≡ timed ++ canonical (mapping (entries_of e.meta)) → new ≡ between ++ canonical (mapping (entries_of e.body)) → new ≡ old ++ canonical (event_val e)
event_written e old timed between new a b c =
    let meta = canonical (mapping (entries_of e.meta)) in
    let body = canonical (mapping (entries_of e.body)) in
    let time = time_bytes e.sec e.nsec in
    c ∙ ap (λ (t : List ℕ). t ++ body) (b ∙ ap (λ (t : List ℕ). t ++ meta) a) ∙ append_assoc (old ++ time) meta body ∙ append_assoc old time (meta ++ body) ∙ ap (λ (t : List ℕ). old ++ t) (sym (event_bytes e))

pub with_meta_done : (d sec nsec : ℕ) (b maps last rest old timed between new : List ℕ) → (2 < d) × (d ≤ 64) → sec < 2 ^ 32 → nsec < 2 ^ 32 → AllBytes b → StartsWithTime sec nsec maps b → timed ≡ old ++ time_bytes sec nsec
    → TranscodesMap (value_at (d - 2) maps) last timed between → TranscodesMap (value_at (d - 1) last) rest between new → TranscodesEvent d rest (146 ∷ 146 ∷ b) old new
unfolding form_of
with_meta_done d sec nsec b maps last rest old timed between new depth lt lu all (time, (tf, is, stamp), moment) put one two =
    let m = map_written (d - 2) maps last timed between (bytes_back tf maps (subst AllBytes is all)) one in
    let n = map_written (d - 1) last rest between new m.bytes two in
    let meta = mapping (entries_of m.pairs) in
    let body = mapping (entries_of n.pairs) in
    let e : Event = record { sec = sec; nsec = nsec; meta = m.pairs; body = n.pairs } in
    let header = list (val time (val meta no_vals)) in
    let v = list (val header (val body no_vals)) in
    let hf = 146 ∷ (tf ++ m.front) in
    let parts : 146 ∷ 146 ∷ b ≡ (146 ∷ (hf ++ n.front)) ++ rest =
    ap (λ (t : List ℕ). 146 ∷ 146 ∷ t) (is ∙ ap (λ (t : List ℕ). tf ++ t) (m.parts ∙ ap (λ (t : List ℕ). m.front ++ t) n.parts) ∙ sym (append_assoc tf m.front (n.front ++ rest)) ∙ sym (append_assoc (tf ++ m.front) n.front rest)) in
    let head : Encodes header hf = ([], tf ++ m.front, (refl, refl), refl, (tf, m.front, refl, stamp, (m.front, [], sym (append-nil m.front), m.encoded, refl))) in
    let encoded : Encodes v (146 ∷ (hf ++ n.front)) = ([], hf ++ n.front, (refl, refl), refl, (hf, n.front, refl, head, (n.front, [], sym (append-nil n.front), n.encoded, refl))) in
    let flat : nesting time ≡ 0 = timed_flat time (sec, nsec) moment in
    let event : event_of v ≡ Some e =
    ap (λ (o : Option Timestamp). event_at o (entries_of m.pairs) (entries_of n.pairs)) moment ∙ (λ i. Some (record { sec = sec; nsec = nsec; meta = pairs_back m.pairs i; body = pairs_back n.pairs i })) in
    let fits : EventFits e = record {
      meta_nested = omega (arith, m.nested, depth.1);
      body_nested = omega (arith, n.nested, depth.1);
      meta_lengths = m.lengths;
      body_lengths = n.lengths;
    } in
    (e, v, (146 ∷ (hf ++ n.front), parts, encoded), omega (arith, flat, m.nested, n.nested, depth.0), event, record { sec = lt; nsec = lu; meta = m.range; body = n.range; fits = fits }, event_written e old timed between new put m.written n.written)

pub without_meta_done : (d sec nsec : ℕ) (b last rest old timed between new : List ℕ) → (0 < d) × (d ≤ 64) → sec < 2 ^ 32 → nsec < 2 ^ 32 → AllBytes b → StartsWithTime sec nsec last b → timed ≡ old ++ time_bytes sec nsec → between ≡ timed ++ 128 ∷ []
    → TranscodesMap (value_at (d - 1) last) rest between new → TranscodesSingle d rest b old new
unfolding map_head
without_meta_done d sec nsec b last rest old timed between new depth lt lu all (time, (tf, is, stamp), moment) put none two =
    let n = map_written (d - 1) last rest between new (bytes_back tf last (subst AllBytes is all)) two in
    let e : Event = record { sec = sec; nsec = nsec; meta = []; body = n.pairs } in
    let fits : EventFits e = record {
      meta_nested = omega arith;
      body_nested = omega (arith, n.nested, depth.1);
      meta_lengths = (omega arith, tt);
      body_lengths = n.lengths;
    } in
    record {
      event = e;
      time = time;
      body = mapping (entries_of n.pairs);
      front = tf ++ n.front;
      parts = is ∙ ap (λ (t : List ℕ). tf ++ t) n.parts ∙ sym (append_assoc tf n.front rest);
      encoded = (tf, n.front, refl, stamp, (n.front, [], sym (append-nil n.front), n.encoded, refl));
      moment = moment;
      nested = n.nested;
      is = timed_alone time (sec, nsec) (entries_of n.pairs) moment ∙ ap (λ (o : Option Timestamp). event_at o no_entries (entries_of n.pairs)) moment
          ∙ (λ i. Some (record { sec = sec; nsec = nsec; meta = []; body = pairs_back n.pairs i }));
      writable = record { sec = lt; nsec = lu; meta = tt; body = n.range; fits = fits };
      written = event_written e old timed between new put none n.written;
    }

-- a time and a record after the header of a list of both
pub single_in_list : (d : ℕ) (b rest old new : List ℕ) → 0 < d → TranscodesSingle d rest b old new → TranscodesEvent d rest (146 ∷ b) old new
unfolding form_of
single_in_list d b rest old new lt x =
    let e = x.event in
    let flat : nesting x.time ≡ 0 = timed_flat x.time (e.sec, e.nsec) x.moment in
    let v = list (val x.time (val x.body no_vals)) in
    let encoded : Encodes v (146 ∷ x.front) = ([], x.front, (refl, refl), refl, x.encoded) in
    (e, v, (146 ∷ x.front, ap (λ (t : List ℕ). 146 ∷ t) x.parts, encoded), omega (arith, flat, x.nested, lt), x.is, x.writable, x.written)

pub event_at_front : (d : ℕ) (b c rest old new : List ℕ) → b ≡ c → TranscodesEvent d rest c old new → TranscodesEvent d rest b old new
event_at_front d b c rest old new is (e, v, (front, parts, encoded), nested, event, writable, written) =
    (e, v, (front, is ∙ parts, encoded), nested, event, writable, written)

-- ---- one event after another

encoded_more : (vs : List Val) (v : Val) (front more : List ℕ) → EncodesAll (vals_of vs) front → Encodes v more → EncodesAll (vals_of (vs ++ v ∷ [])) (front ++ more)
encoded_more [] v front more s e = (more, [], ap (λ (t : List ℕ). t ++ more) s ∙ sym (append-nil more), e, refl)
encoded_more (w ∷ vs) v front more s e = (s.0, s.1 ++ more, ap (λ (t : List ℕ). t ++ more) s.2 ∙ append_assoc s.0 s.1 more, s.3, encoded_more vs v s.1 more s.4 e)

nested_more : (vs : List Val) (v : Val) (n : ℕ) → nestings (vals_of vs) ≤ n → nesting v ≤ n → nestings (vals_of (vs ++ v ∷ [])) ≤ n
nested_more [] v n h k = omega (arith, k)
nested_more (w ∷ vs) v n h k = let more = nested_more vs v n (omega (arith, h)) k in omega (arith, h, more)

events_more : (es : List Event) (vs : List Val) (e : Event) (v : Val) → AreEventsOf es (vals_of vs) → event_of v ≡ Some e → AreEventsOf (es ++ e ∷ []) (vals_of (vs ++ v ∷ []))
events_more [] [] e v a is = (is, tt)
events_more [] (w ∷ vs) e v a is = absurd a
events_more (f ∷ es) [] e v a is = absurd a
events_more (f ∷ es) (w ∷ vs) e v a is = (a.0, events_more es vs e v a.1 is)

abbrev event_encoding : Event → List ℕ
event_encoding e = canonical (event_val e)

pub no_entries_yet : (b old : List ℕ) → TranscodesEntries 0 b b old old
no_entries_yet b old = record {
  events = [];
  entries = [];
  front = [];
  parts = refl;
  encoded = refl;
  nested = omega arith;
  are = tt;
  many = refl;
  writable = All-nil IsWritable;
  written = sym (append-nil old);
}

pub one_entry_more : (n : ℕ) (rest behind b old between new : List ℕ) → TranscodesEntries n rest b old between → TranscodesEvent 62 behind rest between new → TranscodesEntries (n + 1) behind b old new
one_entry_more n rest behind b old between new x (e, v, (front, parts, encoded), nested, is, writable, written) = record {
  events = x.events ++ e ∷ [];
  entries = x.entries ++ v ∷ [];
  front = x.front ++ front;
  parts = x.parts ∙ ap (λ (t : List ℕ). x.front ++ t) parts ∙ sym (append_assoc x.front front behind);
  encoded = encoded_more x.entries v x.front front x.encoded encoded;
  nested = nested_more x.entries v 62 x.nested nested;
  are = events_more x.events x.entries e v x.are is;
  many = length-append x.events (e ∷ []) ∙ ap (λ (m : ℕ). m + 1) x.many;
  writable = All-push IsWritable x.events e x.writable writable;
  written = written ∙ ap (λ (t : List ℕ). t ++ canonical (event_val e)) x.written ∙ flat_map_more event_encoding old x.events e;
}

-- so many events were decoded and written
pub record EventsSoFar (n : ℕ) (rest b old new : List ℕ) : Type 0 where
  pub events : List Event
  pub front : List ℕ
  pub parts : b ≡ front ++ rest
  pub are : AreEvents events front
  pub many : length events ≡ n
  pub writable : All IsWritable events
  pub written : new ≡ old ++ encodings events

pub one_event_more : (n : ℕ) (rest behind b old between new : List ℕ) → EventsSoFar n rest b old between → TranscodesEvent 64 behind rest between new → EventsSoFar (n + 1) behind b old new
one_event_more n rest behind b old between new x (e, v, (front, parts, encoded), nested, is, writable, written) = record {
  events = x.events ++ e ∷ [];
  front = x.front ++ front;
  parts = x.parts ∙ ap (λ (t : List ℕ). x.front ++ t) parts ∙ sym (append_assoc x.front front behind);
  are = are_more x.events (e ∷ []) x.front front x.are (v, front, [], sym (append-nil front), encoded, nested, is, refl);
  many = length-append x.events (e ∷ []) ∙ ap (λ (m : ℕ). m + 1) x.many;
  writable = All-push IsWritable x.events e x.writable writable;
  written = written ∙ ap (λ (t : List ℕ). t ++ canonical (event_val e)) x.written ∙ flat_map_more event_encoding old x.events e;
}

-- an encoding has at least one byte
has_bytes : (v : Val) (front : List ℕ) → Encodes v front → 0 < length front
has_bytes v [] s = absurd s
has_bytes v (c ∷ front) s = omega arith

pub rest_is_shorter : (d : ℕ) (behind rest old new : List ℕ) → TranscodesEvent d behind rest old new → length behind < length rest
rest_is_shorter d behind rest old new (e, v, (front, parts, encoded), nested, event, writable, written) = omega (arith, ap length parts, length-append front behind, has_bytes v front encoded)

events_have_bytes : (es : List Event) (b : List ℕ) → AreEvents es b → length es ≤ length b
events_have_bytes [] b a = omega arith
events_have_bytes (e ∷ es) b a = omega (arith, has_bytes a.0 a.1 a.4, events_have_bytes es a.2 a.7, ap length a.3, length-append a.1 a.2)

pub few_events : (n : ℕ) (rest b old new : List ℕ) → EventsSoFar n rest b old new → n + length rest ≤ length b
few_events n rest b old new x = omega (arith, x.many, events_have_bytes x.events x.front x.are, ap length x.parts, length-append x.front rest)
