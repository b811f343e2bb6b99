-- The events of a message are in range, if the message is encoded in bytes.
use Rattle.std.proofs.Common.{◌≡◌, ℕ, ◌<◌, ◌^◌, Bool, true, false, ℤ, pos, zero, List, [], ◌∷◌, ◌++◌, length, take, drop, Option, Some, None, IfSome, refl, sym, subst, arith}
use Rattle.std.specs.Prelude.{if◌then◌else◌, nat_lt, ◌==◌}
use Rattle.std.specs.Int.{w32, from_be_bytes}
use Rattle.std.proofs.lemmas.Bool.{ltb-true}
use Rattle.std.proofs.lemmas.List.{take-append-drop}
use Rattle.fwd_base.specs.Limits.{longest_message}
use Rattle.fwd_value.specs.Val.{Val, nil, truth, whole, text, bin, float32, float64, ext, list, mapping, Vals, no_vals, val, Entries, no_entries, entry}
use Rattle.fwd_value.specs.Limits.{IsInRange, AreInRange, EntriesAreInRange}
use Rattle.fwd_value.specs.Keys.{Record}
use Rattle.fwd_msgpack.specs.declared.form.ByteWidth.TheVariants.{Four}
use Rattle.fwd_msgpack.specs.declared.form.Form.{Form}
use Rattle.fwd_msgpack.specs.declared.form.Form.TheVariants as form
use Rattle.fwd_msgpack.specs.Encodings.{AllBytes, number, EncodesAfter, EncodesAll, EncodesEntries, Encodes}
use Rattle.fwd_msgpack.proofs.Encodable.{fits_range}
use Rattle.fwd_msgpack.proofs.Ranges.{bytes_front, bytes_back, number_below, encodings_fit}
use Rattle.fwd_event.specs.declared.event.Event.{Event}
use Rattle.fwd_event.specs.Event.{Timestamp, time_of, pairs_of, event_at, event_with_header, event_of, AreEvents}
use Rattle.fwd_wire.specs.Message.{MessageContent, nothing, batch, says, Carried, one, many, packed, Parts, empty, tagged, unfit, tag_of, option_of, option_value, chunk_key, is_plain, tagged_by, with_option, with_time, in_mode, parts_of, events_of, Carries, PlainSays, PartsSay}
use Rattle.fwd_wire.specs.Answer.{message, front, IsAnswer}
use Rattle.fwd_wire.specs.Stream.{Ending, Streams}
use Rattle.fwd_wire.specs.Decode.{messages_in}
use Rattle.fwd_wire.proofs.Packed.{fronted}
use Rattle.fwd_wire.proofs.Computed.{streams_exactly}
use Rattle.fwd_theorem_depth.specs.Shallow.{events_of_content}
use Rattle.fwd_theorem_depth.specs.Ranges.{NumbersFit}
use Rattle.fwd_theorem_depth.proofs.RecordRanges.{IsRanged, AllRanged}

-- ---- bytes

pub bytes_both : (a b : List ℕ) → AllBytes a → AllBytes b → AllBytes (a ++ b)
bytes_both [] b x y = y
bytes_both (c ∷ a) b x y = (x.0, bytes_both a b x.1 y)

whole_bytes : (n : ℕ) (b : List ℕ) → AllBytes b → AllBytes (take n b ++ drop n b)
whole_bytes n b h = subst AllBytes (sym (take-append-drop n b)) h

taken_bytes : (n : ℕ) (b : List ℕ) → AllBytes b → AllBytes (take n b)
taken_bytes n b h = bytes_front (take n b) (drop n b) (whole_bytes n b h)

dropped_bytes : (n : ℕ) (b : List ℕ) → AllBytes b → AllBytes (drop n b)
dropped_bytes n b h = bytes_back (take n b) (drop n b) (whole_bytes n b h)

-- ---- the texts and bytes in a value

abbrev mutual
  HasBytes : Val → Type 0
  HasBytes nil = Unit {0}
  HasBytes (truth t) = Unit {0}
  HasBytes (whole n) = Unit {0}
  HasBytes (text s) = AllBytes s
  HasBytes (bin s) = AllBytes s
  HasBytes (float32 n) = Unit {0}
  HasBytes (float64 n) = Unit {0}
  HasBytes (ext t s) = AllBytes s
  HasBytes (list vs) = HaveBytes vs
  HasBytes (mapping es) = EntriesHaveBytes es

  HaveBytes : Vals → Type 0
  HaveBytes no_vals = Unit {0}
  HaveBytes (val v vs) = HasBytes v × HaveBytes vs

  EntriesHaveBytes : Entries → Type 0
  EntriesHaveBytes no_entries = Unit {0}
  EntriesHaveBytes (entry k v es) = HasBytes k × HasBytes v × EntriesHaveBytes es

text_bytes : (s : List ℕ) (f : Form) (b : List ℕ) → AllBytes b → EncodesAfter (text s) f b → AllBytes s
text_bytes s (form.Str k) b all h = bytes_back h.0 s (subst AllBytes h.2 all)
text_bytes s f b all h = absurd h

bin_bytes : (s : List ℕ) (f : Form) (b : List ℕ) → AllBytes b → EncodesAfter (bin s) f b → AllBytes s
bin_bytes s (form.Bin k) b all h = bytes_back h.0 s (subst AllBytes h.2 all)
bin_bytes s f b all h = absurd h

ext_bytes : (t : ℤ) (s : List ℕ) (f : Form) (b : List ℕ) → AllBytes b → EncodesAfter (ext t s) f b → AllBytes s
ext_bytes t s (form.Ext k) b all (len, c, n, is, e) = (bytes_back len (c ∷ s) (subst AllBytes e all)).1
ext_bytes t s f b all h = absurd h

list_rest : (vs : Vals) (f : Form) (b : List ℕ) → AllBytes b → EncodesAfter (list vs) f b → (rest : List ℕ) × AllBytes rest × EncodesAll vs rest
list_rest vs (form.Array k) b all (len, rest, n, e, are) = (rest, bytes_back len rest (subst AllBytes e all), are)
list_rest vs f b all h = absurd h

map_rest : (es : Entries) (f : Form) (b : List ℕ) → AllBytes b → EncodesAfter (mapping es) f b → (rest : List ℕ) × AllBytes rest × EncodesEntries es rest
map_rest es (form.Map k) b all (len, rest, n, e, are) = (rest, bytes_back len rest (subst AllBytes e all), are)
map_rest es f b all h = absurd h

parted : (v : Val) (b : List ℕ) → AllBytes b → Encodes v b → (f : Form) × (rest : List ℕ) × AllBytes rest × EncodesAfter v f rest
parted v [] all h = absurd h
parted v (c ∷ b) all h = (_, b, all.1, h)

mutual
  after_bytes : (v : Val) (f : Form) (b : List ℕ) → AllBytes b → EncodesAfter v f b → HasBytes v
  after_bytes nil f b all h = tt
  after_bytes (truth t) f b all h = tt
  after_bytes (whole n) f b all h = tt
  after_bytes (text s) f b all h = text_bytes s f b all h
  after_bytes (bin s) f b all h = bin_bytes s f b all h
  after_bytes (float32 n) f b all h = tt
  after_bytes (float64 n) f b all h = tt
  after_bytes (ext t s) f b all h = ext_bytes t s f b all h
  after_bytes (list vs) f b all h = let p = list_rest vs f b all h in each_bytes vs p.0 p.1 p.2
  after_bytes (mapping es) f b all h = let p = map_rest es f b all h in entry_bytes es p.0 p.1 p.2

  each_bytes : (vs : Vals) (b : List ℕ) → AllBytes b → EncodesAll vs b → HaveBytes vs
  each_bytes no_vals b all h = tt
  each_bytes (val v vs) b all h =
      let parts : AllBytes (h.0 ++ h.1) = subst AllBytes h.2 all in
      (let p = parted v h.0 (bytes_front h.0 h.1 parts) h.3 in after_bytes v p.0 p.1 p.2 p.3, each_bytes vs h.1 (bytes_back h.0 h.1 parts) h.4)

  entry_bytes : (es : Entries) (b : List ℕ) → AllBytes b → EncodesEntries es b → EntriesHaveBytes es
  entry_bytes no_entries b all h = tt
  entry_bytes (entry k v es) b all h =
      let parts : AllBytes (h.0 ++ (h.1 ++ h.2)) = subst AllBytes h.3 all in
      let rest = bytes_back h.0 (h.1 ++ h.2) parts in (
        let p = parted k h.0 (bytes_front h.0 (h.1 ++ h.2) parts) h.4 in after_bytes k p.0 p.1 p.2 p.3,
        let p = parted v h.1 (bytes_front h.1 h.2 rest) h.5 in after_bytes v p.0 p.1 p.2 p.3,
        entry_bytes es h.2 (bytes_back h.1 h.2 rest) h.6,
      )

-- an encoded value has numbers in range, and bytes
encoded_bytes : (v : Val) (b : List ℕ) → AllBytes b → Encodes v b → HasBytes v
encoded_bytes v b all h = let p = parted v b all h in after_bytes v p.0 p.1 p.2 p.3

encoded_ranged : (v : Val) (b : List ℕ) → AllBytes b → Encodes v b → IsInRange v
encoded_ranged v b all h = fits_range v (encodings_fit v b all h)

-- ---- events

same_event : (e f : Event) → ◌≡◌ {A = Option Event} (Some e) (Some f) → e ≡ f
same_event e f h = cc

no_event : (e : Event) → ◌≡◌ {A = Option Event} None (Some e) → ⊥
no_event e h = cc

same_events : (xs ys : List Event) → ◌≡◌ {A = Option (List Event)} (Some xs) (Some ys) → xs ≡ ys
same_events xs ys e = cc

abbrev TimeFits : Timestamp → Type 0
TimeFits moment = (moment.0 < 2 ^ 32) × (moment.1 < 2 ^ 32)

four_below : (b : List ℕ) → AllBytes b → from_be_bytes w32 b < 2 ^ 32
unfolding number
four_below b all = number_below Four b all

seconds_fit : (b : Bool) (n : ℕ) → nat_lt n 4294967296 ≡ b → IfSome (if b then Some (n, 0) else None) TimeFits
seconds_fit true n is = (ltb-true n 4294967296 is, omega arith)
seconds_fit false n is = tt

halves_fit : (b : Bool) (bytes : List ℕ) → AllBytes bytes → IfSome (if b then Some (from_be_bytes w32 (take 4 bytes), from_be_bytes w32 (drop 4 bytes)) else None) TimeFits
halves_fit true bytes all = (four_below (take 4 bytes) (taken_bytes 4 bytes all), four_below (drop 4 bytes) (dropped_bytes 4 bytes all))
halves_fit false bytes all = tt

time_fits : (v : Val) → HasBytes v → IfSome (time_of v) TimeFits
time_fits (whole (pos n)) h = seconds_fit (nat_lt n 4294967296) n refl
time_fits (ext (pos zero) bytes) h = halves_fit (length bytes == 8) bytes h
time_fits v h = tt

pairs_ranged : (es : Entries) → EntriesAreInRange es → IsRanged (pairs_of es)
pairs_ranged no_entries r = tt
pairs_ranged (entry k v es) r = (r.0, r.1, pairs_ranged es r.2)

timed_ranged : (m : Option Timestamp) (meta body : Entries) (e : Event) → event_at m meta body ≡ Some e → IfSome m TimeFits → EntriesAreInRange meta → EntriesAreInRange body → NumbersFit e
timed_ranged None meta body e h time mr br = absurd (no_event e h)
timed_ranged (Some m) meta body e h time mr br =
    subst NumbersFit (same_event _ e h) (record { sec = time.0; nsec = time.1; meta = pairs_ranged meta mr; body = pairs_ranged body br })

headed_ranged : (head : Val) (body : Entries) (e : Event) → event_with_header head body ≡ Some e → HasBytes head → IsInRange head → EntriesAreInRange body → NumbersFit e
headed_ranged (list (val time (val (mapping meta) no_vals))) body e h hb hr br = timed_ranged (time_of time) meta body e h (time_fits time hb.0) hr.1.0 br
headed_ranged time body e h hb hr br = timed_ranged (time_of time) no_entries body e h (time_fits time hb) tt br

event_ranged : (v : Val) (e : Event) → event_of v ≡ Some e → HasBytes v → IsInRange v → NumbersFit e
event_ranged (list (val head (val (mapping body) no_vals))) e h hb hr = headed_ranged head body e h hb.0 hr.0 hr.1.0
event_ranged v e h hb hr = absurd (no_event e h)

-- ---- carried events

abbrev CarriedFits : Carried → Type 0
CarriedFits (one time body) = HasBytes (list (val time (val body no_vals))) × IsInRange (list (val time (val body no_vals)))
CarriedFits (many vs) = HaveBytes vs × AreInRange vs
CarriedFits (packed b) = AllBytes b

each_ranged : (vs : Vals) (es : List Event) → events_of vs ≡ Some es → HaveBytes vs → AreInRange vs → AllRanged es
each_ranged no_vals es h hb hr = subst AllRanged (same_events [] es h) tt
each_ranged (val v vs) es h hb hr =
    let f = fronted (event_of v) (events_of vs) es h in
    subst AllRanged (sym f.4) (event_ranged v f.0 f.2 hb.0 hr.0, each_ranged vs f.1 f.3 hb.1 hr.1)

are_ranged : (es : List Event) (b : List ℕ) → AllBytes b → AreEvents es b → AllRanged es
are_ranged [] b all a = tt
are_ranged (e ∷ es) b all a =
    let parts = subst AllBytes a.3 all in
    let own = bytes_front a.1 a.2 parts in
    (event_ranged a.0 e a.6 (encoded_bytes a.0 a.1 own a.4) (encoded_ranged a.0 a.1 own a.4), are_ranged es a.2 (bytes_back a.1 a.2 parts) a.7)

carried_ranged : (c : Carried) (es : List Event) → CarriedFits c → Carries c es → AllRanged es
carried_ranged (one time body) es f h =
    let x = fronted (event_of (list (val time (val body no_vals)))) (Some []) es h in
    let last : [] ≡ x.1 = same_events [] x.1 x.3 in
    subst AllRanged (sym x.4) (event_ranged (list (val time (val body no_vals))) x.0 x.2 f.0 f.1, subst AllRanged last tt)
carried_ranged (many vs) es f h = each_ranged vs es h f.0 f.1
carried_ranged (packed b) es f h = are_ranged es b f h

-- ---- the parts of a message

abbrev PartsFit : Parts → Type 0
PartsFit empty = Unit {0}
PartsFit (tagged t c o) = CarriedFits c
PartsFit unfit = Unit {0}

tagged_fits : (t : Option (List ℕ)) (o : Option Record) (c : Carried) → CarriedFits c → PartsFit (tagged_by t o c)
tagged_fits (Some t) (Some o) c f = f
tagged_fits (Some t) None c f = tt
tagged_fits None o c f = tt

optioned_fits : (tag : Val) (c : Carried) (vs : Vals) → CarriedFits c → PartsFit (with_option tag c vs)
optioned_fits tag c no_vals f = tagged_fits (tag_of tag) (Some []) c f
optioned_fits tag c (val o no_vals) f = tagged_fits (tag_of tag) (option_of o) c f
optioned_fits tag c (val o (val p vs)) f = tt

with_time_fits : (tag time : Val) (vs : Vals) → HasBytes time → IsInRange time → HaveBytes vs → AreInRange vs → PartsFit (with_time tag time vs)
with_time_fits tag time (val body vs) tb tr hb hr = optioned_fits tag (one time body) vs ((tb, (hb.0, tt)), (tr, (hr.0, tt)))
with_time_fits tag time no_vals tb tr hb hr = tt

mode_fits : (tag second : Val) (vs : Vals) → HasBytes second → IsInRange second → HaveBytes vs → AreInRange vs → PartsFit (in_mode tag second vs)
mode_fits tag (list es) vs sb sr hb hr = optioned_fits tag (many es) vs (sb, sr)
mode_fits tag (text b) vs sb sr hb hr = optioned_fits tag (packed b) vs sb
mode_fits tag (bin b) vs sb sr hb hr = optioned_fits tag (packed b) vs sb
mode_fits tag time vs sb sr hb hr = with_time_fits tag time vs sb sr hb hr

value_fits : (x : Val) → HasBytes x → IsInRange x → PartsFit (parts_of x)
value_fits (list (val tag (val second vs))) hb hr = mode_fits tag second vs hb.1.0 hr.1.0 hb.1.1 hr.1.1
value_fits x hb hr = tt

plain_ranged : (p : Bool) (t : List ℕ) (k : Option Val) (c : Carried) (s : MessageContent) → CarriedFits c → PlainSays p t k c (says s) → AllRanged (events_of_content s)
plain_ranged true t k c nothing f h = tt
plain_ranged true t k c (batch tag es chunk) f h = carried_ranged c es f h.2
plain_ranged false t k c s f h = absurd cc

parts_ranged : (p : Parts) (s : MessageContent) → PartsFit p → PartsSay p (says s) → AllRanged (events_of_content s)
parts_ranged empty nothing f h = tt
parts_ranged empty (batch tag es chunk) f h = absurd cc
parts_ranged (tagged t c o) s f h = plain_ranged (is_plain o) t (option_value o chunk_key) c s f h
parts_ranged unfit s f h = absurd cc

pub message_ranged : (b : List ℕ) (s : MessageContent) (n : ℕ) → AllBytes b → IsAnswer b (message s n) → AllRanged (events_of_content s)
message_ranged b s n all h =
    let x = h.0 in
    let own = taken_bytes n (front b) (taken_bytes longest_message b all) in
    parts_ranged (parts_of x) s (value_fits x (encoded_bytes x (take n (front b)) own h.1.1) (encoded_ranged x (take n (front b)) own h.1.1)) h.2

-- ---- the messages of a stream

abbrev pub EachRanged : List MessageContent → Type 0
EachRanged [] = Unit {0}
EachRanged (m ∷ ms) = AllRanged (events_of_content m) × EachRanged ms

stream_ranged : (ms : List MessageContent) (e : Ending) (b : List ℕ) → AllBytes b → Streams ms e b → EachRanged ms
stream_ranged [] e b all h = tt
stream_ranged (m ∷ ms) e b all h = (message_ranged b m h.0 all h.1, stream_ranged ms e (drop h.0 b) (dropped_bytes h.0 b all) h.2)

pub messages_ranged : (b : List ℕ) → AllBytes b → EachRanged (messages_in b).messages
messages_ranged b all = stream_ranged (messages_in b).messages (messages_in b).ending b all ((streams_exactly (messages_in b).messages (messages_in b).ending b).1 refl)
