-- What a message says can be encoded, since it was part of an encoded value.
use Rattle.std.proofs.Common.{◌≡◌, ℕ, ◌≤◌, Bool, true, false, cond, List, [], ◌∷◌, take, drop, All, IfSome, Option, Some, None, option_map, IfOk, Result, Ok, Err, refl, sym, ap, subst, arith}
use Rattle.std.proofs.lemmas.List.{take-append-drop}
use Rattle.std.proofs.lemmas.List.Elements.{All-cons, All-nil}
use Rattle.fwd_base.specs.Limits.{longest_message}
use Rattle.fwd_value.specs.Val.{Val, nil, text, bin, list, mapping, Vals, no_vals, val, Entries, no_entries, entry, entries_of}
use Rattle.fwd_value.specs.Limits.{nesting, nestings, entry_nestings, LengthsFit, AllLengthsFit, EntryLengthsFit}
use Rattle.fwd_msgpack.specs.declared.form.Form.{Form}
use Rattle.fwd_msgpack.specs.declared.form.Form.TheVariants as form
use Rattle.fwd_msgpack.specs.Encodings.{AllBytes, EncodesAfter, Encodes}
use Rattle.fwd_msgpack.proofs.Encodable.{fits_lengths}
use Rattle.fwd_msgpack.proofs.Ranges.{bytes_front, bytes_back, encodings_fit}
use Rattle.fwd_value.specs.Keys.{Record, has_key, key}
use Rattle.fwd_event.specs.declared.event.Event.{Event}
use Rattle.fwd_event.specs.Event.{Timestamp, pairs_of, time_of, event_at, event_with_header, event_of, AreEvents, EventFits}
use Rattle.fwd_wire.specs.Message.{MessageContent, nothing, batch, says, Carried, one, many, packed, Parts, empty, tagged, unfit, tag_of, option_of, option_value, chunk_key, is_plain, tagged_by, with_option, with_time, in_mode, parts_of, events_of, Carries, PlainSays, PartsSay}
use Rattle.fwd_wire.specs.Answer.{message, front, IsAnswer}
use Rattle.fwd_wire.specs.Fits.{ContentFits}
use Rattle.fwd_wire.specs.declared.message.Message.{Message}
use Rattle.fwd_wire.specs.declared.errors.WireErr.{WireErr}
use Rattle.fwd_wire.specs.Representation.{content_of, answer_of, HasAnswer}
use Rattle.fwd_wire.proofs.Packed.{fronted}

entries_back : (es : Entries) → entries_of (pairs_of es) ≡ es
entries_back no_entries = refl
entries_back (entry k v es) = ap (entry k v) (entries_back es)

-- Events

same_event : (e f : Event) → ◌≡◌ {A = Option Event} (Some e) (Some f) → e ≡ f
same_event e f h = cc

no_event : (e : Event) → ◌≡◌ {A = Option Event} None (Some e) → ⊥
no_event e h = cc

timed_fits : (m : Option Timestamp) (meta body : Entries) (e : Event) → event_at m meta body ≡ Some e
    → nesting (mapping meta) ≤ 62 → nesting (mapping body) ≤ 63 → LengthsFit (mapping meta) → LengthsFit (mapping body) → EventFits e
timed_fits None meta body e h mn bn ml bl = absurd (no_event e h)
timed_fits (Some m) meta body e h mn bn ml bl =
    subst EventFits (same_event _ e h) (record {
      meta_nested = subst (λ (es : Entries). nesting (mapping es) ≤ 62) (sym (entries_back meta)) mn;
      body_nested = subst (λ (es : Entries). nesting (mapping es) ≤ 63) (sym (entries_back body)) bn;
      meta_lengths = subst (λ (es : Entries). LengthsFit (mapping es)) (sym (entries_back meta)) ml;
      body_lengths = subst (λ (es : Entries). LengthsFit (mapping es)) (sym (entries_back body)) bl;
    })

headed_fits : (head : Val) (body : Entries) (e : Event) → event_with_header head body ≡ Some e
    → nesting head ≤ 63 → nesting (mapping body) ≤ 63 → LengthsFit head → LengthsFit (mapping body) → EventFits e
headed_fits (list (val time (val (mapping meta) no_vals))) body e h hn bn hl bl = timed_fits (time_of time) meta body e h (omega (arith, hn)) bn hl.1.1.0 bl
headed_fits time body e h hn bn hl bl = timed_fits (time_of time) no_entries body e h (omega arith) bn (omega arith, tt) bl

event_fits : (v : Val) (e : Event) → event_of v ≡ Some e → nesting v ≤ 64 → LengthsFit v → EventFits e
event_fits (list (val head (val (mapping body) no_vals))) e h n l = headed_fits head body e h (omega (arith, n)) (omega (arith, n)) l.1.0 l.1.1.0
event_fits v e h n l = absurd (no_event e h)

-- Carried events

abbrev CarriedFits : Carried → Type 0
CarriedFits (one time body) = (nesting (list (val time (val body no_vals))) ≤ 64) × LengthsFit (list (val time (val body no_vals)))
CarriedFits (many vs) = (nestings vs ≤ 64) × AllLengthsFit vs
CarriedFits (packed b) = AllBytes b

each_fits : (vs : Vals) (es : List Event) → events_of vs ≡ Some es → nestings vs ≤ 64 → AllLengthsFit vs → All EventFits es
each_fits no_vals es h n l = subst (All EventFits) (same_list [] es h) (All-nil EventFits)
  where
    same_list : (xs ys : List Event) → ◌≡◌ {A = Option (List Event)} (Some xs) (Some ys) → xs ≡ ys
    same_list xs ys e = cc
each_fits (val v vs) es h n l =
    let f = fronted (event_of v) (events_of vs) es h in
    subst (All EventFits) (sym f.4) (All-cons EventFits f.0 f.1 (event_fits v f.0 f.2 (omega (arith, n)) l.0) (each_fits vs f.1 f.3 (omega (arith, n)) l.1))

are_fit : (es : List Event) (b : List ℕ) → AllBytes b → AreEvents es b → All EventFits es
are_fit [] b all a = All-nil EventFits
are_fit (e ∷ es) b all a =
    let parts = subst AllBytes a.3 all in
    let lengths = fits_lengths a.0 (encodings_fit a.0 a.1 (bytes_front a.1 a.2 parts) a.4) in
    All-cons EventFits e es (event_fits a.0 e a.6 a.5 lengths) (are_fit es a.2 (bytes_back a.1 a.2 parts) a.7)

carried_fits : (c : Carried) (es : List Event) → CarriedFits c → Carries c es → All EventFits es
carried_fits (one time body) es f h =
    let x = fronted (event_of (list (val time (val body no_vals)))) (Some []) es h in
    let last : [] ≡ x.1 = same_list [] x.1 x.3 in
    subst (All EventFits) (sym x.4) (All-cons EventFits x.0 x.1 (event_fits (list (val time (val body no_vals))) x.0 x.2 f.0 f.1) (subst (All EventFits) last (All-nil EventFits)))
  where
    same_list : (xs ys : List Event) → ◌≡◌ {A = Option (List Event)} (Some xs) (Some ys) → xs ≡ ys
    same_list xs ys e = cc
carried_fits (many vs) es f h = each_fits vs es h f.0 f.1
carried_fits (packed b) es f h = are_fit es b f h

-- The option

abbrev ChunkFits : Val → Type 0
ChunkFits v = (nesting v ≤ 63) × LengthsFit v

abbrev PairsFit : Record → Type 0
PairsFit [] = Unit {0}
PairsFit (p ∷ o) = ChunkFits p.1 × PairsFit o

found_fits : (t : Bool) (p : Val × Val) (rest : Option (Val × Val)) → ChunkFits p.1 → IfSome rest (λ q. ChunkFits q.1) → IfSome (cond t (Some p) rest) (λ q. ChunkFits q.1)
found_fits true p rest f g = f
found_fits false p rest f g = g

key_fits : (o : Record) (k : List ℕ) → PairsFit o → IfSome (key o k) (λ q. ChunkFits q.1)
key_fits [] k f = tt
key_fits (p ∷ o) k f = found_fits (has_key k p) p (key o k) f.0 (key_fits o k f.1)

mapped_fits : (q : Option (Val × Val)) → IfSome q (λ p. ChunkFits p.1) → IfSome (option_map (λ p. p.1) q) ChunkFits
mapped_fits None f = tt
mapped_fits (Some p) f = f

chunk_fits : (o : Record) → PairsFit o → IfSome (option_value o chunk_key) ChunkFits
chunk_fits o f = mapped_fits (key o chunk_key) (key_fits o chunk_key f)

pairs_fit : (es : Entries) → entry_nestings es ≤ 63 → EntryLengthsFit es → PairsFit (pairs_of es)
pairs_fit no_entries n l = tt
pairs_fit (entry k v es) n l = ((omega (arith, n), l.1), pairs_fit es (omega (arith, n)) l.2)

option_fits : (o : Val) → nesting o ≤ 63 → LengthsFit o → IfSome (option_of o) PairsFit
option_fits nil n l = tt
option_fits (mapping es) n l = pairs_fit es (omega (arith, n)) l.1
option_fits o n l = tt

-- The parts

abbrev PartsFit : Parts → Type 0
PartsFit empty = Unit {0}
PartsFit (tagged t c o) = CarriedFits c × PairsFit o
PartsFit unfit = Unit {0}

tagged_fits : (t : Option (List ℕ)) (o : Option Record) (c : Carried) → CarriedFits c → IfSome o PairsFit → PartsFit (tagged_by t o c)
tagged_fits (Some t) (Some o) c f g = (f, g)
tagged_fits (Some t) None c f g = tt
tagged_fits None o c f g = tt

optioned_fits : (tag : Val) (c : Carried) (vs : Vals) → CarriedFits c → nestings vs ≤ 63 → AllLengthsFit vs → PartsFit (with_option tag c vs)
optioned_fits tag c no_vals f n l = tagged_fits (tag_of tag) (Some []) c f tt
optioned_fits tag c (val o no_vals) f n l = tagged_fits (tag_of tag) (option_of o) c f (option_fits o (omega (arith, n)) l.0)
optioned_fits tag c (val o (val p vs)) f n l = tt

time_fits : (tag time : Val) (vs : Vals) → nesting time ≤ 63 → LengthsFit time → nestings vs ≤ 63 → AllLengthsFit vs → PartsFit (with_time tag time vs)
time_fits tag time (val body vs) tn tl n l = optioned_fits tag (one time body) vs (omega (arith, tn, n), (omega arith, (tl, (l.0, tt)))) (omega (arith, n)) l.1
time_fits tag time no_vals tn tl n l = tt

-- bytes that are carried are bytes
abbrev Packs : Val → Type 0
Packs (text s) = AllBytes s
Packs (bin s) = AllBytes s
Packs v = Unit {0}

mode_fits : (tag second : Val) (vs : Vals) → Packs second → nesting second ≤ 63 → LengthsFit second → nestings vs ≤ 63 → AllLengthsFit vs → PartsFit (in_mode tag second vs)
mode_fits tag (list es) vs p sn sl n l = optioned_fits tag (many es) vs (omega (arith, sn), sl.1) n l
mode_fits tag (text b) vs p sn sl n l = optioned_fits tag (packed b) vs p n l
mode_fits tag (bin b) vs p sn sl n l = optioned_fits tag (packed b) vs p n l
mode_fits tag time vs p sn sl n l = time_fits tag time vs sn sl n l

text_bytes : (s : List ℕ) (f : Form) (b : List ℕ) → AllBytes b → EncodesAfter (text s) f b → AllBytes s
text_bytes s (form.Str k) b all h = bytes_back h.0 s (subst AllBytes h.2 all)
text_bytes s f b all h = absurd h

bin_bytes : (s : List ℕ) (f : Form) (b : List ℕ) → AllBytes b → EncodesAfter (bin s) f b → AllBytes s
bin_bytes s (form.Bin k) b all h = bytes_back h.0 s (subst AllBytes h.2 all)
bin_bytes s f b all h = absurd h

packs : (v : Val) (b : List ℕ) → AllBytes b → Encodes v b → Packs v
packs (text s) [] all h = absurd h
packs (text s) (c ∷ b) all h = text_bytes s _ b all.1 h
packs (bin s) [] all h = absurd h
packs (bin s) (c ∷ b) all h = bin_bytes s _ b all.1 h
packs v b all h = tt

second_packs : (tag second : Val) (vs : Vals) (f : Form) (b : List ℕ) → AllBytes b → EncodesAfter (list (val tag (val second vs))) f b → Packs second
second_packs tag second vs (form.Array k) b all h =
    let inside = bytes_back h.0 h.1 (subst AllBytes h.3 all) in
    let first = subst AllBytes h.4.2 inside in
    let behind = bytes_back h.4.0 h.4.1 first in
    let parts = subst AllBytes h.4.4.2 behind in
    packs second h.4.4.0 (bytes_front h.4.4.0 h.4.4.1 parts) h.4.4.3
second_packs tag second vs f b all h = absurd h

value_fits : (x : Val) (b : List ℕ) → AllBytes b → Encodes x b → nesting x ≤ 64 → LengthsFit x → PartsFit (parts_of x)
value_fits (list (val tag (val second vs))) [] all h n l = absurd h
value_fits (list (val tag (val second vs))) (c ∷ b) all h n l =
    mode_fits tag second vs (second_packs tag second vs _ b all.1 h) (omega (arith, n)) l.1.1.0 (omega (arith, n)) l.1.1.1
value_fits x b all h n l = tt

plain_fits : (p : Bool) (t : List ℕ) (k : Option Val) (c : Carried) (s : MessageContent) → CarriedFits c → IfSome k ChunkFits → PlainSays p t k c (says s) → ContentFits s
plain_fits true t k c nothing f g h = tt
plain_fits true t k c (batch tag es chunk) f g h = (carried_fits c es f h.2, subst (λ (o : Option Val). IfSome o ChunkFits) (sym h.1) g)
plain_fits false t k c s f g h = absurd cc

parts_fit : (p : Parts) (s : MessageContent) → PartsFit p → PartsSay p (says s) → ContentFits s
parts_fit empty nothing f h = tt
parts_fit empty (batch tag es chunk) f h = absurd cc
parts_fit (tagged t c o) s f h = plain_fits (is_plain o) t (option_value o chunk_key) c s f.0 (chunk_fits o f.1) h
parts_fit unfit s f h = absurd cc

pub said_fits : (b : List ℕ) (s : MessageContent) (n : ℕ) → AllBytes b → IsAnswer b (message s n) → ContentFits s
said_fits b s n all h =
    let x = h.0 in
    let seen = bytes_front (front b) (drop longest_message b) (subst AllBytes (sym (take-append-drop longest_message b)) all) in
    let encoded = bytes_front (take n (front b)) (drop n (front b)) (subst AllBytes (sym (take-append-drop n (front b))) seen) in
    let lengths = fits_lengths x (encodings_fit x (take n (front b)) encoded h.1.1) in
    parts_fit (parts_of x) s (value_fits x (take n (front b)) encoded h.1.1 h.1.2 lengths) h.2

pub returned_fits : (b : List ℕ) (r : Result (Message × ℕ) WireErr) → AllBytes b → HasAnswer b (answer_of r) → IfOk r (λ x. ContentFits (content_of x.0))
returned_fits b (Ok x) all h = said_fits b (content_of x.0) x.1 all h
returned_fits b (Err e) all h = tt
