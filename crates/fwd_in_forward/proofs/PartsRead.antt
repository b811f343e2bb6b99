-- The parts of a message, from what was read of them.
use Rattle.std.proofs.Common.{◌≡◌, ℕ, ◌+◌, ◌-◌, ◌≤◌, true, List, [], ◌∷◌, ◌++◌, length, take, Option, Some, refl, sym, ap, subst, ◌∙◌, append_assoc, arith}
use Rattle.std.proofs.lemmas.List.{append-nil}
use Rattle.std.proofs.lemmas.List.Elements.{All-nil, All-push}
use Rattle.fwd_base.specs.Limits.{deepest}
use Rattle.fwd_value.specs.Val.{Val, nil, truth, whole, text, bin, float32, float64, ext, list, mapping, Vals, no_vals, val, vals_of, entries_of}
use Rattle.fwd_value.specs.Keys.{Record}
use Rattle.fwd_value.specs.Limits.{nesting, value_count, entry_nestings}
use Rattle.fwd_msgpack.specs.Canonical.{canonical}
use Rattle.fwd_msgpack.specs.DecodeAnswers.{EncodesPrefix}
use Rattle.fwd_msgpack.specs.Heads.{StartsWith, StartsWithBytes, StartsWithList, HasBytes}
use Rattle.fwd_event.specs.declared.event.Event.{Event}
use Rattle.fwd_event.specs.Event.{Timestamp, time_of, event_val, AreEvents}
use Rattle.fwd_event.specs.EventPrefix.{IsWritable}
use Rattle.fwd_event.proofs.EventParts.{pairs_back}
use Rattle.fwd_transcode.specs.Events.{AreEventsOf, TranscodesEntries, TranscodesEvents, TranscodesSingle}
use Rattle.fwd_wire.specs.Message.{is_tag, tag_of, events_of, in_front}
use Rattle.fwd_in_forward.specs.EncodedParts.{StartsWithTag, StartsWithHead, StartsWithEvents, StartsWithOption, CarriesEvents, CopiesEvents, IsOption}

-- ---- the tag

bytes_tag : (v : Val) (s : List ℕ) → HasBytes s v → is_tag s ≡ true → (tag_of v ≡ Some s) × (nesting v ≤ deepest - 1)
bytes_tag (text t) s h is = (rw (h, is) refl, omega arith)
bytes_tag (bin t) s h is = (rw (h, is) refl, omega arith)
bytes_tag nil s h is = absurd h
bytes_tag (truth x) s h is = absurd h
bytes_tag (whole x) s h is = absurd h
bytes_tag (float32 x) s h is = absurd h
bytes_tag (float64 x) s h is = absurd h
bytes_tag (ext x t) s h is = absurd h
bytes_tag (list x) s h is = absurd h
bytes_tag (mapping x) s h is = absurd h

pub tag_leads : (s rest b : List ℕ) → StartsWithBytes s rest b → is_tag s ≡ true → StartsWithTag s rest b
tag_leads s rest b h is = let t = bytes_tag h.0 s h.1 is in (h.0, t.0, t.1, h.2)

pub head_leads : (values members : ℕ) (tag rest behind b : List ℕ) → StartsWithList values behind b → values ≡ members + 2 → StartsWithTag tag rest behind → StartsWithHead members tag rest b
head_leads values members tag rest behind b h e t = (behind, subst (λ (n : ℕ). StartsWithList n behind b) e h, t)

-- ---- the events

events_are : (es : List Event) (vs : Vals) → AreEventsOf es vs → events_of vs ≡ Some es
events_are [] no_vals h = refl
events_are (e ∷ es) (val v vs) h = λ i. in_front (h.0 i) (events_are es vs h.1 i)
events_are [] (val v vs) h = absurd h
events_are (e ∷ es) no_vals h = absurd h

event_count : (es : List Event) (vs : Vals) → AreEventsOf es vs → value_count vs ≡ length es
event_count [] no_vals h = refl
event_count (e ∷ es) (val v vs) h = omega (arith, event_count es vs h.1)
event_count [] (val v vs) h = absurd h
event_count (e ∷ es) no_vals h = absurd h

-- one value that carries events, and is an encoding at the start of the bytes
value_carries : (members : ℕ) (v : Val) (es : List Event) (rest b : List ℕ) → CarriesEvents v es → nesting v ≤ deepest - 1 → StartsWith v rest b → StartsWithEvents (members + 1 - members) es rest b
value_carries members v es rest b h le t = record {
  values = val v no_vals;
  count = omega arith;
  carry = h;
  nested = omega (arith, le);
  front = t.0;
  parts = t.1;
  encoded = (t.0, [], sym (append-nil t.0), t.2, refl);
}

-- events in a list
pub entries_lead : (n members : ℕ) (rest entries b old new : List ℕ) → StartsWithList n entries b → TranscodesEntries n rest entries old new → CopiesEvents n (members + 1 - members) rest b old new
entries_lead n members rest entries b old new h t =
    let vs = vals_of t.entries in
    let starts : StartsWith (list vs) rest b =
    (h.0 ++ t.front, h.1 ∙ ap (λ (x : List ℕ). h.0 ++ x) t.parts ∙ sym (append_assoc h.0 t.front rest), h.2 vs t.front (event_count t.events vs t.are ∙ t.many) t.encoded) in
    let carried = value_carries members (list vs) t.events rest b (events_are t.events vs t.are) (omega (arith, t.nested)) starts in
    record { events = t.events; carried = carried; many = t.many; writable = t.writable; written = t.written }

-- events in a text or bin
packed_value : (v : Val) (s : List ℕ) (es : List Event) → HasBytes s v → AreEvents es s → CarriesEvents v es × (nesting v ≤ deepest - 1)
packed_value (text t) s es h a = (subst (AreEvents es) (sym h) a, omega arith)
packed_value (bin t) s es h a = (subst (AreEvents es) (sym h) a, omega arith)
packed_value nil s es h a = absurd h
packed_value (truth x) s es h a = absurd h
packed_value (whole x) s es h a = absurd h
packed_value (float32 x) s es h a = absurd h
packed_value (float64 x) s es h a = absurd h
packed_value (ext x t) s es h a = absurd h
packed_value (list x) s es h a = absurd h
packed_value (mapping x) s es h a = absurd h

pub packed_lead : (n members : ℕ) (s rest b old new : List ℕ) → StartsWithBytes s rest b → TranscodesEvents n s old new → CopiesEvents n (members + 1 - members) rest b old new
packed_lead n members s rest b old new h t =
    let p = packed_value h.0 s t.events h.1 t.are in
    record { events = t.events; carried = value_carries members h.0 t.events rest b p.0 p.1 h.2; many = t.many; writable = t.writable; written = t.written }

-- one event
time_is_flat : (time : Val) (m : Timestamp) → time_of time ≡ Some m → nesting time ≤ 0
time_is_flat (whole n) m is = omega arith
time_is_flat (ext t s) m is = omega arith
time_is_flat nil m is = omega arith
time_is_flat (truth x) m is = omega arith
time_is_flat (float32 x) m is = omega arith
time_is_flat (float64 x) m is = omega arith
time_is_flat (text s) m is = omega arith
time_is_flat (bin s) m is = omega arith
time_is_flat (list x) m is = absurd cc
time_is_flat (mapping x) m is = absurd cc

pub single_lead : (members left : ℕ) (rest b old new : List ℕ) → members ≡ left + 1 → TranscodesSingle deepest rest b old new → CopiesEvents 1 (members + 1 - left) rest b old new
single_lead members left rest b old new less t =
    let carried : StartsWithEvents (members + 1 - left) (t.event ∷ []) rest b = record {
      values = val t.time (val t.body no_vals);
      count = omega (arith, less);
      carry = ((t.event.sec, t.event.nsec), t.moment, ap (λ (o : Option Event). in_front o (Some [])) t.is);
      nested = omega (arith, time_is_flat t.time (t.event.sec, t.event.nsec) t.moment, t.nested);
      front = t.front;
      parts = t.parts;
      encoded = t.encoded;
    } in
    record {
      events = t.event ∷ [];
      carried = carried;
      many = refl;
      writable = All-push IsWritable [] t.event (All-nil IsWritable) t.writable;
      written = t.written ∙ ap (λ (x : List ℕ). old ++ x) (sym (append-nil (canonical (event_val t.event))));
    }

-- ---- the option

pub no_option : (b : List ℕ) → StartsWithOption 0 [] 0 b
no_option b = record { values = no_vals; count = refl; are = refl; nested = omega arith; within = omega arith; encoded = refl }

pub one_option : (v : Val) (o : Record) (n : ℕ) (b : List ℕ) → EncodesPrefix v n b → IsOption v o → StartsWithOption 1 o n b
one_option v o n b h is = record {
  values = val v no_vals;
  count = refl;
  are = is.0;
  nested = omega (arith, is.1);
  within = h.0;
  encoded = (take n b, [], sym (append-nil (take n b)), h.1, refl);
}

pub map_option : (pairs : Record) → entry_nestings (entries_of pairs) ≤ deepest - 2 → IsOption (mapping (entries_of pairs)) pairs
map_option pairs le = (ap Some (pairs_back pairs), omega (arith, le))
