-- The events of a message are shallow, since the value that contains them is nested at most 64 deep.
use Rattle.std.proofs.Common.{◌≡◌, ℕ, ◌≤◌, Bool, true, false, List, [], ◌∷◌, drop, Option, Some, None, refl, sym, subst, arith}
use Rattle.std.specs.List.{list_all}
use Rattle.fwd_value.specs.Val.{Val, text, bin, list, mapping, Vals, no_vals, val, Entries, no_entries, entry, entries_of}
use Rattle.fwd_value.specs.Limits.{nesting, nestings, entry_nestings}
use Rattle.fwd_value.specs.Keys.{Record}
use Rattle.fwd_event.specs.declared.event.Event.{Event}
use Rattle.fwd_event.specs.Event.{Timestamp, pairs_of, time_of, event_at, event_with_header, event_of, AreEvents}
use Rattle.fwd_wire.specs.Message.{MessageContent, nothing, batch, says, Carried, one, many, packed, Parts, empty, tagged, unfit, tag_of, option_of, option_value, chunk_key, is_plain, tagged_by, with_option, with_time, in_mode, parts_of, events_of, Carries, PlainSays, PartsSay}
use Rattle.fwd_wire.specs.Answer.{message, IsAnswer}
use Rattle.fwd_wire.specs.Stream.{Ending, Streams}
use Rattle.fwd_wire.specs.Decode.{messages_in}
use Rattle.fwd_wire.proofs.Packed.{fronted}
use Rattle.fwd_wire.proofs.Computed.{streams_exactly}
use Rattle.fwd_theorem_depth.specs.Shallow.{are_shallow, events_of_content}
use Rattle.fwd_theorem_depth.proofs.Shallow.{Shallow, AllShallow, all_pass, both}

-- Events

same_event : (e f : Event) → ◌≡◌ {A = Option Event} (Some e) (Some f) → e ≡ f
same_event e f h = cc

no_event : (e : Event) → ◌≡◌ {A = Option Event} None (Some e) → ⊥
no_event e h = cc

same_events : (xs ys : List Event) → ◌≡◌ {A = Option (List Event)} (Some xs) (Some ys) → xs ≡ ys
same_events xs ys e = cc

entries_back : (es : Entries) → entry_nestings (entries_of (pairs_of es)) ≡ entry_nestings es
entries_back no_entries = refl
entries_back (entry k v es) = omega (arith, entries_back es)

timed_shallow : (m : Option Timestamp) (meta body : Entries) (e : Event) → event_at m meta body ≡ Some e
    → nesting (mapping meta) ≤ 62 → nesting (mapping body) ≤ 63 → Shallow e
timed_shallow None meta body e h mn bn = absurd (no_event e h)
timed_shallow (Some m) meta body e h mn bn =
    subst Shallow (same_event _ e h) (record { meta = omega (arith, mn, entries_back meta); body = omega (arith, bn, entries_back body) })

headed_shallow : (head : Val) (body : Entries) (e : Event) → event_with_header head body ≡ Some e → nesting head ≤ 63 → nesting (mapping body) ≤ 63 → Shallow e
headed_shallow (list (val time (val (mapping meta) no_vals))) body e h hn bn = timed_shallow (time_of time) meta body e h (omega (arith, hn)) bn
headed_shallow time body e h hn bn = timed_shallow (time_of time) no_entries body e h (omega arith) bn

event_shallow : (v : Val) (e : Event) → event_of v ≡ Some e → nesting v ≤ 64 → Shallow e
event_shallow (list (val head (val (mapping body) no_vals))) e h n = headed_shallow head body e h (omega (arith, n)) (omega (arith, n))
event_shallow v e h n = absurd (no_event e h)

-- Carried events

abbrev CarriedFits : Carried → Type 0
CarriedFits (one time body) = nesting (list (val time (val body no_vals))) ≤ 64
CarriedFits (many vs) = nestings vs ≤ 64
CarriedFits (packed b) = Unit {0}

each_shallow : (vs : Vals) (es : List Event) → events_of vs ≡ Some es → nestings vs ≤ 64 → AllShallow es
each_shallow no_vals es h n = subst AllShallow (same_events [] es h) tt
each_shallow (val v vs) es h n =
    let f = fronted (event_of v) (events_of vs) es h in
    subst AllShallow (sym f.4) (event_shallow v f.0 f.2 (omega (arith, n)), each_shallow vs f.1 f.3 (omega (arith, n)))

are_shallow_in : (es : List Event) (b : List ℕ) → AreEvents es b → AllShallow es
are_shallow_in [] b a = tt
are_shallow_in (e ∷ es) b a = (event_shallow a.0 e a.6 a.5, are_shallow_in es a.2 a.7)

carried_shallow : (c : Carried) (es : List Event) → CarriedFits c → Carries c es → AllShallow es
carried_shallow (one time body) es f h =
    let x = fronted (event_of (list (val time (val body no_vals)))) (Some []) es h in
    let last : [] ≡ x.1 = same_events [] x.1 x.3 in
    subst AllShallow (sym x.4) (event_shallow (list (val time (val body no_vals))) x.0 x.2 f, subst AllShallow last tt)
carried_shallow (many vs) es f h = each_shallow vs es h f
carried_shallow (packed b) es f h = are_shallow_in es b h

-- The parts

abbrev PartsFit : Parts → Type 0
PartsFit empty = Unit {0}
PartsFit (tagged t c o) = CarriedFits c
PartsFit unfit = Unit {0}

tagged_fits : (t : Option (List ℕ)) (o : Option Record) (c : Carried) → CarriedFits c → PartsFit (tagged_by t o c)
tagged_fits (Some t) (Some o) c f = f
tagged_fits (Some t) None c f = tt
tagged_fits None o c f = tt

optioned_fits : (tag : Val) (c : Carried) (vs : Vals) → CarriedFits c → PartsFit (with_option tag c vs)
optioned_fits tag c no_vals f = tagged_fits (tag_of tag) (Some []) c f
optioned_fits tag c (val o no_vals) f = tagged_fits (tag_of tag) (option_of o) c f
optioned_fits tag c (val o (val p vs)) f = tt

time_fits : (tag time : Val) (vs : Vals) → nesting time ≤ 63 → nestings vs ≤ 63 → PartsFit (with_time tag time vs)
time_fits tag time (val body vs) t n = optioned_fits tag (one time body) vs (omega (arith, t, n))
time_fits tag time no_vals t n = tt

mode_fits : (tag second : Val) (vs : Vals) → nesting second ≤ 63 → nestings vs ≤ 63 → PartsFit (in_mode tag second vs)
mode_fits tag (list es) vs s n = optioned_fits tag (many es) vs (omega (arith, s))
mode_fits tag (text b) vs s n = optioned_fits tag (packed b) vs tt
mode_fits tag (bin b) vs s n = optioned_fits tag (packed b) vs tt
mode_fits tag time vs s n = time_fits tag time vs s n

value_fits : (x : Val) → nesting x ≤ 64 → PartsFit (parts_of x)
value_fits (list (val tag (val second vs))) n = mode_fits tag second vs (omega (arith, n)) (omega (arith, n))
value_fits x n = tt

plain_shallow : (p : Bool) (t : List ℕ) (k : Option Val) (c : Carried) (s : MessageContent) → CarriedFits c → PlainSays p t k c (says s) → AllShallow (events_of_content s)
plain_shallow true t k c nothing f h = tt
plain_shallow true t k c (batch tag es chunk) f h = carried_shallow c es f h.2
plain_shallow false t k c s f h = absurd cc

parts_shallow : (p : Parts) (s : MessageContent) → PartsFit p → PartsSay p (says s) → AllShallow (events_of_content s)
parts_shallow empty nothing f h = tt
parts_shallow empty (batch tag es chunk) f h = absurd cc
parts_shallow (tagged t c o) s f h = plain_shallow (is_plain o) t (option_value o chunk_key) c s f h
parts_shallow unfit s f h = absurd cc

pub message_shallow : (b : List ℕ) (s : MessageContent) (n : ℕ) → IsAnswer b (message s n) → AllShallow (events_of_content s)
message_shallow b s n h = parts_shallow (parts_of h.0) s (value_fits h.0 h.1.2) h.2

-- The messages of a stream

stream_shallow : (ms : List MessageContent) (e : Ending) (b : List ℕ) → Streams ms e b → list_all (λ s. are_shallow (events_of_content s)) ms ≡ true
stream_shallow [] e b h = refl
stream_shallow (m ∷ ms) e b h =
    both (are_shallow (events_of_content m)) (list_all (λ s. are_shallow (events_of_content s)) ms) (all_pass (events_of_content m) (message_shallow b m h.0 h.1)) (stream_shallow ms e (drop h.0 b) h.2)

pub messages_shallow : (b : List ℕ) → list_all (λ s. are_shallow (events_of_content s)) (messages_in b).messages ≡ true
messages_shallow b = stream_shallow (messages_in b).messages (messages_in b).ending b ((streams_exactly (messages_in b).messages (messages_in b).ending b).1 refl)
