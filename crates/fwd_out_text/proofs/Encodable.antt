-- A decoded event can be written.
use Rattle.std.proofs.Common.{◌≡◌, ◌≤◌, Option, Some, None, refl, sym, ap, subst, arith}
use Rattle.fwd_value.specs.Val.{Val, list, mapping, no_vals, val, Entries, no_entries, entry, entries_of}
use Rattle.fwd_value.specs.Limits.{nesting, LengthsFit}
use Rattle.fwd_event.specs.declared.event.Event.{Event}
use Rattle.fwd_event.specs.Event.{Timestamp, pairs_of, time_of, event_at, event_with_header, event_of, EventFits}

no_event : (e : Event) → None ≡ Some e → ⊥
no_event e h = cc

same_event : (d e : Event) → Some d ≡ Some e → d ≡ e
same_event d e h = cc

entries_back : (es : Entries) → entries_of (pairs_of es) ≡ es
entries_back no_entries = refl
entries_back (entry k v es) = ap (entry k v) (entries_back es)

timed_fits : (moment : Option Timestamp) (meta body : Entries) (e : Event) → event_at moment meta body ≡ Some e → nesting (mapping meta) ≤ 62 → nesting (mapping body) ≤ 63 → LengthsFit (mapping meta) → LengthsFit (mapping body) → EventFits e
timed_fits None meta body e is shallow low short brief = absurd (no_event e is)
timed_fits (Some moment) meta body e is shallow low short brief =
    let made : Event = record { sec = moment.0; nsec = moment.1; meta = pairs_of meta; body = pairs_of body } in
    let fits : EventFits made = record {
      meta_nested = subst (λ (es : Entries). nesting (mapping es) ≤ 62) (sym (entries_back meta)) shallow;
      body_nested = subst (λ (es : Entries). nesting (mapping es) ≤ 63) (sym (entries_back body)) low;
      meta_lengths = subst (λ (es : Entries). LengthsFit (mapping es)) (sym (entries_back meta)) short;
      body_lengths = subst (λ (es : Entries). LengthsFit (mapping es)) (sym (entries_back body)) brief;
    } in
    subst EventFits (same_event made e is) fits

headed_fits : (head : Val) (body : Entries) (e : Event) → event_with_header head body ≡ Some e → nesting head ≤ 63 → nesting (mapping body) ≤ 63 → LengthsFit head → LengthsFit (mapping body) → EventFits e
headed_fits (list (val time (val (mapping meta) no_vals))) body e is deep low short brief = timed_fits (time_of time) meta body e is (omega (arith, deep)) low short.1.1.0 brief
headed_fits head body e is deep low short brief = timed_fits (time_of head) no_entries body e is (omega arith) low (omega arith, tt) brief

pub event_fits : (v : Val) (e : Event) → event_of v ≡ Some e → nesting v ≤ 64 → LengthsFit v → EventFits e
event_fits (list (val head (val (mapping body) no_vals))) e is deep short = headed_fits head body e is (omega (arith, deep)) (omega (arith, deep)) short.1.0 short.1.1.0
event_fits v e is deep short = absurd (no_event e is)
