-- The bytes that are written for events are a list of equally many events, whatever numbers they have: a
-- number out of range is written as one in range.
use Rattle.std.proofs.Common.{◌≡◌, ℕ, suc, ◌-◌, ◌≤◌, max, pos, negsuc, Bool, true, false, nat_lt, List, [], ◌∷◌, length, Some, refl, ap, subst, arith}
use Rattle.std.specs.Prelude.{All}
use Rattle.std.specs.Int.{w8, w32, w64, to_be_bytes, from_be_bytes, cast_signed, cast_unsigned}
use Rattle.std.proofs.lemmas.Bool.{le-ltb, ltb-true, ltb-false}
use Rattle.std.proofs.lemmas.List.Elements.{All-head, All-tail}
use Rattle.fwd_value.specs.Val.{Val, nil, truth, whole, text, bin, float32, float64, ext, list, mapping, Vals, no_vals, val, Entries, no_entries, entry, entries_of}
use Rattle.fwd_value.specs.Limits.{nesting, nestings, entry_nestings, value_count, entry_count, LengthsFit, AllLengthsFit, EntryLengthsFit}
use Rattle.fwd_msgpack.specs.declared.form.ByteWidth.TheVariants.{Four, Eight}
use Rattle.fwd_msgpack.specs.declared.form.Count.{Count}
use Rattle.fwd_msgpack.specs.declared.form.Form.TheVariants as form
use Rattle.fwd_msgpack.specs.Table.{form_of}
use Rattle.fwd_msgpack.specs.Encodings.{number, size, Counts, EncodesAll, EncodesEntries, Encodes}
use Rattle.fwd_msgpack.specs.Canonical.{number_bytes, minus_bytes, ext_head, list_head, map_head, canonical, canonical_all, canonical_entries}
use Rattle.fwd_msgpack.proofs.CanonicalEncodes.{canonical_encodes, encodes_by_header, ext_headed, list_headed, map_headed}
use Rattle.fwd_event.specs.declared.event.Event.{Event}
use Rattle.fwd_event.specs.Event.{AreEvents, event_of, event_val, pairs_of, EventFits}
use Rattle.fwd_event.specs.EventPrefix.{encodings}
use Rattle.fwd_model.specs.Notes.{is_empty}

-- ---- the written value

abbrev up_to : Bool → ℕ → ℕ
up_to true n = n
up_to false n = number Eight (to_be_bytes w64 n)

abbrev down_to : Bool → ℕ → Val
down_to true n = whole (negsuc n)
down_to false n = whole (cast_signed w64 (number Eight (to_be_bytes w64 (18446744073709551615 - n))))

abbrev mutual
  written : Val → Val
  written nil = nil
  written (truth t) = truth t
  written (whole (pos n)) = whole (pos (up_to (nat_lt n 18446744073709551616) n))
  written (whole (negsuc n)) = down_to (nat_lt n 9223372036854775808) n
  written (text s) = text s
  written (bin s) = bin s
  written (float32 n) = float32 (number Four (to_be_bytes w32 n))
  written (float64 n) = float64 (number Eight (to_be_bytes w64 n))
  written (ext t s) = ext (cast_signed w8 (cast_unsigned w8 t)) s
  written (list vs) = list (all_written vs)
  written (mapping es) = mapping (entries_written es)

  all_written : Vals → Vals
  all_written no_vals = no_vals
  all_written (val v vs) = val (written v) (all_written vs)

  entries_written : Entries → Entries
  entries_written no_entries = no_entries
  entries_written (entry k v es) = entry (written k) (written v) (entries_written es)

as_many : (vs : Vals) → value_count vs ≡ value_count (all_written vs)
as_many no_vals = refl
as_many (val v vs) = ap suc (as_many vs)

as_many_entries : (es : Entries) → entry_count es ≡ entry_count (entries_written es)
as_many_entries no_entries = refl
as_many_entries (entry k v es) = ap suc (as_many_entries es)

flat : (b : Bool) (n : ℕ) → nesting (down_to b n) ≡ 0
flat true n = refl
flat false n = refl

mutual
  as_deep : (v : Val) → nesting (written v) ≡ nesting v
  as_deep nil = refl
  as_deep (truth t) = refl
  as_deep (whole (pos n)) = refl
  as_deep (whole (negsuc n)) = flat (nat_lt n 9223372036854775808) n
  as_deep (text s) = refl
  as_deep (bin s) = refl
  as_deep (float32 n) = refl
  as_deep (float64 n) = refl
  as_deep (ext t s) = refl
  as_deep (list vs) = ap suc (all_as_deep vs)
  as_deep (mapping es) = ap suc (entries_as_deep es)

  all_as_deep : (vs : Vals) → nestings (all_written vs) ≡ nestings vs
  all_as_deep no_vals = refl
  all_as_deep (val v vs) = (λ i. max (as_deep v i) (all_as_deep vs i))

  entries_as_deep : (es : Entries) → entry_nestings (entries_written es) ≡ entry_nestings es
  entries_as_deep no_entries = refl
  entries_as_deep (entry k v es) = (λ i. max (as_deep k i) (max (as_deep v i) (entries_as_deep es i)))

-- ---- its encoding

number_out : (n : ℕ) → 18446744073709551616 ≤ n → number_bytes n ≡ 207 ∷ to_be_bytes w64 n
unfolding number_bytes
number_out n le = rw (le-ltb n 128 (omega arith), le-ltb n 256 (omega arith), le-ltb n 65536 (omega arith), le-ltb n 4294967296 (omega arith)) refl

minus_out : (n : ℕ) → 9223372036854775808 ≤ n → minus_bytes n ≡ 211 ∷ to_be_bytes w64 (18446744073709551615 - n)
unfolding minus_bytes
minus_out n le = rw (le-ltb n 32 (omega arith), le-ltb n 128 (omega arith), le-ltb n 32768 (omega arith), le-ltb n 2147483648 (omega arith)) refl

number_encoded : (b : Bool) (n : ℕ) → nat_lt n 18446744073709551616 ≡ b → Encodes (whole (pos (up_to b n))) (number_bytes n)
unfolding form_of size
number_encoded true n is = canonical_encodes (whole (pos n)) (ltb-true n 18446744073709551616 is)
number_encoded false n is = rw (number_out n (ltb-false n 18446744073709551616 is)) (refl, refl)

minus_encoded : (b : Bool) (n : ℕ) → nat_lt n 9223372036854775808 ≡ b → Encodes (down_to b n) (minus_bytes n)
unfolding form_of size
minus_encoded true n is = canonical_encodes (whole (negsuc n)) (ltb-true n 9223372036854775808 is)
minus_encoded false n is = rw (minus_out n (ltb-false n 9223372036854775808 is)) (refl, refl)

counts_as : (k : Count) (n m : ℕ) (len : List ℕ) → n ≡ m → Counts k n len → Counts k m len
counts_as k n m len same = subst (λ (i : ℕ). Counts k i len) same

mutual
  unfolding form_of size

  value_encoded : (v : Val) → LengthsFit v → Encodes (written v) (canonical v)
  value_encoded nil h = refl
  value_encoded (truth t) h = canonical_encodes (truth t) tt
  value_encoded (whole (pos n)) h = number_encoded (nat_lt n 18446744073709551616) n refl
  value_encoded (whole (negsuc n)) h = minus_encoded (nat_lt n 9223372036854775808) n refl
  value_encoded (text s) h = canonical_encodes (text s) h
  value_encoded (bin s) h = canonical_encodes (bin s) h
  value_encoded (float32 n) h = (refl, refl)
  value_encoded (float64 n) h = (refl, refl)
  value_encoded (ext t s) h =
      encodes_by_header (written (ext t s)) form.Ext (length s) (ext_head (length s)) (cast_unsigned w8 t ∷ s) (ext_headed (length s) h) (λ k len c. (len, cast_unsigned w8 t, c, refl, refl))
  value_encoded (list vs) h =
      encodes_by_header (written (list vs)) form.Array (value_count vs) (list_head (value_count vs)) (canonical_all vs) (list_headed (value_count vs) h.0)
      (λ k len c. (len, canonical_all vs, counts_as k (value_count vs) (value_count (all_written vs)) len (as_many vs) c, refl, all_encoded vs h.1))
  value_encoded (mapping es) h =
      encodes_by_header (written (mapping es)) form.Map (entry_count es) (map_head (entry_count es)) (canonical_entries es) (map_headed (entry_count es) h.0)
      (λ k len c. (len, canonical_entries es, counts_as k (entry_count es) (entry_count (entries_written es)) len (as_many_entries es) c, refl, entries_encoded es h.1))

  all_encoded : (vs : Vals) → AllLengthsFit vs → EncodesAll (all_written vs) (canonical_all vs)
  all_encoded no_vals h = refl
  all_encoded (val v vs) h = (canonical v, canonical_all vs, refl, value_encoded v h.0, all_encoded vs h.1)

  entries_encoded : (es : Entries) → EntryLengthsFit es → EncodesEntries (entries_written es) (canonical_entries es)
  entries_encoded no_entries h = refl
  entries_encoded (entry k v es) h = (canonical k, canonical v, canonical_entries es, refl, value_encoded k h.0, value_encoded v h.1, entries_encoded es h.2)

-- ---- events

-- the written event
abbrev event_written : Event → Event
event_written e = record {
  sec = from_be_bytes w32 (to_be_bytes w32 e.sec);
  nsec = from_be_bytes w32 (to_be_bytes w32 e.nsec);
  meta = pairs_of (entries_written (entries_of e.meta));
  body = pairs_of (entries_written (entries_of e.body));
}

event_is : (e : Event) → event_of (written (event_val e)) ≡ Some (event_written e)
event_is e = refl

lengths_fit : (e : Event) → EventFits e → LengthsFit (event_val e)
lengths_fit e f = (omega arith, ((omega arith, (omega arith, (f.meta_lengths, tt))), (f.body_lengths, tt)))

not_deeper : (e : Event) → EventFits e → nesting (written (event_val e)) ≤ 64
not_deeper e f = omega (arith, as_deep (event_val e), f.meta_nested, f.body_nested)

-- equally many events
pub record AreWritten (events : List Event) (bytes : List ℕ) : Type 0 where
  pub written_as : List Event
  pub are : AreEvents written_as bytes
  pub count : length written_as ≡ length events

pub events_written : (events : List Event) → All EventFits events → AreWritten events (encodings events)
events_written [] fits = record { written_as = []; are = refl; count = refl }
events_written (e ∷ es) fits =
    let rest = events_written es (All-tail EventFits e es fits) in
    let fit = All-head EventFits e es fits in
    let v = event_val e in
    record {
      written_as = event_written e ∷ rest.written_as;
      are = (written v, canonical v, encodings es, refl, value_encoded v (lengths_fit e fit), not_deeper e fit, event_is e, rest.are);
      count = ap suc rest.count;
    }

-- if there are events, there are some
pub written_some : (events : List Event) (bytes : List ℕ) (written : AreWritten events bytes) → is_empty events ≡ false → is_empty written.written_as ≡ false
written_some events bytes written some = by events written.written_as written.count some
  where
    by : (xs ys : List Event) → length ys ≡ length xs → is_empty xs ≡ false → is_empty ys ≡ false
    by [] ys same none = absurd (cc none)
    by (x ∷ xs) [] same none = absurd (omega (arith, same))
    by (x ∷ xs) (y ∷ ys) same none = refl
