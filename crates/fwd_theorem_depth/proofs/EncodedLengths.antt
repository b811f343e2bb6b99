-- An encoding is as long as each length in its value, so the lengths in a short one are small.
use Rattle.std.proofs.Common.{◌≡◌, ℕ, ◌+◌, ◌≤◌, ◌<◌, ◌^◌, Bool, true, false, ℤ, pos, negsuc, List, [], ◌∷◌, ◌++◌, length, nat_lt, All, arith}
use Rattle.std.proofs.lemmas.List.{length-append}
use Rattle.std.proofs.lemmas.List.Elements.{All-cons, All-nil}
use Rattle.std.specs.Prelude.{if◌then◌else◌}
use Rattle.std.specs.Int.{w8, cast_unsigned}
use Rattle.fwd_value.specs.Val.{Val, nil, truth, whole, text, bin, float32, float64, ext, list, mapping, Vals, no_vals, val, Entries, no_entries, entry}
use Rattle.fwd_value.specs.Limits.{LengthsFit, AllLengthsFit, EntryLengthsFit, value_count, entry_count}
use Rattle.fwd_msgpack.specs.Canonical.{number_bytes, minus_bytes, whole_bytes, text_head, bin_head, ext_head, list_head, map_head, canonical, canonical_all, canonical_entries}
use Rattle.fwd_event.specs.declared.event.Event.{Event}
use Rattle.fwd_event.specs.Event.{event_val, EventFits}
use Rattle.fwd_event.specs.EventPrefix.{encodings}
use Rattle.fwd_theorem_depth.proofs.Shallow.{Shallow, AllShallow}

-- An encoding has at least one byte

choice : (b : Bool) (xs ys : List ℕ) → 0 < length xs → 0 < length ys → 0 < length (if b then xs else ys)
choice true xs ys x y = x
choice false xs ys x y = y

some_number : (n : ℕ) → 0 < length (number_bytes n)
unfolding number_bytes
some_number n =
    choice (nat_lt n 128) _ _ (omega arith) (
    choice (nat_lt n 256) _ _ (omega arith) (
    choice (nat_lt n 65536) _ _ (omega arith) (
    choice (nat_lt n 4294967296) _ _ (omega arith) (omega arith))))

some_minus : (n : ℕ) → 0 < length (minus_bytes n)
unfolding minus_bytes
some_minus n =
    choice (nat_lt n 32) _ _ (omega arith) (
    choice (nat_lt n 128) _ _ (omega arith) (
    choice (nat_lt n 32768) _ _ (omega arith) (
    choice (nat_lt n 2147483648) _ _ (omega arith) (omega arith))))

some_whole : (n : ℤ) → 0 < length (whole_bytes n)
some_whole (pos n) = some_number n
some_whole (negsuc n) = some_minus n

some_text : (n : ℕ) → 0 < length (text_head n)
unfolding text_head
some_text n =
    choice (nat_lt n 32) _ _ (omega arith) (
    choice (nat_lt n 256) _ _ (omega arith) (
    choice (nat_lt n 65536) _ _ (omega arith) (omega arith)))

some_bin : (n : ℕ) → 0 < length (bin_head n)
unfolding bin_head
some_bin n = choice (nat_lt n 256) _ _ (omega arith) (choice (nat_lt n 65536) _ _ (omega arith) (omega arith))

some_list : (n : ℕ) → 0 < length (list_head n)
unfolding list_head
some_list n = choice (nat_lt n 16) _ _ (omega arith) (choice (nat_lt n 65536) _ _ (omega arith) (omega arith))

some_map : (n : ℕ) → 0 < length (map_head n)
unfolding map_head
some_map n = choice (nat_lt n 16) _ _ (omega arith) (choice (nat_lt n 65536) _ _ (omega arith) (omega arith))

some_byte : (v : Val) → 0 < length (canonical v)
some_byte nil = omega arith
some_byte (truth true) = omega arith
some_byte (truth false) = omega arith
some_byte (whole n) = some_whole n
some_byte (text s) = omega (arith, length-append (text_head (length s)) s, some_text (length s))
some_byte (bin s) = omega (arith, length-append (bin_head (length s)) s, some_bin (length s))
some_byte (float32 n) = omega arith
some_byte (float64 n) = omega arith
some_byte (ext t s) = omega (arith, length-append (ext_head (length s)) (cast_unsigned w8 t ∷ s))
some_byte (list vs) = omega (arith, length-append (list_head (value_count vs)) (canonical_all vs), some_list (value_count vs))
some_byte (mapping es) = omega (arith, length-append (map_head (entry_count es)) (canonical_entries es), some_map (entry_count es))

-- so a list has no more values than bytes, and a map no more pairs
values_counted : (vs : Vals) → value_count vs ≤ length (canonical_all vs)
values_counted no_vals = omega arith
values_counted (val v vs) = omega (arith, length-append (canonical v) (canonical_all vs), some_byte v, values_counted vs)

entry_length : (k v : Val) (es : Entries) → length (canonical_entries (entry k v es)) ≡ length (canonical k) + length (canonical v) + length (canonical_entries es)
entry_length k v es = omega (arith, length-append (canonical k) (canonical v ++ canonical_entries es), length-append (canonical v) (canonical_entries es))

entries_counted : (es : Entries) → entry_count es ≤ length (canonical_entries es)
entries_counted no_entries = omega arith
entries_counted (entry k v es) = omega (arith, entry_length k v es, some_byte k, entries_counted es)

-- Lengths in a short encoding

mutual
  lengths : (v : Val) → length (canonical v) < 2 ^ 32 → LengthsFit v
  lengths nil h = tt
  lengths (truth t) h = tt
  lengths (whole n) h = tt
  lengths (text s) h = omega (arith, h, length-append (text_head (length s)) s)
  lengths (bin s) h = omega (arith, h, length-append (bin_head (length s)) s)
  lengths (float32 n) h = tt
  lengths (float64 n) h = tt
  lengths (ext t s) h = omega (arith, h, length-append (ext_head (length s)) (cast_unsigned w8 t ∷ s))
  lengths (list vs) h =
      let within : length (canonical_all vs) < 2 ^ 32 = omega (arith, h, length-append (list_head (value_count vs)) (canonical_all vs)) in
      (omega (arith, within, values_counted vs), all_lengths vs within)
  lengths (mapping es) h =
      let within : length (canonical_entries es) < 2 ^ 32 = omega (arith, h, length-append (map_head (entry_count es)) (canonical_entries es)) in
      (omega (arith, within, entries_counted es), entry_lengths es within)

  all_lengths : (vs : Vals) → length (canonical_all vs) < 2 ^ 32 → AllLengthsFit vs
  all_lengths no_vals h = tt
  all_lengths (val v vs) h =
      let sum = length-append (canonical v) (canonical_all vs) in
      (lengths v (omega (arith, h, sum)), all_lengths vs (omega (arith, h, sum)))

  entry_lengths : (es : Entries) → length (canonical_entries es) < 2 ^ 32 → EntryLengthsFit es
  entry_lengths no_entries h = tt
  entry_lengths (entry k v es) h =
      let sum = entry_length k v es in
      (lengths k (omega (arith, h, sum)), lengths v (omega (arith, h, sum)), entry_lengths es (omega (arith, h, sum)))

-- Events

event_fits : (e : Event) → Shallow e → length (canonical (event_val e)) < 2 ^ 32 → EventFits e
event_fits e s h =
    let l = lengths (event_val e) h in
    record { meta_nested = s.meta; body_nested = s.body; meta_lengths = l.1.0.1.1.0; body_lengths = l.1.1.0 }

pub events_fit : (events : List Event) → AllShallow events → length (encodings events) ≤ 16777216 → All EventFits events
events_fit [] s h = All-nil EventFits
events_fit (e ∷ es) s h =
    let sum = length-append (canonical (event_val e)) (encodings es) in
    All-cons EventFits e es (event_fits e s.0 (omega (arith, h, sum))) (events_fit es s.1 (omega (arith, h, sum)))
