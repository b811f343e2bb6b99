-- Bounds on the length of encodings.
use Rattle.std.proofs.Common.{◌≡◌, ℕ, zero, suc, ◌+◌, ◌-◌, ◌≤◌, ◌<◌, ℤ, pos, negsuc, Bool, true, false, cond, List, [], ◌∷◌, ◌++◌, length, take, map, get_or, ◌∙◌, ap, subst, arith}
use Rattle.std.specs.Int.{w8, w16, w32, w64, to_be_bytes, cast_unsigned}
use Rattle.std.specs.Prelude.{◌==◌, nat_lt, All}
use Rattle.std.proofs.lemmas.List.Elements.{All-cons, All-nil, All-head, All-tail}
use Rattle.std.proofs.lemmas.List.{length-append}
use Rattle.fwd_value.specs.Val.{whole, text, bin, ext, list, mapping, Vals, Entries, vals_of, entries_of}
use Rattle.fwd_value.specs.View.{val_of, pair_of}
use Rattle.fwd_value.specs.Limits.{value_count, entry_count}
use Rattle.fwd_value.specs.declared.value.Value.{Value}
use Rattle.fwd_msgpack.specs.Canonical.{number_bytes, minus_bytes, text_head, bin_head, ext_head, list_head, map_head, canonical, canonical_all, canonical_entries}
use Rattle.fwd_msgpack.proofs.EncodeLoops.{values_more, pairs_more}
use Rattle.fwd_event.specs.declared.event.Event.{Event}
use Rattle.fwd_event.specs.Event.{event_val, EventFits}
use Rattle.fwd_event.specs.EventPrefix.{encodings}

-- by a test, one or the other
by_test : (t : Bool) (a b : List ℕ) (m : ℕ) → length a ≤ m → length b ≤ m → length (cond t a b) ≤ m
by_test true a b m one two = one
by_test false a b m one two = two

-- a number
number_size : (n : ℕ) → length (number_bytes n) ≤ 9
unfolding number_bytes
number_size n =
    let wide = by_test (nat_lt n 4294967296) (206 ∷ to_be_bytes w32 n) (207 ∷ to_be_bytes w64 n) 9 (omega arith) (omega arith) in
    let more = by_test (nat_lt n 65536) (205 ∷ to_be_bytes w16 n) _ 9 (omega arith) wide in
    by_test (nat_lt n 128) (n ∷ []) _ 9 (omega arith) (by_test (nat_lt n 256) (204 ∷ n ∷ []) _ 9 (omega arith) more)

minus_size : (n : ℕ) → length (minus_bytes n) ≤ 9
unfolding minus_bytes
minus_size n =
    let wide = by_test (nat_lt n 2147483648) (210 ∷ to_be_bytes w32 (4294967295 - n)) (211 ∷ to_be_bytes w64 (18446744073709551615 - n)) 9 (omega arith) (omega arith) in
    let more = by_test (nat_lt n 32768) (209 ∷ to_be_bytes w16 (65535 - n)) _ 9 (omega arith) wide in
    by_test (nat_lt n 32) ((255 - n) ∷ []) _ 9 (omega arith) (by_test (nat_lt n 128) (208 ∷ (255 - n) ∷ []) _ 9 (omega arith) more)

pub whole_size : (n : ℤ) → length (canonical (whole n)) ≤ 9
whole_size (pos n) = number_size n
whole_size (negsuc n) = minus_size n

-- a header before so many bytes or values
text_head_size : (n : ℕ) → length (text_head n) ≤ 5
unfolding text_head
text_head_size n =
    let more = by_test (nat_lt n 65536) (218 ∷ to_be_bytes w16 n) (219 ∷ to_be_bytes w32 n) 5 (omega arith) (omega arith) in
    by_test (nat_lt n 32) ((160 + n) ∷ []) _ 5 (omega arith) (by_test (nat_lt n 256) (217 ∷ n ∷ []) _ 5 (omega arith) more)

bin_head_size : (n : ℕ) → length (bin_head n) ≤ 5
unfolding bin_head
bin_head_size n =
    let more = by_test (nat_lt n 65536) (197 ∷ to_be_bytes w16 n) (198 ∷ to_be_bytes w32 n) 5 (omega arith) (omega arith) in
    by_test (nat_lt n 256) (196 ∷ n ∷ []) _ 5 (omega arith) more

ext_head_size : (n : ℕ) → length (ext_head n) ≤ 5
unfolding ext_head
ext_head_size n =
    let wide = by_test (nat_lt n 65536) (200 ∷ to_be_bytes w16 n) (201 ∷ to_be_bytes w32 n) 5 (omega arith) (omega arith) in
    let one : 1 ≤ 5 = omega arith in
    let more = by_test (nat_lt n 256) (199 ∷ n ∷ []) _ 5 (omega arith) wide in
    let known = by_test (n == 8) (215 ∷ []) _ 5 one (by_test (n == 16) (216 ∷ []) _ 5 one more) in
    by_test (n == 1) (212 ∷ []) _ 5 one (by_test (n == 2) (213 ∷ []) _ 5 one (by_test (n == 4) (214 ∷ []) _ 5 one known))

list_head_size : (n : ℕ) → length (list_head n) ≤ 5
unfolding list_head
list_head_size n =
    let more = by_test (nat_lt n 65536) (220 ∷ to_be_bytes w16 n) (221 ∷ to_be_bytes w32 n) 5 (omega arith) (omega arith) in
    by_test (nat_lt n 16) ((144 + n) ∷ []) _ 5 (omega arith) more

map_head_size : (n : ℕ) → length (map_head n) ≤ 5
unfolding map_head
map_head_size n =
    let more = by_test (nat_lt n 65536) (222 ∷ to_be_bytes w16 n) (223 ∷ to_be_bytes w32 n) 5 (omega arith) (omega arith) in
    by_test (nat_lt n 16) ((128 + n) ∷ []) _ 5 (omega arith) more

-- values
pub text_size : (s : List ℕ) → length (canonical (text s)) ≤ 6 + length s
text_size s = omega (arith, length-append (text_head (length s)) s, text_head_size (length s))

pub bin_size : (s : List ℕ) → length (canonical (bin s)) ≤ 6 + length s
bin_size s = omega (arith, length-append (bin_head (length s)) s, bin_head_size (length s))

pub ext_size : (t : ℤ) (s : List ℕ) → length (canonical (ext t s)) ≤ 6 + length s
ext_size t s = omega (arith, length-append (ext_head (length s)) (cast_unsigned w8 t ∷ s), ext_head_size (length s))

pub list_size : (vs : Vals) → length (canonical (list vs)) ≤ 6 + length (canonical_all vs)
list_size vs = omega (arith, length-append (list_head (value_count vs)) (canonical_all vs), list_head_size (value_count vs))

pub map_size : (es : Entries) → length (canonical (mapping es)) ≤ 6 + length (canonical_entries es)
map_size es = omega (arith, length-append (map_head (entry_count es)) (canonical_entries es), map_head_size (entry_count es))

-- one more value, or one more pair
pub values_size : (vs : List Value) (i : ℕ) (v : Value) → i < length vs → v ≡ get_or vs i v
    → length (canonical_all (vals_of (map val_of (take (suc i) vs)))) ≡ length (canonical_all (vals_of (map val_of (take i vs)))) + length (canonical (val_of v))
values_size vs i v lt e = ap length (values_more vs i v lt e) ∙ length-append (canonical_all (vals_of (map val_of (take i vs)))) (canonical (val_of v))

pub pairs_size : (ps : List (Value × Value)) (i : ℕ) (p : Value × Value) → i < length ps → p ≡ get_or ps i p
    → length (canonical_entries (entries_of (map pair_of (take (suc i) ps)))) ≡ length (canonical_entries (entries_of (map pair_of (take i ps)))) + (length (canonical (val_of p.0)) + length (canonical (val_of p.1)))
pairs_size ps i p lt e =
    let one = ap length (pairs_more ps i p lt e) in
    let two = length-append (canonical_entries (entries_of (map pair_of (take i ps)))) (canonical (val_of p.0) ++ canonical (val_of p.1)) in
    let three = length-append (canonical (val_of p.0)) (canonical (val_of p.1)) in
    omega (arith, one, two, three)

-- an event
pub event_size : (e : Event) → length (canonical (event_val e)) ≡ 12 + length (canonical (mapping (entries_of e.meta))) + length (canonical (mapping (entries_of e.body)))
unfolding list_head ext_head
event_size e =
    let meta = canonical (mapping (entries_of e.meta)) in
    let body = canonical (mapping (entries_of e.body)) in
    let time = canonical (ext (pos 0) (to_be_bytes w32 e.sec ++ to_be_bytes w32 e.nsec)) in
    omega (arith, length-append (146 ∷ (time ++ (meta ++ []))) (body ++ []), length-append time (meta ++ []), length-append meta [], length-append body [])

-- one more event
pub events_size : (es : List Event) (i : ℕ) (e : Event) → i < length es → e ≡ get_or es i e → length (encodings (take (suc i) es)) ≡ length (encodings (take i es)) + length (canonical (event_val e))
events_size [] i e lt is = absurd (omega arith)
events_size (x ∷ xs) zero e lt is = rw is (omega (arith, length-append (canonical (event_val x)) []))
events_size (x ∷ xs) (suc i) e lt is =
    let one = length-append (canonical (event_val x)) (encodings (take (suc i) xs)) in
    let two = length-append (canonical (event_val x)) (encodings (take i xs)) in
    omega (arith, one, two, events_size xs i e (omega arith) is)

pub events_fit : (es : List Event) (i : ℕ) (e : Event) → i < length es → e ≡ get_or es i e → All EventFits (take i es) → EventFits e → All EventFits (take (suc i) es)
events_fit [] i e lt is so_far here = absurd (omega arith)
events_fit (x ∷ xs) zero e lt is so_far here = All-cons EventFits x [] (subst EventFits is here) (All-nil EventFits)
events_fit (x ∷ xs) (suc i) e lt is so_far here =
    All-cons EventFits x (take (suc i) xs) (All-head EventFits x (take i xs) so_far) (events_fit xs i e (omega arith) is (All-tail EventFits x (take i xs) so_far) here)
