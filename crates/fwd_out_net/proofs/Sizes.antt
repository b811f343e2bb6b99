-- The size of the entries of a message.
use Rattle.std.proofs.Common.{◌≡◌, ℕ, ◌≤◌, Bool, true, false, nat_lt, if◌then◌else◌, List, [], ◌∷◌, ◌++◌, length, refl, ap, arith}
use Rattle.std.specs.List.{flat_map}
use Rattle.std.specs.Int.{w16, w32, w64, to_be_bytes}
use Rattle.std.proofs.lemmas.List.{length-append}
use Rattle.fwd_value.specs.Val.{mapping, entries_of}
use Rattle.fwd_msgpack.specs.Canonical.{canonical, number_bytes}
use Rattle.fwd_event.specs.declared.event.Event.{Event}
use Rattle.fwd_event.specs.Event.{event_val}
use Rattle.fwd_event.proofs.EventEncodings.{event_bytes}
use Rattle.fwd_wire.specs.Encode.{time_val, entry_val, entry_bytes}
use Rattle.fwd_wire.proofs.EncodedParts.{time_parts, entry_parts}

two : (n : ℕ) → length (to_be_bytes w16 n) ≡ 2
two n = refl

four : (n : ℕ) → length (to_be_bytes w32 n) ≡ 4
four n = refl

eight : (n : ℕ) → length (to_be_bytes w64 n) ≡ 8
eight n = refl

either : (t : Bool) (a b : List ℕ) (n : ℕ) → length a ≤ n → length b ≤ n → length (if t then a else b) ≤ n
either true a b n h k = h
either false a b n h k = k

number_short : (n : ℕ) → length (number_bytes n) ≤ 9
unfolding number_bytes
number_short n =
    either (nat_lt n 128) (n ∷ []) _ 9 (omega arith)
    (either (nat_lt n 256) (204 ∷ n ∷ []) _ 9 (omega arith)
    (either (nat_lt n 65536) (205 ∷ to_be_bytes w16 n) _ 9 (omega (arith, two n))
    (either (nat_lt n 4294967296) (206 ∷ to_be_bytes w32 n) (207 ∷ to_be_bytes w64 n) 9 (omega (arith, four n)) (omega (arith, eight n)))))

time_short : (whole_time : Bool) (e : Event) → length (canonical (time_val whole_time e)) ≤ 10
time_short true e = omega (arith, number_short e.sec)
time_short false e =
    omega (arith, ap length (time_parts e), length-append (to_be_bytes w32 e.sec) (to_be_bytes w32 e.nsec), four e.sec, four e.nsec)

entry_short : (whole_time : Bool) (e : Event) → length (canonical (entry_val whole_time e)) ≤ length (canonical (event_val e))
entry_short w e =
    let time = canonical (time_val w e) in
    let body = canonical (mapping (entries_of e.body)) in
    let meta = canonical (mapping (entries_of e.meta)) in
    let moment = to_be_bytes w32 e.sec ++ to_be_bytes w32 e.nsec in
    let size = ap length (entry_parts w e) in
    let stored = ap length (event_bytes e) in
    omega (
      arith,
      size,
      stored,
      time_short w e,
      length-append time body,
      length-append (146 ∷ 146 ∷ 215 ∷ 0 ∷ moment) (meta ++ body),
      length-append meta body,
      length-append (to_be_bytes w32 e.sec) (to_be_bytes w32 e.nsec),
      four e.sec,
      four e.nsec,
    )

pub entries_short : (whole_time : Bool) (es : List Event) → length (entry_bytes whole_time es) ≤ length (flat_map (λ e. canonical (event_val e)) es)
entries_short w [] = omega arith
entries_short w (e ∷ es) =
    omega (
      arith,
      entry_short w e,
      entries_short w es,
      length-append (canonical (entry_val w e)) (entry_bytes w es),
      length-append (canonical (event_val e)) (flat_map (λ x. canonical (event_val x)) es),
    )
