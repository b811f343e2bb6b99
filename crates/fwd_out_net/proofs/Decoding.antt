-- The judgement of the bytes of a reply is that of the value they decode to.
use Rattle.std.proofs.Common.{◌≡◌, ℕ, ◌≤◌, false, List, [], ◌∷◌, length, map, Result, Ok, Err, IfOk, refl, sym, ap, subst, arith}
use Rattle.std.specs.Prelude.{IsErr}
use Rattle.fwd_base.specs.declared.memory.Memory.{Memory}
use Rattle.fwd_value.specs.Val.{Val, mapping, entries_of}
use Rattle.fwd_value.specs.View.{pair_of}
use Rattle.fwd_value.specs.declared.value.Value.{Value}
use Rattle.fwd_msgpack.specs.declared.errors.DecodeErr.{DecodeErr}
use Rattle.fwd_msgpack.specs.declared.errors.DecodeErr.TheVariants as errors
use Rattle.fwd_msgpack.specs.DecodeAnswers.{EncodesPrefix}
use Rattle.fwd_event.proofs.DecodeAnswers.{short_found, unused_found, deep_found}
use Rattle.fwd_wire.proofs.ReadAnswer.{Refuses}
use Rattle.fwd_wire.proofs.Stops.{front_read, short_read, unused_read, deep_read}
use Rattle.fwd_flush.specs.declared.judgement.Judged.{Judged}
use Rattle.fwd_flush.specs.declared.judgement.Judged.TheVariants.{Wrong}
use Rattle.fwd_out_net.specs.Judgement.{is_ack, value_judgement, short_judgement, read_judgement, ack_judgement}
use Rattle.fwd_out_net.specs.Undecodable.{JudgedWithout}

pub many_pairs : (id : List ℕ) (ps : List (Value × Value)) → 2 ≤ length ps → is_ack id (mapping (entries_of (map pair_of ps))) ≡ false
many_pairs id [] le = absurd (omega arith)
many_pairs id (p ∷ []) le = absurd (omega arith)
many_pairs id (p ∷ (q ∷ ps)) le = refl

pub whole_judged : (id reply : List ℕ) (v : Val) (n : ℕ) → EncodesPrefix v n reply → ack_judgement id reply ≡ value_judgement id v
whole_judged id reply v n h = ap (read_judgement id (length reply)) (front_read reply v n h)

is_judged : (j k : Judged) (r : Result Judged Memory) → r ≡ Ok j → j ≡ k → IfOk r (λ x. x ≡ k)
is_judged j k r is e = subst (λ (x : Result Judged Memory). IfOk x (λ y. y ≡ k)) (sym is) e

none_judged : (k : Judged) (r : Result Judged Memory) → IsErr r → IfOk r (λ x. x ≡ k)
none_judged k (Ok j) h = absurd cc
none_judged k (Err e) h = tt

pub without_judged : (e : DecodeErr) (id reply : List ℕ) (r : Result Judged Memory) → Refuses e reply → JudgedWithout e (length reply) r → IfOk r (λ x. x ≡ ack_judgement id reply)
without_judged errors.Short id reply r h is =
    let read = short_read reply (short_found (Err errors.Short) reply refl h.short) in
    is_judged (short_judgement (length reply)) (ack_judgement id reply) r is (sym (ap (read_judgement id (length reply)) read))
without_judged (errors.Unused at) id reply r h is =
    let read = unused_read reply at (unused_found (Err (errors.Unused at)) at reply refl h.unused) in
    is_judged Wrong (ack_judgement id reply) r is (sym (ap (read_judgement id (length reply)) read.1))
without_judged (errors.TooDeep at) id reply r h is =
    let read = deep_read reply at (deep_found (Err (errors.TooDeep at)) at reply refl h.too_deep) in
    is_judged Wrong (ack_judgement id reply) r is (sym (ap (read_judgement id (length reply)) read.1))
without_judged errors.Memory id reply r h is = none_judged (ack_judgement id reply) r is
