-- The meaning of each judgement for the bytes of a reply.
use Rattle.std.proofs.Common.{◌≡◌, ◌↔◌, ℕ, ◌≤◌, Bool, true, false, cond, ◌&&◌, List, length, Ok, Err, refl, ap, subst, ◌∙◌}
use Rattle.std.specs.Prelude.{nat_le}
use Rattle.std.specs.Str.{bytes_eq}
use Rattle.std.proofs.lemmas.Slice.Eq.{bytes_eq-Decides}
use Rattle.std.proofs.lemmas.Bool.{leb-true, le-leb}
use Rattle.fwd_base.specs.Limits.{longest_reply}
use Rattle.fwd_value.specs.Val.{Val, nil, truth, whole, text, bin, float32, float64, ext, list, mapping, no_entries, entry}
use Rattle.fwd_msgpack.specs.declared.fault.FormatErr.TheVariants as fault
use Rattle.fwd_msgpack.specs.Decoder.{Read, value_at}
use Rattle.fwd_msgpack.specs.DecodeAnswers.{EncodesPrefix, IsProperPrefix}
use Rattle.fwd_value.specs.Keys.{is_text}
use Rattle.fwd_wire.specs.Encode.{ack_key, ack_val}
use Rattle.fwd_wire.proofs.Stops.{front_read, read_front, read_short, short_read}
use Rattle.fwd_flush.specs.declared.judgement.Judged.TheVariants.{More, Right, Wrong, Fatal}
use Rattle.fwd_out_net.specs.Judgement.{is_ack, read_judgement}

wrong_right : Wrong ≡ Right → ⊥
wrong_right e = cc

more_right : More ≡ Right → ⊥
more_right e = cc

wrong_more : Wrong ≡ More → ⊥
wrong_more e = cc

right_more : Right ≡ More → ⊥
right_more e = cc

-- a test between two judgements
right_by : (t : Bool) → cond t Right Wrong ≡ Right → t ≡ true
right_by true e = refl
right_by false e = absurd (wrong_right e)

short_not_right : (t : Bool) → cond t More Wrong ≡ Right → ⊥
short_not_right true e = more_right e
short_not_right false e = wrong_right e

more_by : (t : Bool) → cond t More Wrong ≡ More → t ≡ true
more_by true e = refl
more_by false e = absurd (wrong_more e)

value_not_more : (t : Bool) → cond t Right Wrong ≡ More → ⊥
value_not_more true e = right_more e
value_not_more false e = wrong_more e

right_fatal : Right ≡ Fatal → ⊥
right_fatal e = cc

wrong_fatal : Wrong ≡ Fatal → ⊥
wrong_fatal e = cc

more_fatal : More ≡ Fatal → ⊥
more_fatal e = cc

value_fatal : (t : Bool) → cond t Right Wrong ≡ Fatal → ⊥
value_fatal true e = right_fatal e
value_fatal false e = wrong_fatal e

short_fatal : (t : Bool) → cond t More Wrong ≡ Fatal → ⊥
short_fatal true e = more_fatal e
short_fatal false e = wrong_fatal e

text_is : (k : List ℕ) (v : Val) → is_text k v ≡ true → v ≡ text k
text_is k (text s) e = ap text ((bytes_eq-Decides s k).0 e)
text_is k nil e = absurd cc
text_is k (truth t) e = absurd cc
text_is k (whole n) e = absurd cc
text_is k (bin s) e = absurd cc
text_is k (float32 n) e = absurd cc
text_is k (float64 n) e = absurd cc
text_is k (ext t s) e = absurd cc
text_is k (list vs) e = absurd cc
text_is k (mapping es) e = absurd cc

both_true : (s t : Bool) → (s && t) ≡ true → (s ≡ true) × (t ≡ true)
both_true true true e = (refl, refl)
both_true true false e = absurd cc
both_true false t e = absurd cc

ack_is : (id : List ℕ) (v : Val) → is_ack id v ≡ true → v ≡ ack_val (text id)
ack_is id (mapping (entry k v no_entries)) e =
    let b = both_true (is_text ack_key k) (is_text id v) e in
    let key = text_is ack_key k b.0 in
    let value = text_is id v b.1 in
    rw (key, value) refl
ack_is id (mapping (entry k v (entry l w es))) e = absurd cc
ack_is id (mapping no_entries) e = absurd cc
ack_is id nil e = absurd cc
ack_is id (truth t) e = absurd cc
ack_is id (whole n) e = absurd cc
ack_is id (text s) e = absurd cc
ack_is id (bin s) e = absurd cc
ack_is id (float32 n) e = absurd cc
ack_is id (float64 n) e = absurd cc
ack_is id (ext t s) e = absurd cc
ack_is id (list vs) e = absurd cc

is_right : (id : List ℕ) → is_ack id (ack_val (text id)) ≡ true
is_right id =
    let same : bytes_eq id id ≡ true = (bytes_eq-Decides id id).1 refl in
    rw same refl

right_from : (id reply : List ℕ) (r : Read Val) → value_at 64 reply ≡ r → read_judgement id (length reply) r ≡ Right → (n : ℕ) × EncodesPrefix (ack_val (text id)) n reply
right_from id reply (Ok x) e j =
    let h = read_front reply x.0 x.1 e in
    (h.0, subst (λ (v : Val). EncodesPrefix v h.0 reply) (ack_is id x.0 (right_by (is_ack id x.0) j)) h.1)
right_from id reply (Err fault.Short) e j = absurd (short_not_right (nat_le (length reply) longest_reply) j)
right_from id reply (Err (fault.Unused left)) e j = absurd (wrong_right j)
right_from id reply (Err (fault.TooDeep left)) e j = absurd (wrong_right j)

pub right_exactly : (id reply : List ℕ) → (read_judgement id (length reply) (value_at 64 reply) ≡ Right) ↔ ((n : ℕ) × EncodesPrefix (ack_val (text id)) n reply)
right_exactly id reply = (
  right_from id reply (value_at 64 reply) refl,
  λ s.
      ap (read_judgement id (length reply)) (front_read reply (ack_val (text id)) s.0 s.1) ∙ ap (λ (t : Bool). cond t Right Wrong) (is_right id),
)

more_from : (id reply : List ℕ) (r : Read Val) → value_at 64 reply ≡ r → read_judgement id (length reply) r ≡ More → IsProperPrefix reply × (length reply ≤ longest_reply)
more_from id reply (Ok x) e j = absurd (value_not_more (is_ack id x.0) j)
more_from id reply (Err fault.Short) e j = (read_short reply e, leb-true (length reply) longest_reply (more_by (nat_le (length reply) longest_reply) j))
more_from id reply (Err (fault.Unused left)) e j = absurd (wrong_more j)
more_from id reply (Err (fault.TooDeep left)) e j = absurd (wrong_more j)

pub more_exactly : (id reply : List ℕ) → (read_judgement id (length reply) (value_at 64 reply) ≡ More) ↔ (IsProperPrefix reply × (length reply ≤ longest_reply))
more_exactly id reply = (
  more_from id reply (value_at 64 reply) refl,
  λ s.
      ap (read_judgement id (length reply)) (short_read reply s.0) ∙ ap (λ (t : Bool). cond t More Wrong) (le-leb (length reply) longest_reply s.1),
)

not_fatal : (id : List ℕ) (n : ℕ) (r : Read Val) → read_judgement id n r ≡ Fatal → ⊥
not_fatal id n (Ok x) e = value_fatal (is_ack id x.0) e
not_fatal id n (Err fault.Short) e = short_fatal (nat_le n longest_reply) e
not_fatal id n (Err (fault.Unused left)) e = wrong_fatal e
not_fatal id n (Err (fault.TooDeep left)) e = wrong_fatal e

pub never_fatal : (id reply : List ℕ) → read_judgement id (length reply) (value_at 64 reply) ≡ Fatal → ⊥
never_fatal id reply e = not_fatal id (length reply) (value_at 64 reply) e
