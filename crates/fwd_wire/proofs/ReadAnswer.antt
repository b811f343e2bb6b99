-- What `read_message` returns, by what it found.
use Rattle.std.proofs.Common.{◌≡◌, ◌⊎◌, ◌↔◌, ℕ, Bool, true, false, nat_lt, if◌then◌else◌, List, length, Err, refl, inl, inr}
use Rattle.std.proofs.lemmas.Bool.{ltb-true, ltb-false}
use Rattle.fwd_base.specs.Limits.{longest_message}
use Rattle.fwd_value.specs.Val.{Val}
use Rattle.fwd_msgpack.specs.declared.errors.DecodeErr.{DecodeErr}
use Rattle.fwd_msgpack.specs.declared.errors.DecodeErr.TheVariants as decoding
use Rattle.fwd_msgpack.specs.DecodeAnswers.{EncodesPrefix, IsProperPrefix, FailsAtForm, IsUnused, IsListOrMap, IsMemory, IsShort, IsUnusedAt, IsTooDeepAt}
use Rattle.fwd_event.proofs.DecodeAnswers.{short_found, unused_found, deep_found}
use Rattle.fwd_wire.specs.declared.errors.WireErr.{WireErr}
use Rattle.fwd_wire.specs.declared.errors.WireErr.TheVariants as errors
use Rattle.fwd_wire.specs.Message.{MessageSays}
use Rattle.fwd_wire.specs.Answer.{front}
use Rattle.fwd_wire.specs.Representation.{GivesVerdict, HasAnswer, answer_of, refused_as}
use Rattle.fwd_wire.proofs.OneAnswer.{cut_short}

pub err_answers : (e : WireErr) (b : List ℕ) (x : Val) (n : ℕ) → EncodesPrefix x n (front b) → GivesVerdict (MessageSays x) (Err e) → HasAnswer b (answer_of (Err e))
err_answers errors.Short b x n s m = absurd m
err_answers (errors.NotAMessage at) b x n s m = inl (n, (x, s, m.0), m.1)
err_answers errors.Compressed b x n s m = (n, (x, s, m))
err_answers errors.TooLong b x n s m = absurd m
err_answers errors.Memory b x n s m = tt

cut_answers : (b : List ℕ) (t : Bool) → nat_lt (length b) longest_message ≡ t → IsProperPrefix (front b) → HasAnswer b (answer_of (Err (if t then errors.Short else errors.TooLong)))
cut_answers b true e p = cut_short b (ltb-true (length b) longest_message e) p
cut_answers b false e p = (ltb-false (length b) longest_message e, p)

-- what the decoder says of the front of the bytes, if it finds no value
pub record Refuses (e : DecodeErr) (f : List ℕ) : Type 0 where
  pub short : IsMemory (Err e) ⊎ (IsShort (Err e) ↔ IsProperPrefix f)
  pub unused : (n : ℕ) → IsMemory (Err e) ⊎ (IsUnusedAt (Err e) n ↔ FailsAtForm IsUnused n f)
  pub too_deep : (n : ℕ) → IsMemory (Err e) ⊎ (IsTooDeepAt (Err e) n ↔ FailsAtForm IsListOrMap n f)

pub refused_answers : (e : DecodeErr) (b : List ℕ) → Refuses e (front b) → HasAnswer b (answer_of (Err (refused_as (length b) e)))
refused_answers decoding.Short b h = cut_answers b (nat_lt (length b) longest_message) refl (short_found (Err decoding.Short) (front b) refl h.short)
refused_answers (decoding.Unused at) b h = inr (inl (unused_found (Err (decoding.Unused at)) at (front b) refl h.unused))
refused_answers (decoding.TooDeep at) b h = inr (inr (deep_found (Err (decoding.TooDeep at)) at (front b) refl h.too_deep))
refused_answers decoding.Memory b h = tt
