-- What comes next, by what was read.
use Rattle.std.proofs.Common.{◌≡◌, ◌⊎◌, ◌↔◌, ℕ, List, Option, Some, None, Result, Ok, Err, refl, sym, subst, ◌∙◌, inl, inr}
use Rattle.std.specs.Prelude.{IfOk, IsErr}
use Rattle.fwd_base.specs.declared.memory.Memory.{Memory}
use Rattle.fwd_wire.specs.declared.errors.WireErr.{WireErr}
use Rattle.fwd_wire.specs.declared.errors.WireErr.TheVariants as errors
use Rattle.fwd_wire.specs.declared.message.Message.{Message}
use Rattle.fwd_wire.specs.Answer.{Answer, message, short, not_a_message, is_compressed, too_long, IsAnswer}
use Rattle.fwd_wire.specs.Representation.{content_of, answer_of}
use Rattle.fwd_in_forward.specs.declared.next_message.NextMessage.{NextMessage}
use Rattle.fwd_in_forward.specs.NextMessage.{NextIs, TakenAs}

-- what comes next in the bytes, as a tree of values
abbrev NextDecoded : List ℕ → NextMessage Message → Type 0
NextDecoded b n = NextIs content_of b n

abbrev IsRead : List ℕ → Result (Message × ℕ) WireErr → Type 0
IsRead b r = (a : Answer) → (answer_of r ≡ None) ⊎ ((answer_of r ≡ Some a) ↔ IsAnswer b a)

none_some : (a : Answer) → ◌≡◌ {A = Option Answer} None (Some a) → ⊥
none_some a e = cc

answered : (b : List ℕ) (r : Result (Message × ℕ) WireErr) (a : Answer) → answer_of r ≡ Some a → IsRead b r → IsAnswer b a
answered b r a e h = elim (h a) [ inl m ↦ absurd (none_some a (sym m ∙ e)) | inr k ↦ k.0 e ]

is_next : (b : List ℕ) (n : NextMessage Message) (r : Result (NextMessage Message) Memory) → r ≡ Ok n → NextDecoded b n → IfOk r (NextDecoded b)
is_next b n r e h = subst (λ (x : Result (NextMessage Message) Memory). IfOk x (NextDecoded b)) (sym e) h

no_next : (b : List ℕ) (r : Result (NextMessage Message) Memory) → IsErr r → IfOk r (NextDecoded b)
no_next b (Ok n) h = absurd cc
no_next b (Err e) h = tt

pub next_is : (b : List ℕ) (read : Result (Message × ℕ) WireErr) (r : Result (NextMessage Message) Memory) → IsRead b read → TakenAs read r → IfOk r (NextDecoded b)
next_is b (Ok x) r h t = is_next b _ r t (answered b (Ok x) (message (content_of x.0) x.1) refl h)
next_is b (Err errors.Short) r h t = is_next b _ r t (answered b (Err errors.Short) short refl h)
next_is b (Err (errors.NotAMessage at)) r h t = is_next b _ r t (at, answered b (Err (errors.NotAMessage at)) (not_a_message at) refl h)
next_is b (Err errors.Compressed) r h t = is_next b _ r t (answered b (Err errors.Compressed) is_compressed refl h)
next_is b (Err errors.TooLong) r h t = is_next b _ r t (answered b (Err errors.TooLong) too_long refl h)
next_is b (Err errors.Memory) r h t = no_next b r t
