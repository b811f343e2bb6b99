-- A fact on the value at the start of a stream, by another that it is equivalent to.
use Rattle.std.proofs.Common.{◌↔◌, ℕ, List}
use Rattle.fwd_value.specs.Val.{Val}
use Rattle.fwd_msgpack.specs.DecodeAnswers.{EncodesPrefix}

pub through : (A : Type 0) (P Q : Val → Type 0) (len : ℕ) (stream : List ℕ) → (A ↔ ((v : Val) × EncodesPrefix v len stream × P v)) → ((v : Val) → P v ↔ Q v) → A ↔ ((v : Val) × EncodesPrefix v len stream × Q v)
through A P Q len stream e same =
    (λ a. let h = e.0 a in (h.0, h.1, (same h.0).0 h.2), λ h. e.1 (h.0, h.1, (same h.0).1 h.2))
