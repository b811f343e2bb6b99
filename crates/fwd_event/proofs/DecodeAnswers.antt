-- The answer of `decode` at an offset.
use Rattle.std.proofs.Common.{◌≡◌, ◌⊎◌, ◌↔◌, inl, inr, ℕ, List, Ok, Err, refl, subst}
use Rattle.fwd_value.specs.Val.{Val}
use Rattle.fwd_value.specs.View.{val_of}
use Rattle.fwd_value.specs.declared.value.Value.{Value}
use Rattle.fwd_msgpack.specs.declared.errors.DecodeErr.TheVariants.{Short, Unused, TooDeep}
use Rattle.fwd_msgpack.specs.DecodeAnswers.{Decoded, EncodesPrefix, IsProperPrefix, FailsAtForm, IsUnused, IsListOrMap, ReturnsValue, IsMemory, IsShort, IsUnusedAt, IsTooDeepAt}

pub value_found : (x : Value × ℕ) (b : List ℕ) → ((v : Val) (n : ℕ) → IsMemory (Ok x) ⊎ (ReturnsValue (Ok x) v n ↔ EncodesPrefix v n b)) → EncodesPrefix (val_of x.0) x.1 b
value_found x b h = elim (h (val_of x.0) x.1) [ inl m ↦ absurd m | inr k ↦ k.0 (refl, refl) ]

pub short_found : (r : Decoded) (b : List ℕ) → r ≡ Err Short → IsMemory r ⊎ (IsShort r ↔ IsProperPrefix b) → IsProperPrefix b
short_found r b e h = elim (subst (λ (s : Decoded). IsMemory s ⊎ (IsShort s ↔ IsProperPrefix b)) e h) [ inl m ↦ absurd m | inr k ↦ k.0 tt ]

pub unused_found : (r : Decoded) (at : ℕ) (b : List ℕ) → r ≡ Err (Unused at) → ((n : ℕ) → IsMemory r ⊎ (IsUnusedAt r n ↔ FailsAtForm IsUnused n b)) → FailsAtForm IsUnused at b
unused_found r at b e h = elim (subst (λ (s : Decoded). IsMemory s ⊎ (IsUnusedAt s at ↔ FailsAtForm IsUnused at b)) e (h at)) [ inl m ↦ absurd m | inr k ↦ k.0 refl ]

pub deep_found : (r : Decoded) (at : ℕ) (b : List ℕ) → r ≡ Err (TooDeep at) → ((n : ℕ) → IsMemory r ⊎ (IsTooDeepAt r n ↔ FailsAtForm IsListOrMap n b)) → FailsAtForm IsListOrMap at b
deep_found r at b e h = elim (subst (λ (s : Decoded). IsMemory s ⊎ (IsTooDeepAt s at ↔ FailsAtForm IsListOrMap at b)) e (h at)) [ inl m ↦ absurd m | inr k ↦ k.0 refl ]
