-- Bits of a mask.
use Rattle.std.proofs.Common.{◌≡◌, ℕ, Bool, true, false, not, eqb, refl, sym, ◌∙◌}
use Rattle.std.specs.Int.{IsBitSet, bit_at}
use Rattle.std.proofs.lemmas.Nat.{bit_set_by_shift}
use Rattle.std.proofs.lemmas.Nat.Bits.{shr_and_one}
use Rattle.std.proofs.lemmas.Bool.{eqb-false}
use Rattle.fwd_outside.specs.Loop.{MayOccur}
use Rattle.fwd_secure.specs.declared.handshakes.KeptBytes.{KeptBytes}
use Rattle.fwd_secure.specs.declared.handshakes.KeptBytes.TheVariants.{OfConn, OfLink}
use Rattle.fwd_secure.specs.Kept.{is_given, event_of, IsPiece}

-- a bit that isn't set
not_set : (mask bit : ℕ) → eqb (bit_at mask bit) 1 ≡ false → IsBitSet mask bit → ⊥
not_set mask bit is set = eqb-false (bit_at mask bit) 1 is (sym (shr_and_one mask bit) ∙ (bit_set_by_shift mask bit).1 set)

false_of : (b : Bool) → not b ≡ true → b ≡ false
false_of true is = absurd (cc is)
false_of false is = refl

-- kept bytes that may be given are an event that may occur
pub kept_allowed : (endless : Bool) (paused : ℕ) (bytes : KeptBytes) → is_given paused bytes ≡ true → IsPiece bytes → MayOccur endless paused (event_of bytes)
kept_allowed endless paused (OfConn input conn bytes) given piece = (not_set paused input.0 (false_of (eqb (bit_at paused input.0) 1) given), piece.0, piece.1)
kept_allowed endless paused (OfLink link bytes) given piece = tt
