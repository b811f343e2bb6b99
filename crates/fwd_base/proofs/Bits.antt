-- Bits of a mask.
use Rattle.std.proofs.Common.{◌≡◌, ℕ, ◌<◌, ◌≤◌, false, eqb, arith}
use Rattle.std.specs.Int.{bit_at}
use Prim.Native.Nat.{◌^◌}
use Rattle.std.proofs.lemmas.Nat.Bits.{bit_at_above}
use Rattle.std.proofs.lemmas.Bool.{ne_eqb}

-- no bit of a 64-bit word is set from 64 on
pub none_past : (mask bit : ℕ) → mask < 2 ^ 64 → 64 ≤ bit → eqb (bit_at mask bit) 1 ≡ false
none_past mask bit word past = let none = bit_at_above mask 64 bit word past in ne_eqb (bit_at mask bit) 1 (λ one. omega (arith, one, none))
