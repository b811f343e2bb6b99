-- The mask of standard outputs.
use Rattle.std.proofs.Common.{arith, ◌≡◌, ℕ, zero, suc, ◌+◌, ◌*◌, ◌^◌, ◌<◌, ◌≤◌, Bool, true, false, if◌then◌else◌, List, [], ◌∷◌, length}
use Rattle.fwd_base.specs.Limits.{most_outputs}
use Rattle.fwd_settings.specs.declared.settings_types.OutputSet.{OutputSet}
use Rattle.fwd_replay.specs.Text.{is_stdout, stdout_mask}

bit_small : (b : Bool) → (if b then 1 else 0) ≤ 1
bit_small true = grind arith
bit_small false = grind arith

some_power : (n : ℕ) → 1 ≤ 2 ^ n
some_power zero = grind arith
some_power (suc n) = let before = some_power n in grind arith

mask_within : (n : ℕ) (outputs : List OutputSet) → length outputs ≤ n → stdout_mask outputs + 1 ≤ 2 ^ n
mask_within n [] few = some_power n
mask_within zero (set ∷ more) few = absurd (grind arith)
mask_within (suc n) (set ∷ more) few =
    let small = mask_within n more (grind arith) in
    let bit = bit_small (is_stdout set.kind) in
    grind arith

-- twice the mask of outputs that leave room for one more, plus a bit, has 64 bits
pub doubled_fits : (more : List OutputSet) (all mask : ℕ) → length more + 1 ≡ all → all ≤ most_outputs → mask ≡ stdout_mask more → 2 * mask + 1 < 2 ^ 64
doubled_fits more all mask long few masked =
    let small = mask_within 63 more (omega (arith, long, few)) in
    rw masked (omega (arith, small))
