-- The bit of an input in the mask of the paused inputs.
use Rattle.std.proofs.Common.{◌≡◌, ℕ, ◌<◌, nat_eq, Bool, true, false, length, ◌∙◌, ap}
use Rattle.std.specs.Prelude.{if◌then◌else◌}
use Rattle.std.specs.Int.{bit_at}
use Rattle.fwd_settings.specs.declared.settings_types.AllSettings.{AllSettings}
use Rattle.fwd_model.specs.Fact.{History}
use Rattle.fwd_model.specs.Limits.{is_paused, paused}
use Rattle.fwd_model.proofs.Masks.{bit_in_mask}

pub paused_at : (s : AllSettings) (h : History) (i : ℕ) → i < length s.inputs → bit_at (paused s h) i ≡ (if is_paused s h i then 1 else 0)
unfolding paused
paused_at s h i below = bit_in_mask (is_paused s h) (length s.inputs) i below

bit_tells : (bit : ℕ) (p : Bool) → bit ≡ (if p then 1 else 0) → nat_eq bit 1 ≡ p
bit_tells bit true is = ap (λ (n : ℕ). nat_eq n 1) is
bit_tells bit false is = ap (λ (n : ℕ). nat_eq n 1) is

pub bit_paused : (s : AllSettings) (h : History) (i mask : ℕ) → mask ≡ paused s h → i < length s.inputs → nat_eq (bit_at mask i) 1 ≡ is_paused s h i
bit_paused s h i mask is below = bit_tells (bit_at mask i) (is_paused s h i) (ap (λ (m : ℕ). bit_at m i) is ∙ paused_at s h i below)
