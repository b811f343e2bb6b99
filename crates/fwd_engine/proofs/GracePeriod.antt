-- The end of the grace period after a stop.
use Rattle.std.proofs.Common.{◌≡◌, ℕ, ◌+◌, ◌*◌, ◌^◌, ◌-◌, ◌≤◌, inl, inr, sym, ◌∙◌, ap, arith}
use Rattle.std.specs.Prelude.{nat_le, min}
use Rattle.std.proofs.lemmas.Bool.{cases_lt, lt-leb}
use Rattle.fwd_base.specs.Limits.{latest_time}

-- no tick passes a saturated sum
pub late_is : (at grace now : ℕ) → now ≤ latest_time → nat_le (min (min (grace * 1000) (2 ^ 64 - 1) + at) (2 ^ 64 - 1)) now ≡ nat_le (at + 1000 * grace) now
late_is at grace now within = elim (cases_lt (2 ^ 64 - 1) (at + 1000 * grace)) [
  | inl past ↦
      let stands : min (min (grace * 1000) (2 ^ 64 - 1) + at) (2 ^ 64 - 1) ≡ 2 ^ 64 - 1 = omega (arith, past) in
      ap (λ (n : ℕ). nat_le n now) stands ∙ lt-leb (2 ^ 64 - 1) now (omega (arith, within)) ∙ sym (lt-leb (at + 1000 * grace) now (omega (arith, within, past)))
  | inr fits ↦
      let same : min (min (grace * 1000) (2 ^ 64 - 1) + at) (2 ^ 64 - 1) ≡ at + 1000 * grace = omega (arith, fits) in
      ap (λ (n : ℕ). nat_le n now) same
]
