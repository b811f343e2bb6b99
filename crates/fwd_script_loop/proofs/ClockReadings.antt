-- Clock readings that count as the greatest one.
use Rattle.std.proofs.Common.{◌≡◌, ℕ, zero, suc, ◌+◌, ◌-◌, ◌^◌, min, List, ◌∷◌, refl, sym, ap, ◌∙◌, arith}
use Rattle.fwd_outside.specs.declared.happening.Happening.TheVariants as happening
use Rattle.fwd_script_loop.specs.declared.queue.Coming.{Coming}
use Rattle.fwd_script_loop.specs.Lines.{ticks}

reading : ℕ → ℕ → ℕ → Coming
reading line count now = record { line = line; behind = count; happening = happening.Tick now }

-- a reading that counts as the greatest one goes on like it
pub ticks_saturated : (count line first step : ℕ) → ticks line (min first (2 ^ 64 - 1)) step count ≡ ticks line first step count
unfolding reading
ticks_saturated zero line first step = refl
ticks_saturated (suc count) line first step =
    let last = 2 ^ 64 - 1 in
    let twice : min (min first (2 ^ 64 - 1)) (2 ^ 64 - 1) ≡ min first (2 ^ 64 - 1) = omega arith in
    let next : min (min first (2 ^ 64 - 1) + step) (2 ^ 64 - 1) ≡ min (first + step) (2 ^ 64 - 1) = omega arith in
    let rest : ticks line (min first (2 ^ 64 - 1) + step) step count ≡ ticks line (first + step) step count =
    sym (ticks_saturated count line (min first (2 ^ 64 - 1) + step) step) ∙ ap (λ (n : ℕ). ticks line n step count) next ∙ ticks_saturated count line (first + step) step in
    ap (λ (n : ℕ). reading line count n ∷ ticks line (min first (2 ^ 64 - 1) + step) step count) twice
    ∙ ap (λ (l : List Coming). reading line count (min first (2 ^ 64 - 1)) ∷ l) rest
