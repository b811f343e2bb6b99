use Rattle.std.proofs.Common.{◌≡◌, ℕ, ◌<◌, List, Option, Some, None, length, get_or, sym, subst, ap, ◌∙◌, true, false, arith}
use Rattle.std.specs.Prelude.{IsSomeAnd}
use Rattle.std.specs.List.{slice_get}
use Rattle.std.proofs.lemmas.Option.{slice_get-get_or, slice_get_within}
use Rattle.fwd_table.specs.Row.{Row}
use Rattle.fwd_table.specs.Usage.{memory_of}
use Rattle.fwd_limits.specs.Backpressure.{IsPaused, reaches}
use Rattle.fwd_limits.proofs.Masks.{MaskBelow, mask_whole, mask_skip, mask_more}
use Rattle.fwd_limits.proofs.backpressure.paused.Goals as goal
use Rattle.fwd_limits.proofs.backpressure.paused.Goals.{then-is_reached, else-is_reached}

-- at the input's own limit
is_paused : (limits : List (Option ℕ)) (rows : List Row) (i : ℕ) → i < length limits → reaches (get_or limits i None) (memory_of i rows) ≡ true → IsPaused limits rows i
is_paused limits rows i less reached =
    subst (λ (limit : Option (Option ℕ)). IsSomeAnd limit (λ limit. reaches limit (memory_of i rows) ≡ true)) (sym (slice_get-get_or limits i None less)) reached

not_paused : (limits : List (Option ℕ)) (rows : List Row) (i : ℕ) → i < length limits → reaches (get_or limits i None) (memory_of i rows) ≡ false → IsPaused limits rows i → ⊥
not_paused limits rows i less below is =
    let reached = subst (λ (limit : Option (Option ℕ)). IsSomeAnd limit (λ limit. reaches limit (memory_of i rows) ≡ true)) (slice_get-get_or limits i None less) is in
    cc

paused_within : (limits : List (Option ℕ)) (rows : List Row) (i : ℕ) → IsPaused limits rows i → i < length limits
paused_within limits rows i is = by (slice_get limits i) (λ limit at. slice_get_within limits i limit at) is
  where
    by : (at : Option (Option ℕ)) → ((limit : Option ℕ) → at ≡ Some limit → i < length limits) → IsSomeAnd at (λ limit. reaches limit (memory_of i rows) ≡ true) → i < length limits
    by (Some limit) within is = within limit (λ _. Some limit)
    by None within is = absurd is

pub loop-i-preserved : goal.loop-i-preserved
loop-i-preserved c =
    let limits = c.as_slice-limit-items.result.now in
    let within : c.loop-i.i < 64 = omega (arith, c.requires, ap length c.as_slice-limit-items.ensures, c.loop-i-test.true) in
    elim c.if-is_reached.branch [
      | then-is_reached w ↦
          rw w.mask-is
          (mask_more c.loop-i.i (IsPaused c.as_slice-limit-items.result.now c.args.table.now.rows) c.loop-i.mask within
          (is_paused c.as_slice-limit-items.result.now c.args.table.now.rows c.loop-i.i c.loop-i-test.true (sym c.is_reached.ensures ∙ w.if-is_reached.true)) c.loop-i.invariant)
      | else-is_reached w ↦
          rw w.mask-is
          (mask_skip c.loop-i.i (IsPaused c.as_slice-limit-items.result.now c.args.table.now.rows) c.loop-i.mask
          (not_paused c.as_slice-limit-items.result.now c.args.table.now.rows c.loop-i.i c.loop-i-test.true (sym c.is_reached.ensures ∙ w.if-is_reached.false)) c.loop-i.invariant)
    ]

pub returns : goal.returns
returns c =
    let all : c.loop-i.i ≡ length c.as_slice-limit-items.result.now = omega (arith, c.loop-i-test.false, c.loop-i.auto.i-end) in
    let whole =
    mask_whole (length c.as_slice-limit-items.result.now) (IsPaused c.as_slice-limit-items.result.now c.args.table.now.rows) c.loop-i.mask (paused_within c.as_slice-limit-items.result.now c.args.table.now.rows)
    (subst (λ (n : ℕ). MaskBelow n (IsPaused c.as_slice-limit-items.result.now c.args.table.now.rows) c.loop-i.mask) all c.loop-i.invariant) in
    rw (← c.as_slice-limit-items.ensures) whole
