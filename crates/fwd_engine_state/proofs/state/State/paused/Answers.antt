use Rattle.std.proofs.Common.{◌≡◌, ◌↔◌, ℕ, ◌<◌, List, length, sym, ◌∙◌, ap, subst}
use Rattle.std.specs.Prelude.{IsBitSet}
use Rattle.std.proofs.lemmas.List.{length-map}
use Rattle.fwd_settings.specs.declared.settings_types.InputSet.{InputSet}
use Rattle.fwd_table.specs.Row.{Row}
use Rattle.fwd_limits.specs.Backpressure.{IsPaused}
use Rattle.fwd_engine_state.proofs.PauseMask.{some_at, none_at, all_paused, some_paused}
use Rattle.fwd_engine_state.proofs.state.State.paused.Goals as goal

pub returns-then-is_some : goal.returns-then-is_some
returns-then-is_some c s h out before are =
    let long : length c.as_slice.result.now ≡ length s.inputs = ap length (c.as_slice.ensures ∙ are) ∙ length-map s.inputs (λ (set : InputSet). set.mem_limit) in
    let at = some_at c.args.self.now.stopped (sym c.is_some.ensures ∙ c.if-is_some.true) in
    all_paused s h at.0 (sym before.stopped ∙ at.1) c.first_inputs.result (subst (λ (n : ℕ). (i : ℕ) → IsBitSet c.first_inputs.result i ↔ ((i < n) × Unit {0})) long c.first_inputs.ensures)

pub returns : goal.returns
returns c s h out before are =
    let none = none_at c.args.self.now.stopped (sym c.is_some.ensures ∙ c.if-is_some.false) in
    some_paused s h c.args.limits.now (sym before.stopped ∙ none) are c.paused.result (subst (λ (rows : List Row). (i : ℕ) → IsBitSet c.paused.result i ↔ IsPaused c.args.limits.now rows i) (c.table.ensures ∙ before.rows) c.paused.ensures)
