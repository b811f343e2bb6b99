use Rattle.std.proofs.Common.{◌≡◌, ℕ, refl, subst, ◌∷◌}
use Rattle.fwd_model.specs.Fact.{Accepted}
use Rattle.fwd_model.specs.Counters.{input_tally}
use Rattle.fwd_engine_state.specs.CountChanges.{changed_at, input_changed}
use Rattle.fwd_engine_state.specs.declared.count_changes.InputChange.TheVariants as change
use Rattle.fwd_engine_state.proofs.CountLemmas.{accepted_each, batch_counted}
use Rattle.fwd_engine_state.proofs.counts.Counts.add_accepted.Goals as goal

pub returns : goal.returns
returns c s h b place to many is =
    let P : ℕ → Type 0 = λ n. ((j : ℕ) → changed_at b.input (input_changed (change.Accepted n)) (input_tally h) j ≡ input_tally (Accepted b place ∷ h) j) in
    batch_counted (change.Accepted c.args.events) (Accepted b place) s h b.input c.args.input.0 _ _ to (subst P many (accepted_each b place h)) (λ j. refl) refl is c.change_input.ensures
