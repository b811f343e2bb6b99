-- There are as many counts as names.
use Rattle.std.proofs.Common.{◌≡◌, ℕ, zero, suc, ◌+◌, List, length, refl, sym, ◌∙◌, ap}
use Rattle.std.proofs.lemmas.List.{length-map}
use Rattle.fwd_table.specs.declared.tally.Tally.{Tally}
use Rattle.fwd_settings.specs.declared.settings_types.AllSettings.{AllSettings}
use Rattle.fwd_settings.specs.declared.settings_types.InputSet.{InputSet}
use Rattle.fwd_settings.specs.declared.settings_types.OutputSet.{OutputSet}
use Rattle.fwd_model.specs.Fact.{History}
use Rattle.fwd_model.specs.Counters.{each_from, input_tally, output_tally, tally_of}
use Rattle.fwd_replay.specs.Text.{input_names, output_names}

each_length : {T : Type 0} (f : ℕ → T) (n k : ℕ) → length (each_from f n k) ≡ k
each_length f n zero = refl
each_length f n (suc k) = ap (λ (m : ℕ). suc m) (each_length f (n + 1) k)

pub inputs_told : (s : AllSettings) (h : History) (tally : Tally) (names : List (List ℕ)) → tally ≡ tally_of s h → names ≡ input_names s.inputs → length tally.inputs ≡ length names
inputs_told s h tally names is named =
    ap (λ (t : Tally). length t.inputs) is ∙ each_length (input_tally h) 0 (length s.inputs) ∙ sym (ap (λ (l : List (List ℕ)). length l) named ∙ length-map s.inputs (λ (set : InputSet). set.name))

pub outputs_told : (s : AllSettings) (h : History) (tally : Tally) (names : List (List ℕ)) → tally ≡ tally_of s h → names ≡ output_names s.outputs → length tally.outputs ≡ length names
outputs_told s h tally names is named =
    ap (λ (t : Tally). length t.outputs) is ∙ each_length (output_tally h) 0 (length s.outputs) ∙ sym (ap (λ (l : List (List ℕ)). length l) named ∙ length-map s.outputs (λ (set : OutputSet). set.name))
