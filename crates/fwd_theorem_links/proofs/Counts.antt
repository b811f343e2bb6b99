-- The counts of the report are the same on renamed links.
use Rattle.std.proofs.Common.{◌≡◌, ℕ, List, [], ◌∷◌, length, refl, ap, ◌∙◌}
use mathlib.Core.Path.{fun_ext}
use Rattle.fwd_table.specs.declared.tally.InputTally.{InputTally}
use Rattle.fwd_table.specs.declared.tally.OutputTally.{OutputTally}
use Rattle.fwd_table.specs.declared.tally.Tally.{Tally}
use Rattle.fwd_settings.specs.declared.settings_types.AllSettings.{AllSettings}
use Rattle.fwd_model.specs.Fact.{History, Malformed, Found, Accepted, Refused, Sent, OnRoute, Outcome, InFlight, IoFailed}
use Rattle.fwd_model.specs.Counters.{batches, events, refused, Counts, counts_of, outcome_count, taken, FileFate, as_loaded, as_unrouted, as_left, files_counted, faults, input_tally, output_tally, each_from, tally_of}
use Rattle.fwd_theorem_links.specs.RenamedLinks.{renamed_outcome}
use Rattle.fwd_theorem_links.proofs.Histories.{renamed}

module _ (rename : ℕ → ℕ) where
  batches_same : (h : History) (input : ℕ) → batches (renamed rename h) input ≡ batches h input
  batches_same [] input = refl
  batches_same (Accepted b place ∷ h) input = rw (batches_same h input) refl
  batches_same (_ ∷ h) input = batches_same h input

  events_same : (h : History) (input : ℕ) → events (renamed rename h) input ≡ events h input
  events_same [] input = refl
  events_same (Accepted b place ∷ h) input = rw (events_same h input) refl
  events_same (_ ∷ h) input = events_same h input

  refused_same : (h : History) (input : ℕ) → refused (renamed rename h) input ≡ refused h input
  refused_same [] input = refl
  refused_same (Refused b why ∷ h) input = rw (refused_same h input) refl
  refused_same (Malformed other ∷ h) input = rw (refused_same h input) refl
  refused_same (_ ∷ h) input = refused_same h input

  counts_same : (outcome : Outcome) → counts_of (renamed_outcome rename outcome) ≡ counts_of outcome
  counts_same (InFlight progress) = refl
  counts_same outcome = refl

  outcome_count_same : (which : Counts → ℕ) (h : History) (output : ℕ) → outcome_count which (renamed rename h) output ≡ outcome_count which h output
  outcome_count_same which [] output = refl
  outcome_count_same which (OnRoute route outcome ∷ h) output = rw (counts_same outcome) (rw (outcome_count_same which h output) refl)
  outcome_count_same which (_ ∷ h) output = outcome_count_same which h output

  taken_same : (h : History) (output : ℕ) → taken (renamed rename h) output ≡ taken h output
  taken_same [] output = refl
  taken_same (Sent other bytes ∷ h) output = rw (taken_same h output) refl
  taken_same (_ ∷ h) output = taken_same h output

  faults_same : (h : History) → faults (renamed rename h) ≡ faults h
  faults_same [] = refl
  faults_same (IoFailed ∷ h) = rw (faults_same h) refl
  faults_same (_ ∷ h) = faults_same h

  module _ (s : AllSettings) where
    files_counted_same : (count : FileFate → ℕ) (h : History) → files_counted s count (renamed rename h) ≡ files_counted s count h
    files_counted_same count [] = refl
    files_counted_same count (Found number stream name bytes ∷ h) = rw (files_counted_same count h) refl
    files_counted_same count (_ ∷ h) = files_counted_same count h

    input_with : ℕ → ℕ → ℕ → InputTally
    input_with a b c = record { batches = a; events = b; refused = c }

    input_tally_same : (h : History) (input : ℕ) → input_tally (renamed rename h) input ≡ input_tally h input
    unfolding input_with
    input_tally_same h input =
        ap (λ (n : ℕ). input_with n (events (renamed rename h) input) (refused (renamed rename h) input)) (batches_same h input)
        ∙ ap (λ (n : ℕ). input_with (batches h input) n (refused (renamed rename h) input)) (events_same h input)
        ∙ ap (λ (n : ℕ). input_with (batches h input) (events h input) n) (refused_same h input)

    output_with : ((Counts → ℕ) → ℕ) → ℕ → OutputTally
    output_with count n = record {
      good = count (λ c. c.good);
      retry = count (λ c. c.retry);
      bad = count (λ c. c.bad);
      spent = count (λ c. c.spent);
      lost = count (λ c. c.lost);
      taken = n;
    }

    output_tally_same : (h : History) (output : ℕ) → output_tally (renamed rename h) output ≡ output_tally h output
    unfolding output_with
    output_tally_same h output =
        ap (λ (count : (Counts → ℕ) → ℕ). output_with count (taken (renamed rename h) output)) (fun_ext (λ (which : Counts → ℕ). outcome_count_same which h output))
        ∙ ap (λ (n : ℕ). output_with (λ which. outcome_count which h output) n) (taken_same h output)

    tally_with : List InputTally → List OutputTally → ((FileFate → ℕ) → ℕ) → ℕ → Tally
    tally_with inputs outputs found n = record { inputs = inputs; outputs = outputs; loaded = found as_loaded; unrouted = found as_unrouted; left = found as_left; faults = n }

    pub tally_same : (h : History) → tally_of s (renamed rename h) ≡ tally_of s h
    unfolding tally_with
    tally_same h =
        let ins = length s.inputs in
        let outs = length s.outputs in
        ap (λ (f : ℕ → InputTally). tally_with (each_from f 0 ins) (each_from (output_tally (renamed rename h)) 0 outs) (λ count. files_counted s count (renamed rename h)) (faults (renamed rename h))) (fun_ext (λ (input : ℕ). input_tally_same h input))
        ∙ ap (λ (f : ℕ → OutputTally). tally_with (each_from (input_tally h) 0 ins) (each_from f 0 outs) (λ count. files_counted s count (renamed rename h)) (faults (renamed rename h))) (fun_ext (λ (output : ℕ). output_tally_same h output))
        ∙ ap (λ (found : (FileFate → ℕ) → ℕ). tally_with (each_from (input_tally h) 0 ins) (each_from (output_tally h) 0 outs) found (faults (renamed rename h))) (fun_ext (λ (count : FileFate → ℕ). files_counted_same count h))
        ∙ ap (λ (n : ℕ). tally_with (each_from (input_tally h) 0 ins) (each_from (output_tally h) 0 outs) (λ count. files_counted s count h) n) (faults_same h)
