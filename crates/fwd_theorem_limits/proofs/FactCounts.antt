-- Each counter of the report is the number of its facts.
use Rattle.std.proofs.Common.{◌≡◌, ℕ, zero, suc, ◌+◌, ◌-◌, ◌^◌, ◌&&◌, ◌||◌, not, min, Bool, true, false, cond, List, [], ◌∷◌, length, filter, Option, Some, None, refl, sym, ◌∙◌, ap, subst, arith}
use Rattle.std.specs.Prelude.{◌==◌, sum_by, slice_get}
use Rattle.std.specs.List.{list_any, list_all}
use Rattle.std.proofs.lemmas.List.Sums.{sum_by-cons}
use Rattle.fwd_chunk.specs.declared.chunk.Chunk.{Chunk}
use Rattle.fwd_settings.specs.declared.settings_types.AllSettings.{AllSettings}
use Rattle.fwd_model.specs.Fact.{Fact, History, Malformed, Found, Accepted, Refused, Sent, OnRoute, Retries, Delivered, Failed, Exhausted, Evicted, IoFailed}
use Rattle.fwd_model.specs.Settings.{saturating_plus, outputs_for, output_name}
use Rattle.fwd_model.specs.RecoveredFile.{recovered_chunk, is_marked_done}
use Rattle.fwd_model.specs.Notes.{is_empty}
use Rattle.fwd_model.specs.Counters.{batches, events, refused, outcome_count, taken, Loaded, LeftAsIs, file_fate_by, file_fate, as_loaded, as_unrouted, as_left, files_counted, faults, input_tally, output_tally, each_from, tally_of}
use Rattle.fwd_theorem_limits.specs.FactCounts.{capped, number_of, is_accepted, accepted_events, is_refused, CountsInput, is_delivered, is_retried, is_failed, is_exhausted, is_evicted, sent_bytes, CountsOutput, is_pending_chunk, is_unrouted_chunk, is_loaded, is_unrouted, is_left, is_io_failure, CountsFacts}

-- ---- counts that saturate

min_suc : (a m : ℕ) → min (min a m + 1) m ≡ min (suc a) m
min_suc a m = omega arith

min_none : (a m : ℕ) → min (min a m + 0) m ≡ min a m
min_none a m = omega arith

min_add : (a b m : ℕ) → min (min a m + b) m ≡ min (b + a) m
min_add a b m = omega arith

-- a fact that may count
one_more : (b : Bool) (n : ℕ) (fact : Fact) (kept : List Fact) → n ≡ capped (length kept) → cond b (saturating_plus n 1) n ≡ capped (length (cond b (fact ∷ kept) kept))
one_more true n fact kept is = ap (λ (k : ℕ). saturating_plus k 1) is ∙ min_suc (length kept) (2 ^ 64 - 1)
one_more false n fact kept is = is

-- a fact that adds nothing
none_more : (b : Bool) (n total : ℕ) → n ≡ capped total → cond b (saturating_plus n 0) n ≡ capped total
none_more true n total is = ap (λ (k : ℕ). saturating_plus k 0) is ∙ min_none total (2 ^ 64 - 1)
none_more false n total is = is

-- a fact that may add so many
some_more : (b : Bool) (n more total : ℕ) → n ≡ capped total → cond b (saturating_plus n more) n ≡ capped (cond b more 0 + total)
some_more true n more total is = ap (λ (k : ℕ). saturating_plus k more) is ∙ min_add total more (2 ^ 64 - 1)
some_more false n more total is = let same : total ≡ 0 + total = omega arith in is ∙ ap capped same

-- a fact that adds one or nothing
bit_more : (b : Bool) (n : ℕ) (fact : Fact) (kept : List Fact) → n ≡ capped (length kept) → saturating_plus n (cond b 1 0) ≡ capped (length (cond b (fact ∷ kept) kept))
bit_more true n fact kept is = one_more true n fact kept is
bit_more false n fact kept is = none_more true n (length kept) is

-- ---- inputs

batches_counted : (h : History) (input : ℕ) → batches h input ≡ number_of (is_accepted input) h
batches_counted [] input = refl
batches_counted (Accepted b place ∷ h) input = one_more (b.input == input) (batches h input) (Accepted b place) (filter (is_accepted input) h) (batches_counted h input)
batches_counted (fact ∷ h) input = batches_counted h input

events_counted : (h : History) (input : ℕ) → events h input ≡ capped (sum_by (accepted_events input) h)
events_counted [] input = refl
events_counted (Accepted b place ∷ h) input =
    some_more (b.input == input) (events h input) (length b.events) (sum_by (accepted_events input) h) (events_counted h input)
    ∙ ap capped (sym (sum_by-cons (accepted_events input) (Accepted b place) h))
events_counted (fact ∷ h) input = events_counted h input

refused_counted : (h : History) (input : ℕ) → refused h input ≡ number_of (is_refused input) h
refused_counted [] input = refl
refused_counted (Refused b why ∷ h) input = one_more (b.input == input) (refused h input) (Refused b why) (filter (is_refused input) h) (refused_counted h input)
refused_counted (Malformed other ∷ h) input = one_more (other == input) (refused h input) (Malformed other) (filter (is_refused input) h) (refused_counted h input)
refused_counted (fact ∷ h) input = refused_counted h input

counts_input : (h : History) (input : ℕ) → CountsInput h input (input_tally h input)
counts_input h input = record { batches = batches_counted h input; events = events_counted h input; refused = refused_counted h input }

-- ---- outputs

good_counted : (h : History) (output : ℕ) → outcome_count (λ c. c.good) h output ≡ number_of (is_delivered output) h
good_counted [] output = refl
good_counted (OnRoute r Delivered ∷ h) output = one_more (r.output == output) (outcome_count (λ c. c.good) h output) (OnRoute r Delivered) (filter (is_delivered output) h) (good_counted h output)
good_counted (OnRoute r outcome ∷ h) output = none_more (r.output == output) (outcome_count (λ c. c.good) h output) (length (filter (is_delivered output) h)) (good_counted h output)
good_counted (fact ∷ h) output = good_counted h output

retry_counted : (h : History) (output : ℕ) → outcome_count (λ c. c.retry) h output ≡ number_of (is_retried output) h
retry_counted [] output = refl
retry_counted (OnRoute r (Retries word) ∷ h) output = one_more (r.output == output) (outcome_count (λ c. c.retry) h output) (OnRoute r (Retries word)) (filter (is_retried output) h) (retry_counted h output)
retry_counted (OnRoute r Exhausted ∷ h) output = one_more (r.output == output) (outcome_count (λ c. c.retry) h output) (OnRoute r Exhausted) (filter (is_retried output) h) (retry_counted h output)
retry_counted (OnRoute r outcome ∷ h) output = none_more (r.output == output) (outcome_count (λ c. c.retry) h output) (length (filter (is_retried output) h)) (retry_counted h output)
retry_counted (fact ∷ h) output = retry_counted h output

bad_counted : (h : History) (output : ℕ) → outcome_count (λ c. c.bad) h output ≡ number_of (is_failed output) h
bad_counted [] output = refl
bad_counted (OnRoute r Failed ∷ h) output = one_more (r.output == output) (outcome_count (λ c. c.bad) h output) (OnRoute r Failed) (filter (is_failed output) h) (bad_counted h output)
bad_counted (OnRoute r outcome ∷ h) output = none_more (r.output == output) (outcome_count (λ c. c.bad) h output) (length (filter (is_failed output) h)) (bad_counted h output)
bad_counted (fact ∷ h) output = bad_counted h output

spent_counted : (h : History) (output : ℕ) → outcome_count (λ c. c.spent) h output ≡ number_of (is_exhausted output) h
spent_counted [] output = refl
spent_counted (OnRoute r Exhausted ∷ h) output = one_more (r.output == output) (outcome_count (λ c. c.spent) h output) (OnRoute r Exhausted) (filter (is_exhausted output) h) (spent_counted h output)
spent_counted (OnRoute r outcome ∷ h) output = none_more (r.output == output) (outcome_count (λ c. c.spent) h output) (length (filter (is_exhausted output) h)) (spent_counted h output)
spent_counted (fact ∷ h) output = spent_counted h output

lost_counted : (h : History) (output : ℕ) → outcome_count (λ c. c.lost) h output ≡ number_of (is_evicted output) h
lost_counted [] output = refl
lost_counted (OnRoute r Evicted ∷ h) output = one_more (r.output == output) (outcome_count (λ c. c.lost) h output) (OnRoute r Evicted) (filter (is_evicted output) h) (lost_counted h output)
lost_counted (OnRoute r outcome ∷ h) output = none_more (r.output == output) (outcome_count (λ c. c.lost) h output) (length (filter (is_evicted output) h)) (lost_counted h output)
lost_counted (fact ∷ h) output = lost_counted h output

taken_counted : (h : History) (output : ℕ) → taken h output ≡ capped (sum_by (sent_bytes output) h)
taken_counted [] output = refl
taken_counted (Sent other bytes ∷ h) output =
    some_more (other == output) (taken h output) bytes (sum_by (sent_bytes output) h) (taken_counted h output)
    ∙ ap capped (sym (sum_by-cons (sent_bytes output) (Sent other bytes) h))
taken_counted (fact ∷ h) output = taken_counted h output

counts_output : (h : History) (output : ℕ) → CountsOutput h output (output_tally h output)
counts_output h output = record {
  good = good_counted h output;
  retry = retry_counted h output;
  bad = bad_counted h output;
  spent = spent_counted h output;
  lost = lost_counted h output;
  taken = taken_counted h output;
}

-- ---- files

any_not_all : {X : Type 0} (f : X → Bool) (xs : List X) → list_any (λ x. not (f x)) xs ≡ not (list_all f xs)
any_not_all f [] = refl
any_not_all {X = X} f (x ∷ xs) = by (f x) (any_not_all f xs)
  where
    by : (b : Bool) → list_any (λ y. not (f y)) xs ≡ not (list_all f xs) → not b || list_any (λ y. not (f y)) xs ≡ not (b && list_all f xs)
    by true more = more
    by false more = refl

module _ (s : AllSettings) where
  abbrev not_done : Chunk → ℕ → Bool
  not_done chunk output = not (is_marked_done (output_name s output) (Some chunk))

  fate_loaded : (found : Option Chunk) → as_loaded (file_fate s found) ≡ cond (is_pending_chunk s found) 1 0
  fate_loaded None = refl
  fate_loaded (Some chunk) = by (outputs_for s chunk.tag)
    where
      by : (outputs : List ℕ) → as_loaded (file_fate_by s chunk outputs) ≡ cond (list_any (not_done chunk) outputs) 1 0
      by [] = refl
      by (o ∷ os) = all (list_all (λ one. is_marked_done (output_name s one) (Some chunk)) (o ∷ os)) ∙ ap (λ (b : Bool). cond b 1 0) (sym (any_not_all (λ one. is_marked_done (output_name s one) (Some chunk)) (o ∷ os)))
        where
          all : (b : Bool) → as_loaded (cond b LeftAsIs Loaded) ≡ cond (not b) 1 0
          all true = refl
          all false = refl

  fate_unrouted : (found : Option Chunk) → as_unrouted (file_fate s found) ≡ cond (is_unrouted_chunk s found) 1 0
  fate_unrouted None = refl
  fate_unrouted (Some chunk) = by (outputs_for s chunk.tag)
    where
      by : (outputs : List ℕ) → as_unrouted (file_fate_by s chunk outputs) ≡ cond (is_empty outputs) 1 0
      by [] = refl
      by (o ∷ os) = all (list_all (λ one. is_marked_done (output_name s one) (Some chunk)) (o ∷ os))
        where
          all : (b : Bool) → as_unrouted (cond b LeftAsIs Loaded) ≡ 0
          all true = refl
          all false = refl

  abbrev is_neither : Option Chunk → Bool
  is_neither found = not (is_pending_chunk s found) && not (is_unrouted_chunk s found)

  fate_left : (found : Option Chunk) → as_left (file_fate s found) ≡ cond (is_neither found) 1 0
  fate_left None = refl
  fate_left (Some chunk) = by (outputs_for s chunk.tag)
    where
      by : (outputs : List ℕ) → as_left (file_fate_by s chunk outputs) ≡ cond (not (list_any (not_done chunk) outputs) && not (is_empty outputs)) 1 0
      by [] = refl
      by (o ∷ os) = all (list_all (λ one. is_marked_done (output_name s one) (Some chunk)) (o ∷ os)) ∙ ap (λ (b : Bool). cond (not b && true) 1 0) (sym (any_not_all (λ one. is_marked_done (output_name s one) (Some chunk)) (o ∷ os)))
        where
          all : (b : Bool) → as_left (cond b LeftAsIs Loaded) ≡ cond (not (not b) && true) 1 0
          all true = refl
          all false = refl

  loaded_counted : (h : History) → files_counted s as_loaded h ≡ number_of (is_loaded s) h
  loaded_counted [] = refl
  loaded_counted (Found number stream name bytes ∷ h) =
      ap (saturating_plus (files_counted s as_loaded h)) (fate_loaded (recovered_chunk bytes))
      ∙ bit_more (is_pending_chunk s (recovered_chunk bytes)) (files_counted s as_loaded h) (Found number stream name bytes) (filter (is_loaded s) h) (loaded_counted h)
  loaded_counted (fact ∷ h) = loaded_counted h

  unrouted_counted : (h : History) → files_counted s as_unrouted h ≡ number_of (is_unrouted s) h
  unrouted_counted [] = refl
  unrouted_counted (Found number stream name bytes ∷ h) =
      ap (saturating_plus (files_counted s as_unrouted h)) (fate_unrouted (recovered_chunk bytes))
      ∙ bit_more (is_unrouted_chunk s (recovered_chunk bytes)) (files_counted s as_unrouted h) (Found number stream name bytes) (filter (is_unrouted s) h) (unrouted_counted h)
  unrouted_counted (fact ∷ h) = unrouted_counted h

  left_counted : (h : History) → files_counted s as_left h ≡ number_of (is_left s) h
  left_counted [] = refl
  left_counted (Found number stream name bytes ∷ h) =
      ap (saturating_plus (files_counted s as_left h)) (fate_left (recovered_chunk bytes))
      ∙ bit_more (is_neither (recovered_chunk bytes)) (files_counted s as_left h) (Found number stream name bytes) (filter (is_left s) h) (left_counted h)
  left_counted (fact ∷ h) = left_counted h

faults_counted : (h : History) → faults h ≡ number_of is_io_failure h
faults_counted [] = refl
faults_counted (IoFailed ∷ h) = one_more true (faults h) IoFailed (filter is_io_failure h) (faults_counted h)
faults_counted (fact ∷ h) = faults_counted h

-- ---- the report

length_each : {T : Type 0} (tally : ℕ → T) (n more : ℕ) → length (each_from tally n more) ≡ more
length_each tally n zero = refl
length_each tally n (suc more) = ap suc (length_each tally (n + 1) more)

at_each : {T : Type 0} (tally : ℕ → T) (n more i : ℕ) (x : T) → slice_get (each_from tally n more) i ≡ Some x → tally (n + i) ≡ x
at_each tally n zero i x is = absurd (cc is)
at_each {T = T} tally n (suc more) zero x is = let same : tally n ≡ x = cc is in subst (λ (k : ℕ). tally k ≡ x) (omega arith) same
at_each {T = T} tally n (suc more) (suc i) x is = subst (λ (k : ℕ). tally k ≡ x) (omega arith) (at_each tally (n + 1) more i x is)

at_first : {T : Type 0} (tally : ℕ → T) (more i : ℕ) (x : T) → slice_get (each_from tally 0 more) i ≡ Some x → tally i ≡ x
at_first tally more i x is = let same : 0 + i ≡ i = omega arith in subst (λ (k : ℕ). tally k ≡ x) same (at_each tally 0 more i x is)

pub counts_facts : (s : AllSettings) (h : History) → CountsFacts s h (tally_of s h)
counts_facts s h = record {
  all_inputs = length_each (input_tally h) 0 (length s.inputs);
  inputs = λ input counted is. subst (CountsInput h input) (at_first (input_tally h) (length s.inputs) input counted is) (counts_input h input);
  all_outputs = length_each (output_tally h) 0 (length s.outputs);
  outputs = λ output counted is. subst (CountsOutput h output) (at_first (output_tally h) (length s.outputs) output counted is) (counts_output h output);
  loaded = loaded_counted s h;
  unrouted = unrouted_counted s h;
  left = left_counted s h;
  faults = faults_counted h;
}
