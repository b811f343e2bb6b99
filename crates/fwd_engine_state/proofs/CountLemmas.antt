-- How one more fact changes the counters.
use Rattle.std.proofs.Common.{◌≡◌, ℕ, ◌-◌, ◌^◌, ◌≤◌, Bool, true, false, List, [], ◌∷◌, refl, sym, ◌∙◌, ap, subst, arith}
use Rattle.std.specs.Prelude.{if◌then◌else◌, ◌==◌, length}
use Rattle.fwd_table.specs.declared.tally.InputTally.{InputTally}
use Rattle.fwd_table.specs.declared.tally.OutputTally.{OutputTally}
use Rattle.fwd_table.specs.declared.tally.Tally.{Tally}
use Rattle.fwd_settings.specs.declared.settings_types.AllSettings.{AllSettings}
use Rattle.fwd_event.specs.declared.event.Event.{Event}
use Rattle.fwd_flush.specs.FlushProgram.{Progress}
use Rattle.fwd_model.specs.Fact.{Fact, History, Route, Outcome, Batch, Placement, Reason, Found, Accepted, Refused, Malformed, Sent, OnRoute, FlushStarted, InFlight, Retries, Delivered, Failed, Exhausted, Evicted}
use Rattle.fwd_model.specs.Settings.{saturating_plus}
use Rattle.fwd_model.specs.RecoveredFile.{recovered_chunk}
use Rattle.fwd_model.specs.Counters.{Counts, counts_of, batches, events, refused, outcome_count, taken, FileFate, Loaded, Unrouted, LeftAsIs, file_fate, as_loaded, as_unrouted, as_left, files_counted, input_tally, output_tally, each_from, tally_of}
use Rattle.fwd_engine_state.specs.declared.count_changes.InputChange.{InputChange}
use Rattle.fwd_engine_state.specs.declared.count_changes.InputChange.TheVariants as input_change
use Rattle.fwd_engine_state.specs.declared.count_changes.OutputChange.{OutputChange}
use Rattle.fwd_engine_state.specs.declared.count_changes.OutputChange.TheVariants as output_change
use Rattle.fwd_engine_state.specs.CountChanges.{changed_at, input_changed, output_changed}
use Rattle.fwd_engine_state.proofs.CountLists.{each-same}

-- ---- a counter has 64 bits

if-within : (b : Bool) (x y most : ℕ) → x ≤ most → y ≤ most → (if b then x else y) ≤ most
if-within true x y most p q = p
if-within false x y most p q = q

outcome_count-within : (which : Counts → ℕ) (h : History) (output : ℕ) → outcome_count which h output ≤ 2 ^ 64 - 1
outcome_count-within which [] output = omega arith
outcome_count-within which (OnRoute route outcome ∷ h) output = if-within (route.output == output) _ _ _ (omega arith) (outcome_count-within which h output)
outcome_count-within which (_ ∷ h) output = outcome_count-within which h output

found-within : (s : AllSettings) (count : FileFate → ℕ) (h : History) → files_counted s count h ≤ 2 ^ 64 - 1
found-within s count [] = omega arith
found-within s count (Found number stream name bytes ∷ h) = omega arith
found-within s count (_ ∷ h) = found-within s count h

saturating_plus-none : (x : ℕ) → x ≤ 2 ^ 64 - 1 → saturating_plus x 0 ≡ x
saturating_plus-none x h = omega arith

if-same : {T : Type 0} (b : Bool) (x y : T) → x ≡ y → (if b then x else y) ≡ y
if-same true x y e = e
if-same false x y e = refl

-- an outcome that adds 0 changes nothing
outcome_count-none : (which : Counts → ℕ) (route : Route) (outcome : Outcome) (h : History) (output : ℕ) → which (counts_of outcome) ≡ 0
    → outcome_count which (OnRoute route outcome ∷ h) output ≡ outcome_count which h output
outcome_count-none which route outcome h output none =
    if-same (route.output == output) _ _ (ap (λ n. saturating_plus (outcome_count which h output) n) none ∙ saturating_plus-none (outcome_count which h output) (outcome_count-within which h output))

-- a file that adds 0 changes nothing
found-none : (s : AllSettings) (count : FileFate → ℕ) (h : History) (number : ℕ) (stream name bytes : List ℕ) → count (file_fate s (recovered_chunk bytes)) ≡ 0
    → files_counted s count (Found number stream name bytes ∷ h) ≡ files_counted s count h
found-none s count h number stream name bytes none = ap (saturating_plus (files_counted s count h)) none ∙ saturating_plus-none (files_counted s count h) (found-within s count h)

-- a file that adds 1
found-one : (s : AllSettings) (count : FileFate → ℕ) (h : History) (number : ℕ) (stream name bytes : List ℕ) → count (file_fate s (recovered_chunk bytes)) ≡ 1
    → saturating_plus (files_counted s count h) 1 ≡ files_counted s count (Found number stream name bytes ∷ h)
found-one s count h number stream name bytes one = ap (saturating_plus (files_counted s count h)) (sym one)

-- ---- files

module _ (s : AllSettings) (h : History) (number : ℕ) (stream name bytes : List ℕ) where
  pub loaded_tally : (old new : Tally) → file_fate s (recovered_chunk bytes) ≡ Loaded → old ≡ tally_of s h → new ≡ record old { loaded = saturating_plus old.loaded 1 } → new ≡ tally_of s (Found number stream name bytes ∷ h)
  loaded_tally old new is was now =
      now ∙ ap (λ (t : Tally). record t { loaded = saturating_plus t.loaded 1 }) was ∙ (λ i. record (tally_of s h) {
        loaded = found-one s as_loaded h number stream name bytes (ap as_loaded is) i;
        unrouted = sym (found-none s as_unrouted h number stream name bytes (ap as_unrouted is)) i;
        left = sym (found-none s as_left h number stream name bytes (ap as_left is)) i;
      })

  pub unrouted_tally : (old new : Tally) → file_fate s (recovered_chunk bytes) ≡ Unrouted → old ≡ tally_of s h → new ≡ record old { unrouted = saturating_plus old.unrouted 1 } → new ≡ tally_of s (Found number stream name bytes ∷ h)
  unrouted_tally old new is was now =
      now ∙ ap (λ (t : Tally). record t { unrouted = saturating_plus t.unrouted 1 }) was ∙ (λ i. record (tally_of s h) {
        loaded = sym (found-none s as_loaded h number stream name bytes (ap as_loaded is)) i;
        unrouted = found-one s as_unrouted h number stream name bytes (ap as_unrouted is) i;
        left = sym (found-none s as_left h number stream name bytes (ap as_left is)) i;
      })

  pub left_tally : (old new : Tally) → file_fate s (recovered_chunk bytes) ≡ LeftAsIs → old ≡ tally_of s h → new ≡ record old { left = saturating_plus old.left 1 } → new ≡ tally_of s (Found number stream name bytes ∷ h)
  left_tally old new is was now =
      now ∙ ap (λ (t : Tally). record t { left = saturating_plus t.left 1 }) was ∙ (λ i. record (tally_of s h) {
        loaded = sym (found-none s as_loaded h number stream name bytes (ap as_loaded is)) i;
        unrouted = sym (found-none s as_unrouted h number stream name bytes (ap as_unrouted is)) i;
        left = found-one s as_left h number stream name bytes (ap as_left is) i;
      })

-- ---- inputs and outputs

-- a fact that changes the counters of one input
pub input_counted : (change : InputChange) (fact : Fact) (s : AllSettings) (h : History) (input : ℕ) (old new : Tally)
    → ((j : ℕ) → changed_at input (input_changed change) (input_tally h) j ≡ input_tally (fact ∷ h) j)
    → ((j : ℕ) → output_tally h j ≡ output_tally (fact ∷ h) j)
    → record (tally_of s h) { inputs = (tally_of s (fact ∷ h)).inputs; outputs = (tally_of s (fact ∷ h)).outputs } ≡ tally_of s (fact ∷ h)
    → old ≡ tally_of s h
    → ((tally : ℕ → InputTally) (n : ℕ) → old.inputs ≡ each_from tally 0 n → new ≡ record old { inputs = each_from (changed_at input (input_changed change) tally) 0 n })
    → new ≡ tally_of s (fact ∷ h)
input_counted change fact s h input old new moved stays files is counted =
    counted (input_tally h) (length s.inputs) (ap (λ (t : Tally). t.inputs) is)
    ∙ ap (λ (t : Tally). record t { inputs = each_from (changed_at input (input_changed change) (input_tally h)) 0 (length s.inputs) }) is
    ∙ (λ i. record (tally_of s h) { inputs = each-same _ _ 0 (length s.inputs) moved i; outputs = each-same _ _ 0 (length s.outputs) stays i })
    ∙ files

-- a fact that changes the counters of one output
pub output_counted : (change : OutputChange) (fact : Fact) (s : AllSettings) (h : History) (output : ℕ) (old new : Tally)
    → ((j : ℕ) → changed_at output (output_changed change) (output_tally h) j ≡ output_tally (fact ∷ h) j)
    → ((j : ℕ) → input_tally h j ≡ input_tally (fact ∷ h) j)
    → record (tally_of s h) { inputs = (tally_of s (fact ∷ h)).inputs; outputs = (tally_of s (fact ∷ h)).outputs } ≡ tally_of s (fact ∷ h)
    → old ≡ tally_of s h
    → ((tally : ℕ → OutputTally) (n : ℕ) → old.outputs ≡ each_from tally 0 n → new ≡ record old { outputs = each_from (changed_at output (output_changed change) tally) 0 n })
    → new ≡ tally_of s (fact ∷ h)
output_counted change fact s h output old new moved stays files is counted =
    counted (output_tally h) (length s.outputs) (ap (λ (t : Tally). t.outputs) is)
    ∙ ap (λ (t : Tally). record t { outputs = each_from (changed_at output (output_changed change) (output_tally h)) 0 (length s.outputs) }) is
    ∙ (λ i. record (tally_of s h) { inputs = each-same _ _ 0 (length s.inputs) stays i; outputs = each-same _ _ 0 (length s.outputs) moved i })
    ∙ files

-- the change of an input or output, if the fact counts for it and if it doesn't

in_accepted : (b : Bool) (t : InputTally) (x y : ℕ) → (if b then record t { batches = x; events = y } else t) ≡ record t { batches = if b then x else t.batches; events = if b then y else t.events }
in_accepted = elim [ true ↦ λ t x y. refl | false ↦ λ t x y. refl ]

in_refused : (b : Bool) (t : InputTally) (x : ℕ) → (if b then record t { refused = x } else t) ≡ record t { refused = if b then x else t.refused }
in_refused = elim [ true ↦ λ t x. refl | false ↦ λ t x. refl ]

out_taken : (b : Bool) (t : OutputTally) (x : ℕ) → (if b then record t { taken = x } else t) ≡ record t { taken = if b then x else t.taken }
out_taken = elim [ true ↦ λ t x. refl | false ↦ λ t x. refl ]

-- the counters of a route's outcome, as sums
out_moved : (b : Bool) (t : OutputTally) (c : Counts) (u : OutputTally)
    → u ≡ record { good = saturating_plus t.good c.good; retry = saturating_plus t.retry c.retry; bad = saturating_plus t.bad c.bad; spent = saturating_plus t.spent c.spent; lost = saturating_plus t.lost c.lost; taken = t.taken }
    → (if b then u else t) ≡ record { good = if b then saturating_plus t.good c.good else t.good; retry = if b then saturating_plus t.retry c.retry else t.retry; bad = if b then saturating_plus t.bad c.bad else t.bad; spent = if b then saturating_plus t.spent c.spent else t.spent; lost = if b then saturating_plus t.lost c.lost else t.lost; taken = t.taken }
out_moved true t c u e = e
out_moved false t c u e = refl

pub accepted_each : (b : Batch) (place : Placement) (h : History) (j : ℕ) → changed_at b.input (input_changed (input_change.Accepted (length b.events))) (input_tally h) j ≡ input_tally (Accepted b place ∷ h) j
accepted_each b place h j = in_accepted (b.input == j) (input_tally h j) (saturating_plus (batches h j) 1) (saturating_plus (events h j) (length b.events))

pub refused_each : (b : Batch) (why : Reason) (h : History) (j : ℕ) → changed_at b.input (input_changed input_change.Refused) (input_tally h) j ≡ input_tally (Refused b why ∷ h) j
refused_each b why h j = in_refused (b.input == j) (input_tally h j) (saturating_plus (refused h j) 1)

pub misread_each : (input : ℕ) (h : History) (j : ℕ) → changed_at input (input_changed input_change.Refused) (input_tally h) j ≡ input_tally (Malformed input ∷ h) j
misread_each input h j = in_refused (input == j) (input_tally h j) (saturating_plus (refused h j) 1)

pub handed_each : (output n : ℕ) (h : History) (j : ℕ) → changed_at output (output_changed (output_change.Sent n)) (output_tally h) j ≡ output_tally (Sent output n ∷ h) j
handed_each output n h j = out_taken (output == j) (output_tally h j) (saturating_plus (taken h j) n)

none : (which : Counts → ℕ) (h : History) (output : ℕ) → outcome_count which h output ≡ saturating_plus (outcome_count which h output) 0
none which h output = sym (saturating_plus-none (outcome_count which h output) (outcome_count-within which h output))

pub delivered_each : (r : Route) (h : History) (j : ℕ) → changed_at r.output (output_changed output_change.Delivered) (output_tally h) j ≡ output_tally (OnRoute r Delivered ∷ h) j
delivered_each r h j = out_moved (r.output == j) (output_tally h j) (counts_of Delivered) _
    (λ i. record (output_tally h j) { good = saturating_plus (outcome_count (λ c. c.good) h j) 1; retry = none (λ c. c.retry) h j i; bad = none (λ c. c.bad) h j i; spent = none (λ c. c.spent) h j i; lost = none (λ c. c.lost) h j i })

pub failed_each : (r : Route) (h : History) (j : ℕ) → changed_at r.output (output_changed output_change.Failed) (output_tally h) j ≡ output_tally (OnRoute r Failed ∷ h) j
failed_each r h j = out_moved (r.output == j) (output_tally h j) (counts_of Failed) _
    (λ i. record (output_tally h j) { good = none (λ c. c.good) h j i; retry = none (λ c. c.retry) h j i; bad = saturating_plus (outcome_count (λ c. c.bad) h j) 1; spent = none (λ c. c.spent) h j i; lost = none (λ c. c.lost) h j i })

pub retried_each : (r : Route) (word : ℕ) (h : History) (j : ℕ) → changed_at r.output (output_changed output_change.Retried) (output_tally h) j ≡ output_tally (OnRoute r (Retries word) ∷ h) j
retried_each r word h j = out_moved (r.output == j) (output_tally h j) (counts_of (Retries word)) _
    (λ i. record (output_tally h j) { good = none (λ c. c.good) h j i; retry = saturating_plus (outcome_count (λ c. c.retry) h j) 1; bad = none (λ c. c.bad) h j i; spent = none (λ c. c.spent) h j i; lost = none (λ c. c.lost) h j i })

pub spent_each : (r : Route) (h : History) (j : ℕ) → changed_at r.output (output_changed output_change.Exhausted) (output_tally h) j ≡ output_tally (OnRoute r Exhausted ∷ h) j
spent_each r h j = out_moved (r.output == j) (output_tally h j) (counts_of Exhausted) _
    (λ i. record (output_tally h j) { good = none (λ c. c.good) h j i; retry = saturating_plus (outcome_count (λ c. c.retry) h j) 1; bad = none (λ c. c.bad) h j i; spent = saturating_plus (outcome_count (λ c. c.spent) h j) 1; lost = none (λ c. c.lost) h j i })

pub lost_each : (r : Route) (h : History) (j : ℕ) → changed_at r.output (output_changed output_change.Evicted) (output_tally h) j ≡ output_tally (OnRoute r Evicted ∷ h) j
lost_each r h j = out_moved (r.output == j) (output_tally h j) (counts_of Evicted) _
    (λ i. record (output_tally h j) { good = none (λ c. c.good) h j i; retry = none (λ c. c.retry) h j i; bad = none (λ c. c.bad) h j i; spent = none (λ c. c.spent) h j i; lost = saturating_plus (outcome_count (λ c. c.lost) h j) 1 })

-- an outcome that counts nowhere changes nothing
pub nothing_tally : (s : AllSettings) (h : History) (r : Route) (o : Outcome) → (counts_of o).good ≡ 0 → (counts_of o).retry ≡ 0 → (counts_of o).bad ≡ 0 → (counts_of o).spent ≡ 0 → (counts_of o).lost ≡ 0
    → tally_of s (OnRoute r o ∷ h) ≡ tally_of s h
nothing_tally s h r o good retry bad spent lost = ap (λ l. record (tally_of s h) { outputs = l }) (each-same _ _ 0 (length s.outputs) (λ j. λ i. record (output_tally h j) {
  good = outcome_count-none (λ c. c.good) r o h j good i;
  retry = outcome_count-none (λ c. c.retry) r o h j retry i;
  bad = outcome_count-none (λ c. c.bad) r o h j bad i;
  spent = outcome_count-none (λ c. c.spent) r o h j spent i;
  lost = outcome_count-none (λ c. c.lost) r o h j lost i;
}))

pub flies_tally : (s : AllSettings) (h : History) (r : Route) (p : Progress) → tally_of s (OnRoute r (InFlight p) ∷ h) ≡ tally_of s h
flies_tally s h r p = nothing_tally s h r (InFlight p) refl refl refl refl refl

pub begun_tally : (s : AllSettings) (h : History) (r : Route) (events : List Event) → tally_of s (OnRoute r (FlushStarted events) ∷ h) ≡ tally_of s h
begun_tally s h r events = nothing_tally s h r (FlushStarted events) refl refl refl refl refl

-- an outcome that changes the counters of its route's output
pub route_counted : (change : OutputChange) (outcome : Outcome) (s : AllSettings) (h : History) (r : Route) (output : ℕ) (old new : Tally)
    → ((j : ℕ) → changed_at r.output (output_changed change) (output_tally h) j ≡ output_tally (OnRoute r outcome ∷ h) j)
    → r.output ≡ output
    → old ≡ tally_of s h
    → ((tally : ℕ → OutputTally) (n : ℕ) → old.outputs ≡ each_from tally 0 n → new ≡ record old { outputs = each_from (changed_at output (output_changed change) tally) 0 n })
    → new ≡ tally_of s (OnRoute r outcome ∷ h)
route_counted change outcome s h r output old new moved to is counted =
    let P : ℕ → Type 0 = λ o. ((j : ℕ) → changed_at o (output_changed change) (output_tally h) j ≡ output_tally (OnRoute r outcome ∷ h) j) in
    output_counted change (OnRoute r outcome) s h output old new (subst P to moved) (λ j. refl) refl is counted

-- a batch of an input
pub batch_counted : (change : InputChange) (fact : Fact) (s : AllSettings) (h : History) (of input : ℕ) (old new : Tally)
    → of ≡ input
    → ((j : ℕ) → changed_at of (input_changed change) (input_tally h) j ≡ input_tally (fact ∷ h) j)
    → ((j : ℕ) → output_tally h j ≡ output_tally (fact ∷ h) j)
    → record (tally_of s h) { inputs = (tally_of s (fact ∷ h)).inputs; outputs = (tally_of s (fact ∷ h)).outputs } ≡ tally_of s (fact ∷ h)
    → old ≡ tally_of s h
    → ((tally : ℕ → InputTally) (n : ℕ) → old.inputs ≡ each_from tally 0 n → new ≡ record old { inputs = each_from (changed_at input (input_changed change) tally) 0 n })
    → new ≡ tally_of s (fact ∷ h)
batch_counted change fact s h of input old new same moved stays files is counted =
    let P : ℕ → Type 0 = λ o. ((j : ℕ) → changed_at o (input_changed change) (input_tally h) j ≡ input_tally (fact ∷ h) j) in
    input_counted change fact s h input old new (subst P same moved) stays files is counted
