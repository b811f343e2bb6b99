-- What the counters of the report count: facts of a run.
use Rattle.std.specs.Prelude.{◌≡◌, ℕ, ◌-◌, ◌^◌, ◌==◌, ◌&&◌, not, min, Bool, true, false, if◌then◌else◌, length, filter, sum_by, slice_get, Option, Some, None}
use Rattle.std.specs.List.{list_any}
use Rattle.fwd_chunk.specs.declared.chunk.Chunk.{Chunk}
use Rattle.fwd_table.specs.declared.tally.InputTally.{InputTally}
use Rattle.fwd_table.specs.declared.tally.OutputTally.{OutputTally}
use Rattle.fwd_table.specs.declared.tally.Tally.{Tally}
use Rattle.fwd_settings.specs.declared.settings_types.AllSettings.{AllSettings}
use Rattle.fwd_model.specs.Fact.{Fact, History, Malformed, Found, Accepted, Refused, Sent, OnRoute, Retries, Delivered, Failed, Exhausted, Evicted, IoFailed}
use Rattle.fwd_model.specs.Settings.{outputs_for, output_name}
use Rattle.fwd_model.specs.RecoveredFile.{recovered_chunk, is_marked_done}
use Rattle.fwd_model.specs.Notes.{is_empty}

-- a count stays at 2^64 - 1 once it is reached
abbrev pub capped : ℕ → ℕ
capped count = min count (2 ^ 64 - 1)

-- how many facts of a history pass a test
abbrev pub number_of : (Fact → Bool) → History → ℕ
number_of test h = capped (length (filter test h))

-- ---- inputs

abbrev pub is_accepted : ℕ → Fact → Bool
is_accepted input (Accepted b place) = b.input == input
is_accepted input fact = false

-- the events that a fact says were accepted from an input
abbrev pub accepted_events : ℕ → Fact → ℕ
accepted_events input (Accepted b place) = if b.input == input then length b.events else 0
accepted_events input fact = 0

abbrev pub is_refused : ℕ → Fact → Bool
is_refused input (Refused b why) = b.input == input
is_refused input (Malformed other) = other == input
is_refused input fact = false

pub record CountsInput (h : History) (input : ℕ) (tally : InputTally) : Type 0 where
  pub batches : tally.batches ≡ number_of (is_accepted input) h
  pub events : tally.events ≡ capped (sum_by (accepted_events input) h)
  pub refused : tally.refused ≡ number_of (is_refused input) h

-- ---- outputs

abbrev pub is_delivered : ℕ → Fact → Bool
is_delivered output (OnRoute r Delivered) = r.output == output
is_delivered output fact = false

-- a flush answered RETRY: it is retried, or its retries are exhausted
abbrev pub is_retried : ℕ → Fact → Bool
is_retried output (OnRoute r (Retries word)) = r.output == output
is_retried output (OnRoute r Exhausted) = r.output == output
is_retried output fact = false

abbrev pub is_failed : ℕ → Fact → Bool
is_failed output (OnRoute r Failed) = r.output == output
is_failed output fact = false

abbrev pub is_exhausted : ℕ → Fact → Bool
is_exhausted output (OnRoute r Exhausted) = r.output == output
is_exhausted output fact = false

abbrev pub is_evicted : ℕ → Fact → Bool
is_evicted output (OnRoute r Evicted) = r.output == output
is_evicted output fact = false

-- the bytes that a fact says links of an output took
abbrev pub sent_bytes : ℕ → Fact → ℕ
sent_bytes output (Sent other bytes) = if other == output then bytes else 0
sent_bytes output fact = 0

pub record CountsOutput (h : History) (output : ℕ) (tally : OutputTally) : Type 0 where
  pub good : tally.good ≡ number_of (is_delivered output) h
  pub retry : tally.retry ≡ number_of (is_retried output) h
  pub bad : tally.bad ≡ number_of (is_failed output) h
  pub spent : tally.spent ≡ number_of (is_exhausted output) h
  pub lost : tally.lost ≡ number_of (is_evicted output) h
  pub taken : tally.taken ≡ capped (sum_by (sent_bytes output) h)

-- ---- files

-- whether a recovered chunk matches an output for which it isn't marked done
abbrev pub is_pending_chunk : AllSettings → Option Chunk → Bool
is_pending_chunk s None = false
is_pending_chunk s (Some chunk) =
    list_any (λ output. not (is_marked_done (output_name s output) (Some chunk))) (outputs_for s chunk.tag)

-- whether it matches no output
abbrev pub is_unrouted_chunk : AllSettings → Option Chunk → Bool
is_unrouted_chunk s None = false
is_unrouted_chunk s (Some chunk) = is_empty (outputs_for s chunk.tag)

abbrev pub is_loaded : AllSettings → Fact → Bool
is_loaded s (Found number stream name bytes) = is_pending_chunk s (recovered_chunk bytes)
is_loaded s fact = false

abbrev pub is_unrouted : AllSettings → Fact → Bool
is_unrouted s (Found number stream name bytes) = is_unrouted_chunk s (recovered_chunk bytes)
is_unrouted s fact = false

-- whether a file was found that is neither
abbrev pub is_left : AllSettings → Fact → Bool
is_left s (Found number stream name bytes) =
    not (is_pending_chunk s (recovered_chunk bytes)) && not (is_unrouted_chunk s (recovered_chunk bytes))
is_left s fact = false

abbrev pub is_io_failure : Fact → Bool
is_io_failure IoFailed = true
is_io_failure fact = false

-- ---- the report

-- each counter of a report on a history is the number of its facts
pub record CountsFacts (s : AllSettings) (h : History) (tally : Tally) : Type 0 where
  pub all_inputs : length tally.inputs ≡ length s.inputs
  pub inputs : (input : ℕ) (counted : InputTally) → slice_get tally.inputs input ≡ Some counted
      → CountsInput h input counted
  pub all_outputs : length tally.outputs ≡ length s.outputs
  pub outputs : (output : ℕ) (counted : OutputTally) → slice_get tally.outputs output ≡ Some counted
      → CountsOutput h output counted
  pub loaded : tally.loaded ≡ number_of (is_loaded s) h
  pub unrouted : tally.unrouted ≡ number_of (is_unrouted s) h
  pub left : tally.left ≡ number_of (is_left s) h
  pub faults : tally.faults ≡ number_of is_io_failure h
