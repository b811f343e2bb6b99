-- Why a run refuses a batch, runs out of retries, or evicts a chunk, and what its flushes send.
use Rattle.std.specs.Prelude.{◌≡◌, ℕ, ◌+◌, ◌<◌, Bool, true, false, List, ◌∷◌, ◌++◌, All, Contains, Option, Some}
use Rattle.fwd_base.specs.declared.ids.ChunkId.{ChunkId}
use Rattle.fwd_base.specs.declared.ids.OutputId.{OutputId}
use Rattle.fwd_base.specs.declared.output_options.Retries.TheVariants.{Times}
use Rattle.fwd_event.specs.declared.event.Event.{Event}
use Rattle.fwd_table.specs.Row.{Row}
use Rattle.fwd_table.specs.Usage.{size_of}
use Rattle.fwd_limits.specs.Evictions.{fixed, other_waiting, evicted_for}
use Rattle.fwd_settings.specs.declared.settings_types.AllSettings.{AllSettings}
use Rattle.fwd_settings.specs.declared.settings_types.OutputSet.{OutputSet}
use Rattle.fwd_model.specs.Fact.{Fact, History, Batch, Reason, Route, Happened, Refused, OnRoute, FlushStarted, Exhausted, Evicted, ChunkClosed}
use Rattle.fwd_model.specs.Settings.{output_at}
use Rattle.fwd_model.specs.Routes.{rows_of}
use Rattle.fwd_theorem_trace.specs.Allowed.{RefuseAllowed}
use Rattle.fwd_theorem_delivery.specs.RetryCounts.{begin_count}
use Rattle.fwd_theorem_delivery.specs.FlushedEvents.{SendsChunk}

-- as many flushes of the route began as its output's limit of retries, and one more
pub record AreRetriesUsed (s : AllSettings) (h : History) (r : Route) : Type 0 where
  pub limit : ℕ
  pub limited : (output : OutputSet) → output_at s r.output ≡ Some output → output.retries ≡ Times limit
  pub flushed : begin_count h r ≡ limit + 1

-- the bytes of the closed chunks in files that are pending for an output: this one, those that are in flight
-- to it, and the others, which wait
abbrev pub pending_bytes : OutputId → ChunkId → List Row → ℕ
pending_bytes output closed rows = fixed output closed rows + size_of (other_waiting output closed rows)

-- a chunk closed, or the loop brought an event
abbrev pub begins_anew : Fact → Bool
begins_anew (ChunkClosed chunk) = true
begins_anew (Happened brought) = true
begins_anew fact = false

-- When this chunk closed, last before the eviction, the chunks that are pending for the output had more bytes
-- than its limit. The evicted chunk is the one that closed, if it has no room beside those in flight. Else it
-- is one of the oldest that wait, as few of them as make room (`evicted_for`).
pub record IsOverLimit (s : AllSettings) (h : History) (r : Route) : Type 0 where
  pub closed : ℕ
  pub since : History
  pub before : History
  pub is : h ≡ since ++ ChunkClosed closed ∷ before
  pub last : All (λ fact. begins_anew fact ≡ false) since
  pub output : OutputSet
  pub among : output_at s r.output ≡ Some output
  pub limit : ℕ
  pub limited : output.total_limit ≡ Some limit
  pub passed : limit < pending_bytes (record { 0 = r.output }) (record { 0 = closed })
      (rows_of s (ChunkClosed closed ∷ before))
  pub oldest : Contains (evicted_for (record { 0 = r.output }) limit (record { 0 = closed })
      (rows_of s (ChunkClosed closed ∷ before))) (record { 0 = r.chunk })

-- Each refusal, each last retry and each eviction has its cause, in the history before it. Each flush begins
-- with the events of its chunk.
pub record HaveCauses (s : AllSettings) (h : History) : Type 0 where
  pub refused : (later before : History) (b : Batch) (why : Reason) → h ≡ later ++ Refused b why ∷ before
      → RefuseAllowed s b why before
  pub exhausted : (later before : History) (r : Route) → h ≡ later ++ OnRoute r Exhausted ∷ before
      → AreRetriesUsed s before r
  pub evicted : (later before : History) (r : Route) → h ≡ later ++ OnRoute r Evicted ∷ before
      → IsOverLimit s before r
  pub sent : (later before : History) (r : Route) (events : List Event)
      → h ≡ later ++ OnRoute r (FlushStarted events) ∷ before → SendsChunk s before r events
