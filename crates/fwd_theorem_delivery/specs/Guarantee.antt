-- The delivery guarantee of one run, in terms of its facts and calls.
use Rattle.std.specs.Prelude.{◌≡◌, ◌↔◌, ℕ, true, List, [], ◌∷◌, ◌++◌, map, Contains, Option}
use Rattle.fwd_outside.specs.Program.{entry}
use Rattle.fwd_outside.specs.Loop.{LoopEntry, Reply}
use Rattle.fwd_table.specs.Row.{Row}
use Rattle.fwd_settings.specs.declared.settings_types.AllSettings.{AllSettings}
use Rattle.fwd_model.specs.Fact.{Fact, History, Route, OnRoute, Delivered, Failed, Exhausted, Evicted}
use Rattle.fwd_model.specs.Settings.{outputs_for}
use Rattle.fwd_model.specs.Chunks.{ChunkInfo, chunks_of}
use Rattle.fwd_model.specs.Routes.{route, rows_of}
use Rattle.fwd_model.specs.Trace.{TraceEntry, OnLoop, history_after, loop_part}
use Rattle.fwd_theorem_trace.specs.Past.{past_after}
use Rattle.fwd_theorem_trace.specs.Resolution.{WasRecoveredDone, IsResolved}
use Rattle.fwd_theorem_delivery.specs.Causes.{HaveCauses}
use Rattle.fwd_theorem_delivery.specs.Origins.{is_arrival, HasNoArrival, AreDecidedInOrder}
use Rattle.fwd_theorem_delivery.specs.Replies.{IsDueReply}
use Rattle.fwd_theorem_delivery.specs.Links.{DialTarget, WasDialled}
use Rattle.fwd_theorem_delivery.specs.LinkOutcomes.{IsLogged, SendsPrefix, SendsAll, IsRejected, HasRetryCause}
use Rattle.fwd_theorem_delivery.specs.BatchOutcomes.{AllBatchOutcomes}

-- an entry of the report has the route
pub record IsReported (s : AllSettings) (h : History) (r : Route) : Type 0 where
  pub row : Row
  pub among : Contains (rows_of s h) row
  pub of_chunk : row.chunk.0 ≡ r.chunk
  pub has : Contains (map (λ out. out.output.0) row.routes) r.output

-- What became of a chunk for an output that it matches. The output took all of it over one link and
-- answered OK; or it answered ERROR; or its retries are exhausted; or it was evicted by the output's
-- limit; or its recovered file had it marked done; or it is still pending, and in the report.
pub data IsAccountedFor (s : AllSettings) (h : History) (es : List LoopEntry) (r : Route) : Type 0 where
  IsDelivered : IsLogged (OnRoute r Delivered) h → SendsAll s h es r → IsAccountedFor s h es r
  IsFailed : IsLogged (OnRoute r Failed) h → IsRejected s h es r → IsAccountedFor s h es r
  IsExhausted : IsLogged (OnRoute r Exhausted) h → HasRetryCause s h es r → IsAccountedFor s h es r
  IsEvicted : IsLogged (OnRoute r Evicted) h → IsAccountedFor s h es r
  IsMarkedDone : WasRecoveredDone s h r → IsAccountedFor s h es r
  IsPending : IsReported s h r → IsAccountedFor s h es r

-- ---- the guarantee

-- The guarantee of a run with these calls and facts.
pub record KeepsGuarantee (s : AllSettings) (trace : List TraceEntry) : Type 0 where
  -- Each event that came in complete and passed the filters is in an accepted batch, unless its batch was
  -- refused and counted or followed the drop of its connection.
  pub became : AllBatchOutcomes s [] (history_after trace [])
  -- Each batch is decided once: those decided since a read, an event or a poll are the first ones that it
  -- completed, in order.
  pub once : (later during before : History) (fact : Fact)
      → history_after trace [] ≡ later ++ (during ++ fact ∷ before) → is_arrival fact ≡ true
      → HasNoArrival during → AreDecidedInOrder s during fact before
  -- Each chunk is kept for each output that it matches.
  pub kept : (c : ChunkInfo) (output : ℕ) → Contains (chunks_of (history_after trace [])) c
      → Contains (outputs_for s c.tag) output
      → IsAccountedFor s (history_after trace []) (loop_part trace) (route c.number output)
  -- It is pending, and in the report, exactly as long as the route isn't resolved.
  pub pending : (c : ChunkInfo) (output : ℕ) → Contains (chunks_of (history_after trace [])) c
      → Contains (outputs_for s c.tag) output → IsReported s (history_after trace []) (route c.number output)
      ↔ (IsResolved s (history_after trace []) (route c.number output) → ⊥)
  -- A refusal, the end of retries and an eviction have their causes.
  pub causes : HaveCauses s (history_after trace [])
  -- The bytes sent over each link are a prefix of the payload of a flush of a closed chunk for its output.
  pub handed : (to : DialTarget) (link : ℕ) → WasDialled to link (loop_part trace)
      → SendsPrefix s (history_after trace []) (loop_part trace) to link
  -- Each reply is due: its message's batch, and all before it in the read, were taken before.
  pub replied : (before rest : List TraceEntry) (conn : ℕ) (bytes : List ℕ) (answer : Option (Unit {0}))
      → trace ≡ before ++ entry (OnLoop (Reply conn bytes)) answer ∷ rest
      → IsDueReply s (past_after [] before) conn bytes
