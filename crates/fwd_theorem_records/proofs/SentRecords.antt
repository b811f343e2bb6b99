-- Each flush began with the records of its chunk.
use Rattle.std.proofs.Common.{◌≡◌, ℕ, List, [], ◌∷◌, ◌++◌, Option, Some, None, refl, sym, ◌∙◌, ap, subst}
use Rattle.fwd_event.specs.declared.event.Event.{Event}
use Rattle.fwd_chunk.specs.declared.kept.Kept.{Kept}
use Rattle.fwd_chunk.specs.declared.kept.Kept.TheVariants.{InFile, Adopted, InMemory}
use Rattle.fwd_backlog.specs.Recovered.{AreDurable}
use Rattle.fwd_outside.specs.Program.{Execution}
use Rattle.fwd_outside.specs.LoopAnswers.{WaitsBringBytes}
use Rattle.fwd_outside.specs.AtCrashPoints.{Ends as MomentEnds}
use Rattle.fwd_outside.specs.DiskStates.{Files}
use Rattle.fwd_outside.specs.declared.ends.Ends.{Ends}
use Rattle.fwd_settings.specs.declared.settings_types.AllSettings.{AllSettings}
use Rattle.fwd_settings.specs.Requirements.{MeetsRequirements}
use Rattle.fwd_model.specs.Fact.{Fact, History, Route, FlushStarted, OnRoute}
use Rattle.fwd_model.specs.Trace.{Call, Action, TraceEntry, Note, history_after, history_after_call, loop_part}
use Rattle.fwd_model.specs.Chunks.{records}
use Rattle.fwd_model.specs.ChunkStorage.{kept_of}
use Rattle.fwd_model.specs.Run.{RunResult, life}
use Rattle.fwd_theorem_trace.specs.Past.{Past, logged, past_after}
use Rattle.fwd_theorem_trace.specs.Allowed.{Allowed}
use Rattle.fwd_theorem_trace.proofs.Traversal.{noted_since}
use Rattle.fwd_theorem_trace.proofs.Run.{due_since}
use Rattle.fwd_theorem_delivery.specs.FlushedEvents.{AreOfChunk, SendsChunk}
use Rattle.fwd_theorem_delivery.proofs.RouteCauses.{causes_in_life}
use Rattle.fwd_theorem_crash.specs.CrashPoint.{CrashPoint, crash_point, LeadsTo}
use Rattle.fwd_theorem_crash.specs.FlushEvents.{chunk_events, FlushesSendTheirChunks}
use Rattle.fwd_theorem_content.proofs.Life.{hands_by_then}
use Rattle.fwd_theorem_records.specs.Records.{StoredAreWritable, HoldsRecords, FlushesSendTheirRecords}
use Rattle.fwd_theorem_records.proofs.ReadPieces.{PiecesAreBytes}
use Rattle.fwd_theorem_records.proofs.WaitedPieces.{brought_so_far}
use Rattle.fwd_theorem_records.proofs.StoredEvents.{writable_so_far}
use Rattle.fwd_theorem_records.proofs.ChunkRecords.{call_stored, chunks_hold}

-- the events of a chunk that is kept are its records
kept_records : (h : History) (r : Route) (events : List Event) (kept : Option Kept) → HoldsRecords h r.chunk → events ≡ chunk_events kept h r → AreOfChunk kept h r events → events ≡ records h r.chunk
kept_records h r events None holds is are = absurd are
kept_records h r events (Some (InMemory bytes)) holds is are = is
kept_records h r events (Some (InFile head)) holds is are = is ∙ holds.read
kept_records h r events (Some (Adopted head)) holds is are = is ∙ holds.read

module _ (s : AllSettings) where
  -- each flush sends the events of a chunk that is kept
  abbrev Send : History → Type 0
  Send h = (later before : History) (r : Route) (events : List Event) → h ≡ later ++ OnRoute r (FlushStarted events) ∷ before → SendsChunk s before r events

  send_before : (fact : Fact) (h : History) → Send (fact ∷ h) → Send h
  send_before fact h send later before r events is = send (fact ∷ later) before r events (ap (λ (x : History). fact ∷ x) is)

  fact_sends : (fact : Fact) (h : History) → ((n : ℕ) → HoldsRecords h n) → FlushesSendTheirChunks s (fact ∷ h) → Send (fact ∷ h) → (FlushesSendTheirChunks s h → FlushesSendTheirRecords h) → FlushesSendTheirRecords (fact ∷ h)
  fact_sends (OnRoute r (FlushStarted events)) h holds hands send more = (kept_records h r events (kept_of s h r.chunk) (holds r.chunk) hands.0 (send [] h r events refl), more hands.1)
  fact_sends (OnRoute r outcome) h holds hands send more = more hands
  fact_sends fact h holds hands send more = more hands

  call_sends : (call : Call) (h : History) → ((n : ℕ) → HoldsRecords h n) → FlushesSendTheirChunks s (history_after_call call h) → Send (history_after_call call h) → (FlushesSendTheirChunks s h → Send h → FlushesSendTheirRecords h)
      → FlushesSendTheirRecords (history_after_call call h)
  call_sends (Note fact) h holds hands send more = fact_sends fact h holds hands send (λ before. more before (send_before fact h send))
  call_sends call h holds hands send more = more hands send

  past_sends : (past : Past) → Allowed s past → StoredAreWritable (logged past) → FlushesSendTheirChunks s (logged past) → Send (logged past) → FlushesSendTheirRecords (logged past)
  past_sends [] due are hands send = tt
  past_sends (e ∷ past) due are hands send =
      let before : StoredAreWritable (logged past) = call_stored e.call (logged past) are in
      call_sends e.call (logged past) (λ n. chunks_hold s past due.1 before n) hands send (λ hands_before send_before. past_sends past due.1 before hands_before send_before)

  module _ (settings : MeetsRequirements s) (ends : Ends) (ticks : Option ℕ) (turns : ℕ) (es : List TraceEntry) (left : Action RunResult) (way : Execution (life s ends ticks turns) es left) (are : PiecesAreBytes (history_after es [])) where
    same : logged (past_after [] es) ≡ history_after es []
    same = noted_since [] es

    pub hold_so_far : (n : ℕ) → HoldsRecords (history_after es []) n
    hold_so_far n =
        subst (λ (h : History). HoldsRecords h n) same
        (chunks_hold s (past_after [] es) (due_since s ends ticks turns es left way) (subst StoredAreWritable (sym same) (writable_so_far s settings ends ticks turns es left way are)) n)

    pub sent_so_far : FlushesSendTheirChunks s (history_after es []) → FlushesSendTheirRecords (history_after es [])
    sent_so_far hands =
        subst FlushesSendTheirRecords same
        (past_sends (past_after [] es) (due_since s ends ticks turns es left way) (subst StoredAreWritable (sym same) (writable_so_far s settings ends ticks turns es left way are)) (subst (FlushesSendTheirChunks s) (sym same) hands)
        (subst Send (sym same) (causes_in_life s ends ticks turns es left way).sent))

  -- on a durable disk at first, by what the waits brought
  pub sent_by_then : MeetsRequirements s → (first : Files) (ends : Ends) (ticks : Option ℕ) (turns : ℕ) (es : List TraceEntry) (left : Action RunResult) (last : CrashPoint) → AreDurable first
      → Execution (life s ends ticks turns) es left → MomentEnds LeadsTo (crash_point [] first) es last → WaitsBringBytes (loop_part es) → FlushesSendTheirRecords (history_after es [])
  sent_by_then settings first ends ticks turns es left last fresh way along are =
      sent_so_far settings ends ticks turns es left way (brought_so_far s ends ticks turns es left way are) (hands_by_then s settings first ends ticks turns es left last fresh way along)
