-- The events that a run stores can be encoded and read back.
use Rattle.std.proofs.Common.{◌≡◌, ℕ, ◌≤◌, List, [], ◌∷◌, length, Option, refl, sym, subst}
use Rattle.std.specs.Prelude.{All}
use Rattle.std.proofs.lemmas.List.Elements.{All-nil, All-cons, All-head, All-tail}
use Rattle.fwd_base.specs.Limits.{largest_batch}
use Rattle.fwd_event.specs.declared.event.Event.{Event}
use Rattle.fwd_event.specs.Event.{EventFits}
use Rattle.fwd_event.specs.EventPrefix.{IsWritable}
use Rattle.fwd_outside.specs.Program.{Execution}
use Rattle.fwd_outside.specs.declared.ends.Ends.{Ends}
use Rattle.fwd_settings.specs.declared.settings_types.AllSettings.{AllSettings}
use Rattle.fwd_settings.specs.Requirements.{MeetsRequirements}
use Rattle.fwd_model.specs.Fact.{Fact, History, Batch, NewChunk, AppendedTo, Accepted}
use Rattle.fwd_model.specs.Trace.{Call, Action, TraceEntry, Note, history_after, history_after_call}
use Rattle.fwd_model.specs.Chunks.{encoded}
use Rattle.fwd_model.specs.Run.{RunResult, life}
use Rattle.fwd_theorem_depth.proofs.Shallow.{all_tell}
use Rattle.fwd_theorem_depth.proofs.EncodedLengths.{events_fit}
use Rattle.fwd_theorem_trace.specs.Past.{Past, logged, past_after}
use Rattle.fwd_theorem_trace.specs.Allowed.{FactAllowed, IsAllowed, Allowed}
use Rattle.fwd_theorem_trace.proofs.Traversal.{noted_since}
use Rattle.fwd_theorem_trace.proofs.Run.{due_since}
use Rattle.fwd_theorem_delivery.proofs.BatchOrder.{Always}
use Rattle.fwd_theorem_delivery.proofs.FactPositions.{always_so_far, came_before}
use Rattle.fwd_theorem_depth.specs.Ranges.{NumbersFit}
use Rattle.fwd_theorem_records.specs.Records.{StoredAreWritable}
use Rattle.fwd_theorem_records.proofs.ReadPieces.{PiecesAreBytes}
use Rattle.fwd_theorem_depth.proofs.RecordRanges.{AllRanged}
use Rattle.fwd_theorem_records.proofs.ReadBytes.{before_fact}
use Rattle.fwd_theorem_records.proofs.CompletedBatches.{IsFair, was_fair}

one_writable : (e : Event) → NumbersFit e → EventFits e → IsWritable e
one_writable e r fits = record { sec = r.sec; nsec = r.nsec; meta = r.meta; body = r.body; fits = fits }

all_writable : (es : List Event) → AllRanged es → All EventFits es → All IsWritable es
all_writable [] r fits = All-nil IsWritable
all_writable (e ∷ es) r fits = All-cons IsWritable e es (one_writable e r.0 (All-head EventFits e es fits)) (all_writable es r.1 (All-tail EventFits e es fits))

batch_writable : (b : Batch) → IsFair b → length (encoded b.events) ≤ largest_batch → All IsWritable b.events
batch_writable b fair short = all_writable b.events fair.ranged (events_fit b.events (all_tell b.events fair.shallow) short)

module _ (s : AllSettings) (settings : MeetsRequirements s) where
  fact_writable : (fact : Fact) (past : Past) → FactAllowed s fact past → Always s (fact ∷ logged past) → PiecesAreBytes (fact ∷ logged past) → StoredAreWritable (logged past) → StoredAreWritable (fact ∷ logged past)
  fact_writable (Accepted b (NewChunk chunk)) past due always are more =
      let h : History = logged past in
      let fact : Fact = Accepted b (NewChunk chunk) in
      let came = came_before s (fact ∷ h) [] fact h b always refl refl refl in
      (batch_writable b (was_fair s settings h b are came) due.0.fits, more)
  fact_writable (Accepted b (AppendedTo chunk)) past due always are more =
      let h : History = logged past in
      let fact : Fact = Accepted b (AppendedTo chunk) in
      let came = came_before s (fact ∷ h) [] fact h b always refl refl refl in
      (batch_writable b (was_fair s settings h b are came) due.0.fits, more)
  fact_writable fact past due always are more = more

  call_writable : (call : Call) (past : Past) → IsAllowed s call past → Always s (history_after_call call (logged past)) → PiecesAreBytes (history_after_call call (logged past))
      → (Always s (logged past) → PiecesAreBytes (logged past) → StoredAreWritable (logged past)) → StoredAreWritable (history_after_call call (logged past))
  call_writable (Note fact) past due always are more = fact_writable fact past due always are (more always.1 (before_fact fact (logged past) are))
  call_writable call past due always are more = more always are

  stored_writable : (past : Past) → Allowed s past → Always s (logged past) → PiecesAreBytes (logged past) → StoredAreWritable (logged past)
  stored_writable [] due always are = tt
  stored_writable (e ∷ past) due always are = call_writable e.call past due.0 always are (λ always_before are_before. stored_writable past due.1 always_before are_before)

  pub writable_so_far : (ends : Ends) (ticks : Option ℕ) (turns : ℕ) (es : List TraceEntry) (left : Action RunResult) → Execution (life s ends ticks turns) es left
      → PiecesAreBytes (history_after es []) → StoredAreWritable (history_after es [])
  writable_so_far ends ticks turns es left way are =
      let same : logged (past_after [] es) ≡ history_after es [] = noted_since [] es in
      subst StoredAreWritable same
      (stored_writable (past_after [] es) (due_since s ends ticks turns es left way) (subst (Always s) (sym same) (always_so_far s ends ticks turns es left way)) (subst PiecesAreBytes (sym same) are))
