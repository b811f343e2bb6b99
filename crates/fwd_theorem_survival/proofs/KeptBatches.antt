-- What a crash leaves at each point of a run at which the pending chunks are safe.
use Rattle.std.proofs.Common.{◌≡◌, inl, inr, ⊎_elim, ℕ, Bool, true, false, List, [], ◌∷◌, ◌++◌, append_assoc, Option, Some, refl, sym, ◌∙◌, ap, subst}
use Rattle.std.specs.Prelude.{Contains, ◌==◌}
use Rattle.std.specs.Option.{option_map_or}
use Rattle.std.proofs.lemmas.Bool.{eq-eqb}
use Rattle.fwd_outside.specs.Program.{entry, Execution}
use Rattle.fwd_outside.specs.Loop.{Reply}
use Rattle.fwd_outside.specs.declared.home.Home.TheVariants.{Disk}
use Rattle.fwd_settings.specs.declared.settings_types.InputSet.{InputSet}
use Rattle.fwd_model.specs.Fact.{Batch, Placement, NewChunk, AppendedTo, Accepted}
use Rattle.fwd_model.specs.Trace.{TraceEntry, OnLoop}
use Rattle.fwd_model.specs.Settings.{home_at, home_by, input_at, outputs_for}
use Rattle.fwd_model.specs.Messages.{message_batch}
use Rattle.fwd_model.specs.Notes.{is_empty}
use Rattle.fwd_model.specs.Run.{life}
use Rattle.fwd_theorem_trace.specs.Past.{Past, logged, past_after}
use Rattle.fwd_theorem_trace.specs.Allowed.{Allowed}
use Rattle.fwd_theorem_trace.proofs.Run.{due_since}
use Rattle.fwd_theorem_delivery.specs.Replies.{IsDueReply}
use Rattle.fwd_theorem_delivery.proofs.PausedInputs.{due_before}
use Rattle.fwd_theorem_crash.specs.CrashPoint.{CrashPoint}
use Rattle.fwd_theorem_survival.specs.Survival.{WasStored, SurvivesCrash, WasAcknowledged, KeepsAccepted}
use Rattle.fwd_theorem_survival.proofs.StoredBatches.{Stored, placed, stored}
use Rattle.fwd_outside.proofs.Invariant.{AllInvariant}
use Rattle.fwd_theorem_survival.proofs.TakenMessages.{still_logged, was_accepted}
use Rattle.fwd_outside.specs.declared.ends.Ends.{Ends as InputEnds}
use Rattle.fwd_settings.specs.declared.settings_types.AllSettings.{AllSettings}
use Rattle.fwd_model.specs.Trace.{Action}
use Rattle.fwd_model.specs.Run.{RunResult}
use Rattle.fwd_theorem_crash.specs.Safety.{PendingAreSafe}
use Rattle.fwd_theorem_survival.proofs.Points.{after_both, same_calls}
use Rattle.fwd_theorem_survival.proofs.BatchSurvival.{ChunksAreRecovered, ResolvedIff, OwedIff, survives}
use Rattle.fwd_theorem_survival.proofs.KilledProcess.{durable_files, durable_point, are_durable, images, loads_same}

same_number : (n : ℕ) → n == n ≡ true
same_number n = eq-eqb n n refl

-- the theorem on replies
abbrev pub RepliesAreDue : Type 0
RepliesAreDue =
    (s : AllSettings) (ends : InputEnds) (ticks : Option ℕ) (turns : ℕ) (before rest : List TraceEntry) (conn : ℕ) (bytes : List ℕ) (answer : Option (Unit {0})) (left : Action RunResult)
    → Execution (life s ends ticks turns) (before ++ entry (OnLoop (Reply conn bytes)) answer ∷ rest) left → IsDueReply s (past_after [] before) conn bytes

module _ (s : AllSettings) (ends : InputEnds) (ticks : Option ℕ) (turns : ℕ) (entries : List TraceEntry) (left : Action RunResult) (way : Execution (life s ends ticks turns) entries left)
    (recovered_all : ChunksAreRecovered s) (resolved_iff : ResolvedIff s) (owed_iff : OwedIff s) (replies_due : RepliesAreDue) where
  allowed : (own rest : List TraceEntry) (at : CrashPoint) → entries ≡ own ++ rest → at.past ≡ past_after [] own → Allowed s at.past
  allowed own rest at same past =
      subst (Allowed s) (sym past)
      (due_before s rest (past_after [] own)
      (subst (Allowed s) (after_both [] own rest) (due_since s ends ticks turns (own ++ rest) left (subst (λ (es : List TraceEntry). Execution (life s ends ticks turns) es left) same way))))

  was_stored : (at : CrashPoint) (b : Batch) (n : ℕ) → Allowed s at.past → WasStored (logged at.past) b n → Stored b n (logged at.past)
  was_stored at b n may (inl new) = stored s b n (NewChunk n) (same_number n) at.past may new
  was_stored at b n may (inr more) = stored s b n (AppendedTo n) (same_number n) at.past may more

  in_chunk : (before after : List TraceEntry) (e : TraceEntry) (conn : ℕ) (reply : List ℕ) (at : CrashPoint) → Allowed s at.past → at.past ≡ past_after [] (before ++ e ∷ after) → (due : IsDueReply s (past_after [] before) conn reply)
      → is_empty (message_batch s due.input.0 due.message).events ≡ false → is_empty (outputs_for s (message_batch s due.input.0 due.message).tag) ≡ false
      → (n : ℕ) × WasStored (logged at.past) (message_batch s due.input.0 due.message) n
  in_chunk before after e conn reply at may is due some wanted =
      let b : Batch = message_batch s due.input.0 due.message in
      let there = was_accepted s (past_after [] before) conn reply due some in
      let later : Contains (logged (past_after (past_after [] before) (e ∷ after))) (Accepted b there.0) = still_logged (e ∷ after) (past_after [] before) (Accepted b there.0) there.1 in
      let now : Contains (logged at.past) (Accepted b there.0) = subst (λ (p : Past). Contains (logged p) (Accepted b there.0)) (sym (is ∙ after_both [] before (e ∷ after))) later in
      let in_some = placed s b there.0 wanted at.past may now in
      (in_some.0, ⊎_elim (λ (new : there.0 ≡ NewChunk in_some.0). inl (subst (λ (p : Placement). Contains (logged at.past) (Accepted b p)) new now)) (λ (more : there.0 ≡ AppendedTo in_some.0). inr (subst (λ (p : Placement). Contains (logged at.past) (Accepted b p)) more now)) in_some.1)

  acknowledged : (own rest : List TraceEntry) (at : CrashPoint) → entries ≡ own ++ rest → at.past ≡ past_after [] own → (before after : List TraceEntry) (conn : ℕ) (reply : List ℕ) (answer : Option (Unit {0}))
      → at.past ≡ past_after [] (before ++ entry (OnLoop (Reply conn reply)) answer ∷ after) → WasAcknowledged s (logged at.past) (past_after [] before) conn reply
  acknowledged own rest at same past before after conn reply answer is =
      let e : TraceEntry = entry (OnLoop (Reply conn reply)) answer in
      let own_is : own ≡ before ++ e ∷ after = same_calls own (before ++ e ∷ after) (sym past ∙ is) in
      let whole : entries ≡ before ++ e ∷ (after ++ rest) = same ∙ (ap (λ (l : List TraceEntry). l ++ rest) own_is ∙ append_assoc before (e ∷ after) rest) in
      let due = replies_due s ends ticks turns before (after ++ rest) conn reply answer left (subst (λ (es : List TraceEntry). Execution (life s ends ticks turns) es left) whole way) in
      record { due = due; stored = λ some wanted. in_chunk before after e conn reply at (allowed own rest at same past) is due some wanted }

  on_disk : (b : Batch) (input : InputSet) → input_at s b.input ≡ Some input → input.stored ≡ true → home_at s b.input ≡ Disk
  on_disk b input among kept = ap (λ (o : Option InputSet). home_by (option_map_or (λ (set : InputSet). set.stored) o false)) among ∙ ap home_by kept

  crash_survived : (own rest : List TraceEntry) (at : CrashPoint) → entries ≡ own ++ rest → at.past ≡ past_after [] own → PendingAreSafe s at → (b : Batch) (n : ℕ) (input : InputSet) → WasStored (logged at.past) b n
      → input_at s b.input ≡ Some input → input.stored ≡ true → SurvivesCrash s at n b
  crash_survived own rest at same past safe b n input was among kept =
      survives s recovered_all resolved_iff owed_iff at safe b n (on_disk b input among kept) (was_stored at b n (allowed own rest at same past) was)

  pub keeps : (own rest : List TraceEntry) (at : CrashPoint) → entries ≡ own ++ rest → at.past ≡ past_after [] own → PendingAreSafe s at → AllInvariant at.files → KeepsAccepted s at
  keeps own rest at same past safe sound = record {
    accepted = λ b n input was among kept. crash_survived own rest at same past safe b n input was among kept;
    killed =
        λ b n input was among kept loading after last loads leads.
        crash_survived own rest at same past safe b n input was among kept (durable_files at.files) loading after (durable_point last) (are_durable at.files) (images at.files sound) loads
        (loads_same s at.files loading (Some after) last loads leads);
    acknowledged = λ before after conn reply answer is. acknowledged own rest at same past before after conn reply answer is;
  }
