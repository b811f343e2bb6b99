-- What a crash leaves of the batches that were accepted, and of the messages that were acknowledged.
use Rattle.std.specs.Prelude.{◌≡◌, ◌⊎◌, ℕ, true, false, List, [], ◌∷◌, ◌++◌, Contains, Option, Some}
use Rattle.fwd_outside.specs.Program.{entry, Return, Execution}
use Rattle.fwd_outside.specs.AtCrashPoints.{Ends}
use Rattle.fwd_outside.specs.Loop.{Reply}
use Rattle.fwd_outside.specs.File.{IsPostCrash, content as content_of_file}
use Rattle.fwd_outside.specs.DiskStates.{Files}
use Rattle.fwd_backlog.specs.Recovered.{AreDurable}
use Rattle.fwd_settings.specs.declared.settings_types.AllSettings.{AllSettings}
use Rattle.fwd_settings.specs.declared.settings_types.InputSet.{InputSet}
use Rattle.fwd_model.specs.Fact.{History, Batch, Accepted, NewChunk, AppendedTo}
use Rattle.fwd_model.specs.Trace.{TraceEntry, OnLoop}
use Rattle.fwd_model.specs.Settings.{input_at, outputs_for}
use Rattle.fwd_model.specs.Chunks.{ChunkInfo, chunks_of, content, encoded}
use Rattle.fwd_model.specs.Routes.{route, owed}
use Rattle.fwd_model.specs.Messages.{message_batch}
use Rattle.fwd_model.specs.Notes.{is_empty}
use Rattle.fwd_model.specs.RecoveryActions.{recovers}
use Rattle.fwd_theorem_trace.specs.Past.{Past, logged, past_after}
use Rattle.fwd_theorem_trace.specs.Resolution.{IsResolved}
use Rattle.fwd_theorem_delivery.specs.Replies.{IsDueReply}
use Rattle.fwd_theorem_crash.specs.CrashPoint.{CrashPoint, crash_point, LeadsTo}
use Rattle.fwd_theorem_crash.specs.RecordedOutcomes.{is_recorded}

-- the batch was accepted into this chunk
abbrev pub WasStored : History → Batch → ℕ → Type 0
WasStored h b chunk = Contains h (Accepted b (NewChunk chunk)) ⊎ Contains h (Accepted b (AppendedTo chunk))

-- A chunk of the next run has the batch's tag, and the batch's events, whole and in order. It is pending for
-- each output that the batch matches and that hadn't resolved the chunk before the crash. It isn't pending
-- for an output whose outcome is recorded.
pub record IsRecoveredIn (s : AllSettings) (before after : History) (chunk : ℕ) (b : Batch)
    (again : ChunkInfo) : Type 0 where
  pub among : Contains (chunks_of after) again
  pub tag : again.tag ≡ b.tag
  pub front : List ℕ
  pub back : List ℕ
  pub whole : content after again.number ≡ front ++ (encoded b.events ++ back)
  pub pending : (output : ℕ) → Contains (outputs_for s b.tag) output
      → (IsResolved s before (route chunk output) → ⊥) → Contains (owed s after again) output
  pub recorded : (output : ℕ) → Contains (outputs_for s b.tag) output
      → is_recorded s before (route chunk output) ≡ true → Contains (owed s after again) output → ⊥

-- What the next run finds of a batch: its chunk was resolved for each output before the crash, or the run
-- recovers it.
pub data Survives (s : AllSettings) (before after : History) (chunk : ℕ) (b : Batch) : Type 0 where
  WasResolved : ((output : ℕ) → Contains (outputs_for s b.tag) output
      → IsResolved s before (route chunk output)) → Survives s before after chunk b
  IsRecovered : (again : ChunkInfo) → IsRecoveredIn s before after chunk b again
      → Survives s before after chunk b

-- Whatever a crash at this point leaves of the disk: the next run with these settings finds the batch, if no
-- call on the disk fails as it loads.
abbrev pub SurvivesCrash : AllSettings → CrashPoint → ℕ → Batch → Type 0
SurvivesCrash s m chunk b = (left : Files) (entries : List TraceEntry) (after : History) (last : CrashPoint)
    → AreDurable left → ((name : List ℕ) → IsPostCrash (m.files name) (content_of_file (left name)))
    → Execution (recovers s) entries (Return (Some after)) → Ends LeadsTo (crash_point [] left) entries last
    → Survives s (logged m.past) after chunk b

-- The process was killed at this point, and the machine ran on: the next run with these settings finds the
-- batch, if no call on the disk fails as it loads. It reads what was written, fsynced or not.
abbrev pub SurvivesKill : AllSettings → CrashPoint → ℕ → Batch → Type 0
SurvivesKill s m chunk b = (entries : List TraceEntry) (after : History) (last : CrashPoint)
    → Execution (recovers s) entries (Return (Some after))
    → Ends LeadsTo (crash_point [] m.files) entries last → Survives s (logged m.past) after chunk b

-- A message was acknowledged: it came in whole, and its batch was stored, unless the filters left no event of
-- it, or no output matches it.
pub record WasAcknowledged (s : AllSettings) (h : History) (older : Past) (conn : ℕ)
    (reply : List ℕ) : Type 0 where
  pub due : IsDueReply s older conn reply
  pub stored : is_empty (message_batch s due.input.0 due.message).events ≡ false
      → is_empty (outputs_for s (message_batch s due.input.0 due.message).tag) ≡ false
      → (chunk : ℕ) × WasStored h (message_batch s due.input.0 due.message) chunk

-- At a crash point of a run: each batch that was accepted from an input that keeps its chunks in files
-- survives a crash of the machine, and the end of the process alone. Each message that was answered before
-- was acknowledged, so its batch is one of these.
pub record KeepsAccepted (s : AllSettings) (m : CrashPoint) : Type 0 where
  pub accepted : (b : Batch) (chunk : ℕ) (input : InputSet) → WasStored (logged m.past) b chunk
      → input_at s b.input ≡ Some input → input.stored ≡ true → SurvivesCrash s m chunk b
  pub killed : (b : Batch) (chunk : ℕ) (input : InputSet) → WasStored (logged m.past) b chunk
      → input_at s b.input ≡ Some input → input.stored ≡ true → SurvivesKill s m chunk b
  pub acknowledged : (before after : List TraceEntry) (conn : ℕ) (reply : List ℕ) (answer : Option (Unit {0}))
      → m.past ≡ past_after [] (before ++ entry (OnLoop (Reply conn reply)) answer ∷ after)
      → WasAcknowledged s (logged m.past) (past_after [] before) conn reply
