-- Traversal of a run, call by call, with the files of the disk.
use Rattle.std.proofs.Common.{◌≡◌, ℕ, Bool, true, false, cond, ◌∷◌, Some, None, refl, sym, subst, List}
use Rattle.std.specs.Prelude.{nat_le, nat_lt}
use Rattle.fwd_base.specs.Limits.{full_chunk, numbers_end}
use Rattle.fwd_outside.specs.Program.{entry, Return, Ask, bind}
use Rattle.fwd_outside.specs.AtCrashPoints.{HoldsThroughout}
use Rattle.fwd_outside.proofs.CrashPointLemmas.{holds_bind}
use Rattle.fwd_outside.specs.Loop.{LoopProgram}
use Rattle.fwd_outside.specs.Files.{FilesProgram}
use Rattle.fwd_outside.specs.DiskStates.{Files, NoFileChanges}
use Rattle.fwd_event.specs.declared.event.Event.{Event}
use Rattle.fwd_event.specs.EventPrefix.{events_in}
use Rattle.fwd_chunk.specs.declared.append.ChunkHead.{ChunkHead}
use Rattle.fwd_chunk.specs.declared.kept.Kept.{Kept}
use Rattle.fwd_chunk.specs.declared.kept.Kept.TheVariants.{InFile, Adopted, InMemory}
use Rattle.fwd_model.specs.ChunkStorage.{kept_of}
use Rattle.fwd_model.specs.Dispatch.{may_start}
use Rattle.fwd_chunk.specs.Content.{read_content_program}
use Rattle.fwd_settings.specs.declared.settings_types.AllSettings.{AllSettings}
use Rattle.fwd_model.specs.Fact.{Fact, History, Batch, Route, OnRoute, FlushStarted, ChunkClosed}
use Rattle.fwd_model.specs.Trace.{Call, Answer, Action, OnLoop, OnDisk, OnFiles, OnKeeper, Note}
use Rattle.fwd_model.specs.DeviceActions.{on_loop, on_disk, on_files}
use Rattle.fwd_model.specs.Chunks.{ChunkInfo, open_chunk, next, size, records as records_of}
use Rattle.fwd_model.specs.Routes.{owes, is_resolved}
use Rattle.fwd_model.specs.Notes.{note_then, note}
use Rattle.fwd_model.specs.ResolveActions.{drops, records}
use Rattle.fwd_model.specs.CloseActions.{closes_chunk, closes_if_full}
use Rattle.fwd_model.specs.Acceptance.{Acceptance, taken, ends_refused, appends, starts_chunk}
use Rattle.fwd_theorem_trace.specs.Past.{logged}
use Rattle.fwd_theorem_trace.specs.Allowed.{IsToStore}
use Rattle.fwd_theorem_crash.specs.CrashPoint.{CrashPoint, crash_point, Changes, LeadsTo}
use Rattle.fwd_theorem_crash.proofs.SimpleFacts.{IsSimple}
use Rattle.fwd_theorem_crash.proofs.WritableBatches.{IsWritable}

-- the state after an entry that changes no file
abbrev pub after : CrashPoint → (call : Call) → Answer call → CrashPoint
after m call answer = crash_point (entry call answer ∷ m.past) m.files

-- a call that isn't on the disk
abbrev pub IsStaying : Call → Type 0
IsStaying (OnLoop call) = Unit {0}
IsStaying (OnDisk call) = ⊥
IsStaying (OnFiles call) = Unit {0}
IsStaying (OnKeeper call) = Unit {0}
IsStaying (Note fact) = Unit {0}

changes_stay : (call : Call) (answer : Answer call) (old during new : Files) → IsStaying call → Changes call answer old during new → NoFileChanges old during new
changes_stay (OnLoop call) answer old during new staying changes = changes
changes_stay (OnDisk call) answer old during new staying changes = absurd staying
changes_stay (OnFiles call) answer old during new staying changes = changes
changes_stay (OnKeeper call) answer old during new staying changes = changes
changes_stay (Note fact) answer old during new staying changes = changes

pub same_moment : (one other : CrashPoint) → one.past ≡ other.past → one.files ≡ other.files → one ≡ other
same_moment one other past files = λ i. crash_point (past i) (files i)

pub passes_stay : (call : Call) (answer : Answer call) (m during end : CrashPoint) → IsStaying call → LeadsTo call answer m during end → (during ≡ m) × (end ≡ after m call answer)
passes_stay call answer m during end staying passes =
    let stays = changes_stay call answer m.files during.files end.files staying passes.0 in
    (same_moment during m passes.1 stays.0, same_moment end (after m call answer) passes.2 stays.1)

-- a call on the loop or on files
abbrev pub IsLoopOrFiles : Call → Type 0
IsLoopOrFiles (OnLoop call) = Unit {0}
IsLoopOrFiles (OnDisk call) = ⊥
IsLoopOrFiles (OnFiles call) = Unit {0}
IsLoopOrFiles (OnKeeper call) = ⊥
IsLoopOrFiles (Note fact) = ⊥

-- the action returns the history so far, and the invariant holds
abbrev pub ReturnsHistoryBy : (CrashPoint → Type 0) → (CrashPoint → Type 0) → CrashPoint → Action History → Type 0
ReturnsHistoryBy P K m p = HoldsThroughout LeadsTo P (λ (h : History) (end : CrashPoint). (h ≡ logged end.past) × K end) m p

abbrev pub TakenBy : (CrashPoint → Type 0) → (CrashPoint → Type 0) → CrashPoint → Action Acceptance → Type 0
TakenBy P K m p = HoldsThroughout LeadsTo P (λ (a : Acceptance) (end : CrashPoint). (a.history ≡ logged end.past) × K end) m p

-- the action logs nothing, and the invariant holds
abbrev pub LogsNothingBy : (P K : CrashPoint → Type 0) → {R : Type 0} → CrashPoint → Action R → Type 0
LogsNothingBy P K {R = R} m p = HoldsThroughout LeadsTo P (λ (x : R) (end : CrashPoint). (logged end.past ≡ logged m.past) × K end) m p

-- a flush of a route that sends these events may begin
abbrev pub MayBeginBy : (CrashPoint → Type 0) → Route → List Event → CrashPoint → Type 0
MayBeginBy K r events m = (answer : Unit {0}) → K (after m (Note (OnRoute r (FlushStarted events))) answer)

-- and so it may with the events that were read, after the read of its chunk's content
abbrev pub ReadsBy : (P K : CrashPoint → Type 0) → Route → CrashPoint → Kept → Type 0
ReadsBy P K r m kept = HoldsThroughout LeadsTo P (λ answer end. (logged end.past ≡ logged m.past) × (K end × ((bytes : List ℕ) → answer ≡ Some bytes → MayBeginBy K r (events_in bytes).0 end))) m (on_disk (read_content_program kept))

-- The conditions on two properties for the traversal of a run: the first holds at each point, and the
-- second between actions.
pub record CanTraverse (s : AllSettings) (P K : CrashPoint → Type 0) : Type 0 where
  pub now : (m : CrashPoint) → K m → P m
  pub still : (call : Call) (answer : Answer call) (m : CrashPoint) → IsLoopOrFiles call → K m → K (after m call answer)
  pub plain : (fact : Fact) (answer : Unit {0}) (m : CrashPoint) → IsSimple fact → K m → K (after m (Note fact) answer)
  pub memory : (r : Route) (bytes : List ℕ) (m : CrashPoint) → kept_of s (logged m.past) r.chunk ≡ Some (InMemory bytes) → K m → MayBeginBy K r (records_of (logged m.past) r.chunk) m
  pub reads : (r : Route) (head : ChunkHead) (m : CrashPoint) → may_start s (logged m.past) r ≡ true → kept_of s (logged m.past) r.chunk ≡ Some (InFile head) → K m → ReadsBy P K r m (InFile head)
  pub finds : (r : Route) (head : ChunkHead) (m : CrashPoint) → may_start s (logged m.past) r ≡ true → kept_of s (logged m.past) r.chunk ≡ Some (Adopted head) → K m → ReadsBy P K r m (Adopted head)
  pub drops : (chunk : ℕ) (m : CrashPoint) → owes s (logged m.past) chunk ≡ false → K m → ReturnsHistoryBy P K m (drops s chunk (logged m.past))
  pub records : (r : Route) (m : CrashPoint) → owes s (logged m.past) r.chunk ≡ true → is_resolved s (logged m.past) r ≡ true → K m → ReturnsHistoryBy P K m (records s r (logged m.past))
  pub appends : (b : Batch) (c : ChunkInfo) (m : CrashPoint) → IsToStore s b → IsWritable b → open_chunk (logged m.past) b.input b.tag ≡ Some c → K m
      → ((end : CrashPoint) → P end → (nat_le full_chunk (size (logged end.past) c.number) ≡ false → K end) → ((answer : Unit {0}) → K (after end (Note (ChunkClosed c.number)) answer)) → TakenBy P K end (bind (closes_if_full s c.number (logged end.past)) taken))
      → ((end : CrashPoint) → P end → ((answer : Unit {0}) → K (after end (Note (ChunkClosed c.number)) answer)) → TakenBy P K end (bind (closes_chunk s c.number (logged end.past)) ends_refused))
      → TakenBy P K m (appends s b c.number (logged m.past))
  pub begins : (b : Batch) (m : CrashPoint) → IsToStore s b → IsWritable b → open_chunk (logged m.past) b.input b.tag ≡ None → nat_lt (next (logged m.past)) numbers_end ≡ true → K m
      → ((end : CrashPoint) → P end → (nat_le full_chunk (size (logged end.past) (next (logged m.past))) ≡ false → K end) → ((answer : Unit {0}) → K (after end (Note (ChunkClosed (next (logged m.past)))) answer)) → TakenBy P K end (bind (closes_if_full s (next (logged m.past)) (logged end.past)) taken))
      → TakenBy P K m (starts_chunk s b (next (logged m.past)) (logged m.past))

module _ (P : CrashPoint → Type 0) where
  -- an entry that changes no file
  pub holds_ask : {R : Type 0} (Q : R → CrashPoint → Type 0) (m : CrashPoint) (call : Call) (go : Answer call → Action R) → IsStaying call → P m
      → ((answer : Answer call) → HoldsThroughout LeadsTo P Q (after m call answer) (go answer)) → HoldsThroughout LeadsTo P Q m (Ask call go)
  holds_ask {R = R} Q m call go staying safe more = (
    safe,
    λ answer during end passes.
        let both = passes_stay call answer m during end staying passes in
        (subst P (sym both.0) safe, subst (λ (x : CrashPoint). HoldsThroughout LeadsTo P Q x (go answer)) (sym both.1) (more answer)),
  )

  pub holds_if : {R : Type 0} (Q : R → CrashPoint → Type 0) (b : Bool) (m : CrashPoint) (p q : Action R) → (b ≡ true → HoldsThroughout LeadsTo P Q m p) → (b ≡ false → HoldsThroughout LeadsTo P Q m q) → HoldsThroughout LeadsTo P Q m (cond b p q)
  holds_if Q true m p q first second = first refl
  holds_if Q false m p q first second = second refl

module _ (s : AllSettings) (P K : CrashPoint → Type 0) (can : CanTraverse s P K) where
  -- a plain fact is logged
  pub deed : {R : Type 0} (Q : R → CrashPoint → Type 0) (fact : Fact) (m : CrashPoint) (next : History → Action R) → IsSimple fact → K m
      → ((answer : Unit {0}) → K (after m (Note fact) answer) → HoldsThroughout LeadsTo P Q (after m (Note fact) answer) (next (fact ∷ logged m.past))) → HoldsThroughout LeadsTo P Q m (note_then fact (logged m.past) next)
  deed Q fact m next plain kept more =
      holds_ask P Q m (Note fact) (λ _. next (fact ∷ logged m.past)) tt (can.now m kept) (λ answer. more answer (can.plain fact answer m plain kept))

  pub nothing : (m : CrashPoint) → K m → ReturnsHistoryBy P K m (Return (logged m.past))
  nothing m kept = (can.now m kept, (refl, kept))

  pub only : (fact : Fact) (m : CrashPoint) → IsSimple fact → K m → ReturnsHistoryBy P K m (note fact (logged m.past))
  only fact m plain kept = deed (λ (h : History) (end : CrashPoint). (h ≡ logged end.past) × K end) fact m (λ h. Return h) plain kept (λ answer then. nothing (after m (Note fact) answer) then)

  -- a call on the loop or on files
  pub ask : {R : Type 0} (Q : R → CrashPoint → Type 0) (m : CrashPoint) (call : Call) (go : Answer call → Action R) → IsStaying call → IsLoopOrFiles call → K m
      → ((answer : Answer call) → K (after m call answer) → HoldsThroughout LeadsTo P Q (after m call answer) (go answer)) → HoldsThroughout LeadsTo P Q m (Ask call go)
  ask Q m call go staying beside kept more = holds_ask P Q m call go staying (can.now m kept) (λ answer. more answer (can.still call answer m beside kept))

  pub loop_rests : {R : Type 0} (p : LoopProgram R) (m : CrashPoint) (h : History) → logged m.past ≡ h → K m → HoldsThroughout LeadsTo P (λ (x : R) (end : CrashPoint). (logged end.past ≡ h) × K end) m (on_loop p)
  loop_rests (Return x) m h same kept = (can.now m kept, (same, kept))
  loop_rests {R = R} (Ask call go) m h same kept =
      ask (λ (x : R) (end : CrashPoint). (logged end.past ≡ h) × K end) m (OnLoop call) (λ answer. on_loop (go answer)) tt tt kept
      (λ answer then. loop_rests (go answer) (after m (OnLoop call) answer) h same then)

  pub files_rests : {R : Type 0} (p : FilesProgram R) (m : CrashPoint) (h : History) → logged m.past ≡ h → K m → HoldsThroughout LeadsTo P (λ (x : R) (end : CrashPoint). (logged end.past ≡ h) × K end) m (on_files p)
  files_rests (Return x) m h same kept = (can.now m kept, (same, kept))
  files_rests {R = R} (Ask call go) m h same kept =
      ask (λ (x : R) (end : CrashPoint). (logged end.past ≡ h) × K end) m (OnFiles call) (λ answer. on_files (go answer)) tt tt kept
      (λ answer then. files_rests (go answer) (after m (OnFiles call) answer) h same then)

  -- an action, and then the continuation of the history so far
  pub tells_then : {R : Type 0} (Q : R → CrashPoint → Type 0) (m : CrashPoint) (p : Action History) (next : History → Action R) → ReturnsHistoryBy P K m p
      → ((end : CrashPoint) → K end → HoldsThroughout LeadsTo P Q end (next (logged end.past))) → HoldsThroughout LeadsTo P Q m (bind p next)
  tells_then Q m p next first second =
      holds_bind LeadsTo P (λ (h : History) (end : CrashPoint). (h ≡ logged end.past) × K end) Q m p next first
      (λ h end is. subst (λ (x : History). HoldsThroughout LeadsTo P Q end (next x)) (sym is.0) (second end is.1))

  -- calls that log nothing, and then the continuation of their answer
  pub rests_then : {R T : Type 0} (Q : T → CrashPoint → Type 0) (m : CrashPoint) (p : Action R) (next : R → History → Action T) → LogsNothingBy P K m p
      → ((x : R) (end : CrashPoint) → logged end.past ≡ logged m.past → K end → HoldsThroughout LeadsTo P Q end (next x (logged end.past))) → HoldsThroughout LeadsTo P Q m (bind p (λ (x : R). next x (logged m.past)))
  rests_then {R = R} Q m p next first second =
      holds_bind LeadsTo P (λ (x : R) (end : CrashPoint). (logged end.past ≡ logged m.past) × K end) Q m p (λ (x : R). next x (logged m.past)) first
      (λ x end is. subst (λ (h : History). HoldsThroughout LeadsTo P Q end (next x h)) is.0 (second x end is.0 is.1))
