-- Traversal of a run: at each point of it, each flush so far began with the events of its chunk.
use Rattle.std.proofs.Common.{◌≡◌, ℕ, zero, suc, List, [], ◌∷◌, Option, Some, None, sym, ◌∙◌, ap, subst}
use Rattle.fwd_outside.specs.Program.{Return, Execution}
use Rattle.fwd_outside.specs.AtCrashPoints.{HoldsThroughout, AtCrashPoints, Ends as MomentEnds}
use Rattle.fwd_outside.proofs.CrashPointLemmas.{holds_bind, holds_moments}
use Rattle.fwd_outside.specs.Loop.{Start, Wait}
use Rattle.fwd_outside.specs.declared.ends.Ends.{Ends}
use Rattle.fwd_outside.specs.declared.happening.Happening.{Happening}
use Rattle.fwd_outside.specs.declared.happening.Happening.TheVariants as happening
use Rattle.fwd_outside.specs.DiskStates.{Files}
use Rattle.fwd_backlog.specs.Recovered.{AreDurable}
use Rattle.fwd_settings.specs.declared.settings_types.AllSettings.{AllSettings}
use Rattle.fwd_settings.specs.Requirements.{MeetsRequirements}
use Rattle.fwd_model.specs.Fact.{History, Happened}
use Rattle.fwd_model.specs.Trace.{Call, Action, Answer, TraceEntry, OnLoop, OnDisk, OnFiles, OnKeeper, Note, history_after}
use Rattle.fwd_model.specs.Settings.{saturating_plus}
use Rattle.fwd_model.specs.Clock.{clock}
use Rattle.fwd_model.specs.Limits.{paused}
use Rattle.fwd_model.specs.StepActions.{handles, step}
use Rattle.fwd_model.specs.RecoveryActions.{recovers}
use Rattle.fwd_model.specs.KeptOffsets.{tracked}
use Rattle.fwd_model.specs.Run.{RunResult, lived, Over, KeeperFailed, is_over, goes_on, steps_on, is_last_tick, unless_last, after_step, brought, run, after_start, starts, after_recovery, life}
use Rattle.fwd_theorem_trace.specs.Past.{logged, past_after}
use Rattle.fwd_theorem_trace.specs.Allowed.{IsStart, IsAllowed, Allowed}
use Rattle.fwd_theorem_trace.proofs.Run.{loading_is_start, due_since}
use Rattle.fwd_theorem_trace.proofs.Traversal.{noted_since}
use Rattle.fwd_theorem_crash.specs.CrashPoint.{CrashPoint, crash_point, LeadsTo}
use Rattle.fwd_theorem_crash.specs.FlushEvents.{FlushesSendTheirChunks}
use Rattle.fwd_theorem_crash.specs.StepBoundaries.{IsOffsetCall}
use Rattle.fwd_theorem_crash.proofs.RunTraversal.{after, IsLoopOrFiles, ReturnsHistoryBy, CanTraverse, holds_if, deed, ask, tells_then}
use Rattle.fwd_theorem_crash.proofs.OffsetTraversal.{CanKeep, puts_on, gets_on}
use Rattle.fwd_theorem_crash.proofs.Input.{tells_happens}
use Rattle.fwd_theorem_crash.proofs.SimpleFacts.{offset_simple, hands_at_first}
use Rattle.fwd_theorem_crash.proofs.Completion.{past_is}
use Rattle.fwd_theorem_content.proofs.Points.{InOrder, Hands, Kept, hands_now, plain_kept}
use Rattle.fwd_theorem_content.proofs.ContentReads.{memory_begins, file_begins, found_begins}
use Rattle.fwd_theorem_content.proofs.Removal.{drops_well}
use Rattle.fwd_theorem_content.proofs.OutcomeRecord.{records_well}
use Rattle.fwd_theorem_content.proofs.NewChunk.{begins_well}
use Rattle.fwd_theorem_content.proofs.Append.{appends_well}
use Rattle.fwd_theorem_content.proofs.Loading.{Loaded, loads}

module _ (s : AllSettings) (settings : MeetsRequirements s) where
  still_kept : (call : Call) (answer : Answer call) (m : CrashPoint) → IsLoopOrFiles call → Kept s m → Kept s (after m call answer)
  still_kept (OnLoop call) answer m beside kept due = kept due.1
  still_kept (OnFiles call) answer m beside kept due = kept due.1
  still_kept (OnDisk call) answer m beside kept due = absurd beside
  still_kept (OnKeeper call) answer m beside kept due = absurd beside
  still_kept (Note fact) answer m beside kept due = absurd beside

  can_walk : CanTraverse s (Hands s) (Kept s)
  can_walk = record {
    now = hands_now s;
    still = still_kept;
    plain = λ fact answer m plain kept. plain_kept s fact answer m plain kept;
    memory = λ r bytes m held kept. memory_begins s r m kept bytes held;
    reads = λ r head m may held kept. file_begins s r m kept head held;
    finds = λ r head m may held kept. found_begins s r m kept head held;
    drops = λ chunk m done kept. drops_well s chunk m kept;
    records = λ r m owed resolved kept. records_well s r m kept;
    appends = λ b c m store writable found kept fills_on shuts_on. appends_well s b c m found kept fills_on shuts_on;
    begins = λ b m store writable none left kept fills_on. begins_well s settings b m left kept fills_on;
  }

  still_offset : (call : Call) (answer : Answer call) (m : CrashPoint) → IsOffsetCall call → IsAllowed s call m.past → Kept s m → Kept s (after m call answer)
  still_offset (OnLoop call) answer m of allowed kept due = absurd of
  still_offset (OnDisk call) answer m of allowed kept due = absurd of
  still_offset (OnFiles call) answer m of allowed kept due = absurd of
  still_offset (OnKeeper call) answer m of allowed kept due = kept due.1
  still_offset (Note fact) answer m of allowed kept due = plain_kept s fact answer m (offset_simple fact of) kept due

  can_keep : CanKeep s (Hands s) (Kept s)
  can_keep = record { now = hands_now s; still = still_offset }

  abbrev Any : RunResult → CrashPoint → Type 0
  Any l end = Unit {0}

  abbrev Lives : CrashPoint → Action RunResult → Type 0
  Lives m p = HoldsThroughout LeadsTo (Hands s) Any m p

  ends : (l : RunResult) (m : CrashPoint) → Hands s m → Lives m (Return l)
  ends l m hands = (hands, tt)

  tells_step : (brings : Happening) (m : CrashPoint) → Kept s m → ReturnsHistoryBy (Hands s) (Kept s) m (step s brings (logged m.past))
  unfolding step
  tells_step brings m kept =
      deed s (Hands s) (Kept s) can_walk (λ (h : History) (end : CrashPoint). (h ≡ logged end.past) × Kept s end) (Happened brings) m (handles s (logged m.past) brings) tt kept
      (λ answer then. tells_happens s settings (Hands s) (Kept s) can_walk (logged m.past) brings (after m (Note (Happened brings)) answer) then)

  abbrev Goes : (History → Action RunResult) → Type 0
  Goes next = (end : CrashPoint) → Kept s end → Lives end (next (logged end.past))

  lives_on : (next : History → Action RunResult) (brings : Happening) → Goes next → Goes (goes_on s next brings)
  lives_on next brings more end kept =
      holds_if (Hands s) Any (is_over s brings (logged end.past)) end (Return (lived (logged end.past) Over)) (next (logged end.past))
      (λ over. ends (lived (logged end.past) Over) end (hands_now s end kept)) (λ on. more end kept)

  lives_step : (next : History → Action RunResult) (brings : Happening) (m : CrashPoint) → Goes next → Kept s m → Lives m (steps_on s next brings (logged m.past))
  lives_step next brings m more kept =
      tells_then s (Hands s) (Kept s) can_walk Any m (step s brings (logged m.past)) (goes_on s next brings) (tells_step brings m kept) (lives_on next brings more)

  lives_unless_last : (ticks : Option ℕ) (next : History → Action RunResult) (brings : Happening) (m : CrashPoint) → Goes next → Kept s m → Lives m (unless_last s ticks next brings (logged m.past))
  lives_unless_last ticks next brings m more kept =
      holds_if (Hands s) Any (is_last_tick s ticks brings (logged m.past)) m (steps_on s next happening.Stop (logged m.past)) (next (logged m.past))
      (λ last. lives_step next happening.Stop m more kept) (λ no. more m kept)

  lives_brought : (ticks : Option ℕ) (next : History → Action RunResult) (m : CrashPoint) (brings : Happening) → Goes next → Kept s m → Lives m (brought s ticks next (logged m.past) brings)
  lives_brought ticks next m happening.Failed more kept = (hands_now s m kept, tt)
  lives_brought ticks next m brings more kept =
      let rest : History → Action RunResult = unless_last s ticks next brings in
      tells_then s (Hands s) (Kept s) can_walk Any m (step s brings (logged m.past)) (after_step s ticks next brings) (tells_step brings m kept)
      (puts_on s (Hands s) (Kept s) can_keep Any (tracked s) (goes_on s rest brings) (λ t has. has) (lives_on rest brings (λ end then. lives_unless_last ticks next brings end more then)))

  lives_run : (ticks : Option ℕ) (turns : ℕ) (m : CrashPoint) → Kept s m → Lives m (run s ticks turns (logged m.past))
  unfolding run
  lives_run ticks zero m kept = (hands_now s m kept, tt)
  lives_run ticks (suc turns) m kept =
      ask s (Hands s) (Kept s) can_walk Any m (OnLoop (Wait (saturating_plus (clock (logged m.past)) 250) (paused s (logged m.past)))) (brought s ticks (run s ticks turns) (logged m.past)) tt tt kept
      (λ brings then.
      lives_brought ticks (run s ticks turns) (after m (OnLoop (Wait (saturating_plus (clock (logged m.past)) 250) (paused s (logged m.past)))) brings) brings (λ end last. lives_run ticks turns end last) then)

  lives_started : (ticks : Option ℕ) (turns : ℕ) (m : CrashPoint) (ready : Option (Unit {0})) → Kept s m → Lives m (after_start s ticks turns (logged m.past) ready)
  lives_started ticks turns m None kept = (hands_now s m kept, tt)
  lives_started ticks turns m (Some ready) kept = lives_run ticks turns m kept

  lives_starts : (input_ends : Ends) (ticks : Option ℕ) (turns : ℕ) → Goes (starts s input_ends ticks turns)
  lives_starts input_ends ticks turns m kept =
      ask s (Hands s) (Kept s) can_walk Any m (OnLoop (Start input_ends)) (after_start s ticks turns (logged m.past)) tt tt kept
      (λ ready then. lives_started ticks turns (after m (OnLoop (Start input_ends)) ready) ready then)

  module _ (first : Files) where
    loaded_kept : (h : History) (m : CrashPoint) → Loaded s first (Some h) m → Kept s m
    loaded_kept h m loaded due = subst (λ (x : History). InOrder s x m.files) loaded.0 (record { contents = loaded.1; hands = hands_at_first s h loaded.2 })

    lives_begun : (input_ends : Ends) (ticks : Option ℕ) (turns : ℕ) (found : Option History) (m : CrashPoint) → Loaded s first found m → Lives m (after_recovery s input_ends ticks turns found)
    lives_begun input_ends ticks turns None m loaded = (λ due. subst (FlushesSendTheirChunks s) (sym loaded) tt, tt)
    lives_begun input_ends ticks turns (Some h) m loaded =
        subst (λ (x : History). Lives m (after_recovery s input_ends ticks turns (Some x))) (sym loaded.0)
        (gets_on s (Hands s) (Kept s) can_keep Any (tracked s) (λ (now : History). Return (lived now KeeperFailed)) (starts s input_ends ticks turns)
        (λ end start then. (hands_now s end then, tt)) (λ end start then. lives_starts input_ends ticks turns end then) m (subst IsStart loaded.0 (loading_is_start h loaded.2)) (loaded_kept h m loaded))

    lives : (input_ends : Ends) (ticks : Option ℕ) (turns : ℕ) → AreDurable first → Lives (crash_point [] first) (life s input_ends ticks turns)
    unfolding life
    lives input_ends ticks turns fresh =
        holds_bind LeadsTo (Hands s) (λ found m. Loaded s first found m) Any (crash_point [] first) (recovers s) (after_recovery s input_ends ticks turns)
        (loads s first settings fresh) (λ found m is. lives_begun input_ends ticks turns found m is)

    -- what holds at each point holds at the last one
    at_last : (P : CrashPoint → Type 0) (m last : CrashPoint) (es : List TraceEntry) → AtCrashPoints LeadsTo P m es → MomentEnds LeadsTo m es last → P last
    at_last P m last [] points along = subst P (sym along) points
    at_last P m last (e ∷ es) points along = at_last P along.1 last es (points.1 along.0 along.1 along.2).1 along.3

    pub hands_by_then : (input_ends : Ends) (ticks : Option ℕ) (turns : ℕ) (es : List TraceEntry) (left : Action RunResult) (last : CrashPoint) → AreDurable first
        → Execution (life s input_ends ticks turns) es left → MomentEnds LeadsTo (crash_point [] first) es last → FlushesSendTheirChunks s (history_after es [])
    hands_by_then input_ends ticks turns es left last fresh way along =
        let points = holds_moments LeadsTo (Hands s) Any (crash_point [] first) (life s input_ends ticks turns) (lives input_ends ticks turns fresh) es left way in
        let hands : Hands s last = at_last (Hands s) (crash_point [] first) last es points along in
        let is : last.past ≡ past_after [] es = past_is (crash_point [] first) last es along in
        subst (FlushesSendTheirChunks s) (ap logged is ∙ noted_since [] es) (hands (subst (Allowed s) (sym is) (due_since s input_ends ticks turns es left way)))
