-- Traversal of a run: each crash point of it is safe.
use Rattle.std.proofs.Common.{◌≡◌, ℕ, zero, suc, true, List, [], ◌∷◌, Option, Some, None, sym, subst}
use Rattle.fwd_outside.specs.Program.{Return, Ask, Execution}
use Rattle.fwd_outside.specs.AtCrashPoints.{HoldsThroughout, AtCrashPoints, Ends as MomentEnds}
use Rattle.fwd_outside.proofs.CrashPointLemmas.{holds_bind, holds_weaker, holds_moments, holds_end}
use Rattle.fwd_outside.specs.Loop.{Start, Wait}
use Rattle.fwd_outside.specs.declared.ends.Ends.{Ends}
use Rattle.fwd_outside.specs.declared.happening.Happening.{Happening}
use Rattle.fwd_outside.specs.declared.happening.Happening.TheVariants as happening
use Rattle.fwd_outside.specs.DiskStates.{Files}
use Rattle.fwd_backlog.specs.Recovered.{AreDurable}
use Rattle.fwd_settings.specs.declared.settings_types.AllSettings.{AllSettings}
use Rattle.fwd_settings.specs.Requirements.{MeetsRequirements}
use Rattle.fwd_model.specs.Fact.{History, Happened}
use Rattle.fwd_model.specs.Trace.{Call, Action, Answer, TraceEntry, OnLoop, OnDisk, OnFiles, OnKeeper, Note}
use Rattle.fwd_model.specs.Settings.{saturating_plus}
use Rattle.fwd_model.specs.Clock.{clock}
use Rattle.fwd_model.specs.Limits.{paused}
use Rattle.fwd_model.specs.StepActions.{handles, step}
use Rattle.fwd_model.specs.RecoveryActions.{recovers}
use Rattle.fwd_model.specs.KeptOffsets.{tracked}
use Rattle.fwd_model.specs.Run.{RunResult, lived, Over, KeeperFailed, is_over, goes_on, steps_on, is_last_tick, unless_last, after_step, brought, run, after_start, starts, after_recovery, life}
use Rattle.fwd_theorem_trace.specs.Past.{Past, logged, past_after}
use Rattle.fwd_theorem_trace.specs.Allowed.{IsStart, IsAllowed, Allowed}
use Rattle.fwd_theorem_trace.proofs.Run.{loading_is_start, due_since}
use Rattle.fwd_theorem_crash.specs.CrashPoint.{CrashPoint, crash_point, LeadsTo}
use Rattle.fwd_theorem_crash.specs.Safety.{IsSafe}
use Rattle.fwd_theorem_crash.specs.FlushEvents.{FlushesSendTheirChunks}
use Rattle.fwd_theorem_crash.specs.StepBoundaries.{IsOffsetCall}
use Rattle.fwd_theorem_crash.proofs.RunTraversal.{after, IsLoopOrFiles, ReturnsHistoryBy, CanTraverse, holds_if, deed, ask, tells_then}
use Rattle.fwd_theorem_crash.proofs.OffsetTraversal.{CanKeep, puts_on, gets_on}
use Rattle.fwd_theorem_crash.proofs.Input.{tells_happens}
use Rattle.fwd_theorem_crash.proofs.LoadingSafety.{LoadedAs, loading_holds}
use Rattle.fwd_theorem_crash.proofs.DiskPoints.{Ordered, Safe, Kept, safe_now, plain_kept}
use Rattle.fwd_theorem_crash.proofs.SimpleFacts.{offset_simple, hands_at_first}
use Rattle.fwd_theorem_crash.proofs.FlushReads.{memory_begins, file_begins, found_begins}
use Rattle.fwd_theorem_crash.proofs.Removal.{drops_well}
use Rattle.fwd_theorem_crash.proofs.RecordOutcome.{records_well}
use Rattle.fwd_theorem_crash.proofs.NewChunk.{begins_well}
use Rattle.fwd_theorem_crash.proofs.Append.{appends_well}

module _ (s : AllSettings) (settings : MeetsRequirements s) (full : s.service.full ≡ true) (first : Files) where
  still_kept : (call : Call) (answer : Answer call) (m : CrashPoint) → IsLoopOrFiles call → Kept s first m → Kept s first (after m call answer)
  still_kept (OnLoop call) answer m beside kept due = kept due.1
  still_kept (OnFiles call) answer m beside kept due = kept due.1
  still_kept (OnDisk call) answer m beside kept due = absurd beside
  still_kept (OnKeeper call) answer m beside kept due = absurd beside
  still_kept (Note fact) answer m beside kept due = absurd beside

  pub can_walk : CanTraverse s (Safe s first) (Kept s first)
  can_walk = record {
    now = safe_now s first;
    still = still_kept;
    plain = λ fact answer m plain kept. plain_kept s first fact answer m plain kept;
    memory = λ r bytes m held kept. memory_begins s first r m kept bytes held;
    reads = λ r head m may held kept. file_begins s first r m kept may head held;
    finds = λ r head m may held kept. found_begins s first r m kept may head held;
    drops = λ chunk m done kept. drops_well s first chunk m done kept;
    records = λ r m owed resolved kept. records_well s settings full first r m owed resolved kept;
    appends = λ b c m store writable found kept fills_on shuts_on. appends_well s settings full first b c m store writable found kept fills_on shuts_on;
    begins = λ b m store writable none left kept fills_on. begins_well s settings first b m store writable none left kept fills_on;
  }

  still_offset : (call : Call) (answer : Answer call) (m : CrashPoint) → IsOffsetCall call → IsAllowed s call m.past → Kept s first m → Kept s first (after m call answer)
  still_offset (OnLoop call) answer m of allowed kept due = absurd of
  still_offset (OnDisk call) answer m of allowed kept due = absurd of
  still_offset (OnFiles call) answer m of allowed kept due = absurd of
  still_offset (OnKeeper call) answer m of allowed kept due = kept due.1
  still_offset (Note fact) answer m of allowed kept due = plain_kept s first fact answer m (offset_simple fact of) kept due

  pub can_keep : CanKeep s (Safe s first) (Kept s first)
  can_keep = record { now = safe_now s first; still = still_offset }

  -- at the end, each flush began with the events of its chunk
  abbrev Any : RunResult → CrashPoint → Type 0
  Any l end = Allowed s end.past → FlushesSendTheirChunks s (logged end.past)

  hands_now : (m : CrashPoint) → Kept s first m → Allowed s m.past → FlushesSendTheirChunks s (logged m.past)
  hands_now m kept due = (kept due).hands

  abbrev Lives : CrashPoint → Action RunResult → Type 0
  Lives m p = HoldsThroughout LeadsTo (Safe s first) Any m p

  pub tells_step : (brings : Happening) (m : CrashPoint) → Kept s first m → ReturnsHistoryBy (Safe s first) (Kept s first) m (step s brings (logged m.past))
  unfolding step
  tells_step brings m kept =
      deed s (Safe s first) (Kept s first) can_walk (λ (h : History) (end : CrashPoint). (h ≡ logged end.past) × Kept s first end) (Happened brings) m (handles s (logged m.past) brings) tt kept
      (λ answer then. tells_happens s settings (Safe s first) (Kept s first) can_walk (logged m.past) brings (after m (Note (Happened brings)) answer) then)

  abbrev Goes : (History → Action RunResult) → Type 0
  Goes next = (end : CrashPoint) → Kept s first end → Lives end (next (logged end.past))

  lives_on : (next : History → Action RunResult) (brings : Happening) → Goes next → Goes (goes_on s next brings)
  lives_on next brings more end kept =
      holds_if (Safe s first) Any (is_over s brings (logged end.past)) end (Return (lived (logged end.past) Over)) (next (logged end.past))
      (λ over. (safe_now s first end kept, hands_now end kept)) (λ on. more end kept)

  lives_step : (next : History → Action RunResult) (brings : Happening) (m : CrashPoint) → Goes next → Kept s first m → Lives m (steps_on s next brings (logged m.past))
  lives_step next brings m more kept =
      tells_then s (Safe s first) (Kept s first) can_walk Any m (step s brings (logged m.past)) (goes_on s next brings) (tells_step brings m kept) (lives_on next brings more)

  lives_unless_last : (ticks : Option ℕ) (next : History → Action RunResult) (brings : Happening) (m : CrashPoint) → Goes next → Kept s first m → Lives m (unless_last s ticks next brings (logged m.past))
  lives_unless_last ticks next brings m more kept =
      holds_if (Safe s first) Any (is_last_tick s ticks brings (logged m.past)) m (steps_on s next happening.Stop (logged m.past)) (next (logged m.past))
      (λ last. lives_step next happening.Stop m more kept) (λ no. more m kept)

  lives_brought : (ticks : Option ℕ) (next : History → Action RunResult) (m : CrashPoint) (brings : Happening) → Goes next → Kept s first m → Lives m (brought s ticks next (logged m.past) brings)
  lives_brought ticks next m happening.Failed more kept = (safe_now s first m kept, hands_now m kept)
  lives_brought ticks next m brings more kept =
      let rest : History → Action RunResult = unless_last s ticks next brings in
      tells_then s (Safe s first) (Kept s first) can_walk Any m (step s brings (logged m.past)) (after_step s ticks next brings) (tells_step brings m kept)
      (puts_on s (Safe s first) (Kept s first) can_keep Any (tracked s) (goes_on s rest brings) (λ t has. has) (lives_on rest brings (λ end then. lives_unless_last ticks next brings end more then)))

  lives_run : (ticks : Option ℕ) (turns : ℕ) (m : CrashPoint) → Kept s first m → Lives m (run s ticks turns (logged m.past))
  unfolding run
  lives_run ticks zero m kept = (safe_now s first m kept, hands_now m kept)
  lives_run ticks (suc turns) m kept =
      ask s (Safe s first) (Kept s first) can_walk Any m (OnLoop (Wait (saturating_plus (clock (logged m.past)) 250) (paused s (logged m.past)))) (brought s ticks (run s ticks turns) (logged m.past)) tt tt kept
      (λ brings then.
      lives_brought ticks (run s ticks turns) (after m (OnLoop (Wait (saturating_plus (clock (logged m.past)) 250) (paused s (logged m.past)))) brings) brings (λ end last. lives_run ticks turns end last) then)

  lives_started : (ticks : Option ℕ) (turns : ℕ) (m : CrashPoint) (ready : Option (Unit {0})) → Kept s first m → Lives m (after_start s ticks turns (logged m.past) ready)
  lives_started ticks turns m None kept = (safe_now s first m kept, hands_now m kept)
  lives_started ticks turns m (Some ready) kept = lives_run ticks turns m kept

  lives_starts : (ends : Ends) (ticks : Option ℕ) (turns : ℕ) → Goes (starts s ends ticks turns)
  lives_starts ends ticks turns m kept =
      ask s (Safe s first) (Kept s first) can_walk Any m (OnLoop (Start ends)) (after_start s ticks turns (logged m.past)) tt tt kept
      (λ ready then. lives_started ticks turns (after m (OnLoop (Start ends)) ready) ready then)

  abbrev pub Found : Option History → CrashPoint → Type 0
  Found found m = (m.files ≡ first) × LoadedAs s first found m

  pub loaded_kept : (h : History) (m : CrashPoint) → Found (Some h) m → Kept s first m
  loaded_kept h m loaded =
      let is = loaded.1 in
      λ due. subst (λ (x : History). Ordered s first x m.files) is.0 (subst (λ (files : Files). Ordered s first h files) (sym loaded.0) (record { order = is.1; room = is.2; hands = hands_at_first s h is.3 }))

  lives_begun : (ends : Ends) (ticks : Option ℕ) (turns : ℕ) (found : Option History) (m : CrashPoint) → IsSafe s first m → Found found m → Lives m (after_recovery s ends ticks turns found)
  lives_begun ends ticks turns None m safe loaded = (λ due. safe, λ due. subst (FlushesSendTheirChunks s) (sym loaded.1) tt)
  lives_begun ends ticks turns (Some h) m safe loaded =
      let is = loaded.1 in
      let kept : Kept s first m = loaded_kept h m loaded in
      subst (λ (x : History). Lives m (after_recovery s ends ticks turns (Some x))) (sym is.0)
      (gets_on s (Safe s first) (Kept s first) can_keep Any (tracked s) (λ (now : History). Return (lived now KeeperFailed)) (starts s ends ticks turns)
      (λ end start then. (safe_now s first end then, hands_now end then)) (λ end start then. lives_starts ends ticks turns end then) m (subst IsStart is.0 (loading_is_start h is.3)) kept)

  -- what holds at each point holds at the end too
  at_end : {R : Type 0} (P : CrashPoint → Type 0) (Q : R → CrashPoint → Type 0) (m : CrashPoint) (p : Action R) → HoldsThroughout LeadsTo P Q m p → HoldsThroughout LeadsTo P (λ x end. P end × Q x end) m p
  at_end P Q m (Return x) holds = (holds.0, (holds.0, holds.1))
  at_end P Q m (Ask call go) holds = (holds.0, λ answer during end passes. let went = holds.1 answer during end passes in (went.0, at_end P Q end (go answer) went.1))

  pub loaded_safe : AreDurable first → HoldsThroughout LeadsTo (Safe s first) (λ found m. IsSafe s first m × Found found m) (crash_point [] first) (recovers s)
  loaded_safe fresh =
      holds_weaker LeadsTo (IsSafe s first) (Safe s first) (λ found m. IsSafe s first m × Found found m) (λ found m. IsSafe s first m × Found found m) (crash_point [] first) (recovers s)
      (λ m safe due. safe) (λ found m is. is) (at_end (IsSafe s first) Found (crash_point [] first) (recovers s) (loading_holds s first settings fresh))

  pub lives : (ends : Ends) (ticks : Option ℕ) (turns : ℕ) → AreDurable first → Lives (crash_point [] first) (life s ends ticks turns)
  unfolding life
  lives ends ticks turns fresh =
      holds_bind LeadsTo (Safe s first) (λ found m. IsSafe s first m × Found found m) Any (crash_point [] first) (recovers s) (after_recovery s ends ticks turns)
      (loaded_safe fresh) (λ found m is. lives_begun ends ticks turns found m is.0 is.1)

  -- ---- along the way of a run

  due_before : (past : Past) (es : List TraceEntry) → Allowed s (past_after past es) → Allowed s past
  due_before past [] due = due
  due_before past (e ∷ es) due = (due_before (e ∷ past) es due).1

  pub safe_along : (m : CrashPoint) (es : List TraceEntry) → Allowed s (past_after m.past es) → AtCrashPoints LeadsTo (Safe s first) m es → AtCrashPoints LeadsTo (IsSafe s first) m es
  safe_along m [] due moments = moments due
  safe_along m (e ∷ es) due moments = (
    moments.0 (due_before m.past (e ∷ es) due),
    λ during end passes.
        let went = moments.1 during end passes in (
          went.0 (subst (Allowed s) (sym passes.1) (due_before m.past (e ∷ es) due)),
          safe_along end es (subst (λ (past : Past). Allowed s (past_after past es)) (sym passes.2) due) went.1,
        ),
  )

  pub all_safe : (ends : Ends) (ticks : Option ℕ) (turns : ℕ) (es : List TraceEntry) (left : Action RunResult) → AreDurable first → Execution (life s ends ticks turns) es left → AtCrashPoints LeadsTo (IsSafe s first) (crash_point [] first) es
  all_safe ends ticks turns es left fresh way =
      safe_along (crash_point [] first) es (due_since s ends ticks turns es left way)
      (holds_moments LeadsTo (Safe s first) Any (crash_point [] first) (life s ends ticks turns) (lives ends ticks turns fresh) es left way)

  -- at the end of a run
  pub hands_at_end : (ends : Ends) (ticks : Option ℕ) (turns : ℕ) (es : List TraceEntry) (end : RunResult) (last : CrashPoint) → AreDurable first → Execution (life s ends ticks turns) es (Return end) → MomentEnds LeadsTo (crash_point [] first) es last
      → last.past ≡ past_after [] es → FlushesSendTheirChunks s (logged last.past)
  hands_at_end ends ticks turns es end last fresh way along is =
      holds_end LeadsTo (Safe s first) Any (crash_point [] first) (life s ends ticks turns) (lives ends ticks turns fresh) es end last way along
      (subst (Allowed s) (sym is) (due_since s ends ticks turns es (Return end) way))
