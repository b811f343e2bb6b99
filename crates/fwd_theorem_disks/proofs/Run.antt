-- Traversal of a run after its recovery: at each point of it the disk in memory gave all answers so far.
use Rattle.std.proofs.Common.{◌≡◌, ℕ, ◌-◌, ◌^◌, ◌≤◌, zero, suc, List, [], ◌∷◌, ◌++◌, length, take, Option, Some, None, refl, sym, ◌∙◌, ap, subst, arith, length-append}
use Rattle.std.proofs.lemmas.List.{take_at}
use Rattle.fwd_outside.specs.Program.{Return, bind, Execution}
use Rattle.fwd_outside.specs.AtCrashPoints.{HoldsThroughout, AtCrashPoints, Ends}
use Rattle.fwd_outside.proofs.CrashPointLemmas.{holds_moments, holds_end}
use Rattle.fwd_outside.proofs.Executions.{way_trans, way_bind}
use Rattle.fwd_outside.specs.Loop.{Start, Wait}
use Rattle.fwd_outside.specs.declared.ends.Ends.{Ends as InputEnds}
use Rattle.fwd_outside.specs.declared.happening.Happening.{Happening}
use Rattle.fwd_outside.specs.declared.happening.Happening.TheVariants as happening
use Rattle.fwd_outside.specs.DiskStates.{Files}
use Rattle.fwd_settings.specs.declared.settings_types.AllSettings.{AllSettings}
use Rattle.fwd_settings.specs.Requirements.{MeetsRequirements}
use Rattle.fwd_model.specs.Fact.{History, Happened}
use Rattle.fwd_model.specs.Trace.{Call, Action, Answer, TraceEntry, OnLoop, OnDisk, OnFiles, OnKeeper, Note, disk_part}
use Rattle.fwd_model.specs.Settings.{saturating_plus}
use Rattle.fwd_model.specs.Clock.{clock}
use Rattle.fwd_model.specs.Limits.{paused}
use Rattle.fwd_model.specs.Chunks.{records}
use Rattle.fwd_model.specs.StepActions.{handles, step}
use Rattle.fwd_model.specs.RecoveryActions.{recovers}
use Rattle.fwd_model.specs.KeptOffsets.{tracked}
use Rattle.fwd_model.specs.Run.{RunResult, lived, Over, KeeperFailed, is_over, goes_on, steps_on, is_last_tick, unless_last, after_step, brought, run, after_start, starts, after_recovery, life}
use Rattle.fwd_theorem_trace.specs.Past.{Past, logged, past_after}
use Rattle.fwd_theorem_trace.specs.Allowed.{IsStart, IsAllowed, Allowed}
use Rattle.fwd_theorem_trace.proofs.Run.{loading_is_start, due_since}
use Rattle.fwd_theorem_crash.specs.CrashPoint.{CrashPoint, crash_point, LeadsTo}
use Rattle.fwd_theorem_crash.specs.StepBoundaries.{IsOffsetCall}
use Rattle.fwd_theorem_crash.proofs.OrderInvariant.{head_of}
use Rattle.fwd_theorem_crash.proofs.RunTraversal.{after, IsLoopOrFiles, ReturnsHistoryBy, CanTraverse, holds_if, deed, ask, tells_then}
use Rattle.fwd_theorem_crash.proofs.OffsetTraversal.{CanKeep, puts_on, gets_on}
use Rattle.fwd_theorem_crash.proofs.Input.{tells_happens}
use Rattle.fwd_theorem_crash.proofs.SimpleFacts.{offset_simple}
use Rattle.fwd_theorem_crash.proofs.Completion.{past_is}
use Rattle.fwd_theorem_content.specs.KnownNames.{NamesAreKnown}
use Rattle.fwd_theorem_content.proofs.Loading.{Loaded, loads}
use Rattle.fwd_theorem_content.proofs.Points.{Hands}
use Rattle.fwd_theorem_content.proofs.SyncedDisk.{synced_files, are_durable, leads_synced}
use Rattle.fwd_theorem_disks.specs.InMemory.{number_after_recovery, AnswersAsInMemory}
use Rattle.fwd_theorem_disks.proofs.MemFiles.{mem, AllRight}
use Rattle.fwd_theorem_disks.proofs.Numbers.{in_order, in_memory}
use Rattle.fwd_theorem_disks.proofs.Fits.{Fits, fits_at_first}
use Rattle.fwd_theorem_disks.proofs.Points.{Shows, Keeps, shows_now, stays_kept, plain_kept}
use Rattle.fwd_theorem_disks.proofs.ContentReads.{begins_at, file_begins, found_begins}
use Rattle.fwd_theorem_disks.proofs.Removal.{drops_well}
use Rattle.fwd_theorem_disks.proofs.OutcomeRecord.{records_well}
use Rattle.fwd_theorem_disks.proofs.Append.{appends_well}
use Rattle.fwd_theorem_disks.proofs.NewChunk.{begins_well}

module _ (s : AllSettings) (settings : MeetsRequirements s) (base : Past) where
  abbrev P : CrashPoint → Type 0
  P m = Shows s base m

  abbrev K : CrashPoint → Type 0
  K m = Keeps s base m

  still_kept : (call : Call) (answer : Answer call) (m : CrashPoint) → IsLoopOrFiles call → K m → K (after m call answer)
  still_kept (OnLoop call) answer m on keeps = stays_kept s base (OnLoop call) answer m (λ files. refl) (λ files. tt) refl keeps
  still_kept (OnFiles call) answer m on keeps = stays_kept s base (OnFiles call) answer m (λ files. refl) (λ files. tt) refl keeps
  still_kept (OnDisk call) answer m on keeps = absurd on
  still_kept (OnKeeper call) answer m on keeps = absurd on
  still_kept (Note fact) answer m on keeps = absurd on

  can_walk : CanTraverse s P K
  can_walk = record {
    now = shows_now s base;
    still = still_kept;
    plain = λ fact answer m plain keeps. plain_kept s base fact answer m plain keeps;
    memory = λ r bytes m held keeps. begins_at s base r (records (logged m.past) r.chunk) m keeps;
    reads = λ r head m may held keeps. file_begins s base r m keeps head (ap head_of held);
    finds = λ r head m may held keeps. found_begins s base r m keeps head (ap head_of held);
    drops = λ chunk m done keeps. drops_well s base chunk m keeps;
    records = λ r m owed resolved keeps. records_well s base r m keeps;
    appends = λ b c m store writable found keeps fills_on shuts_on. appends_well s base b c m found keeps fills_on shuts_on;
    begins = λ b m store writable none left keeps fills_on. begins_well s settings base b m left keeps fills_on;
  }

  still_offset : (call : Call) (answer : Answer call) (m : CrashPoint) → IsOffsetCall call → IsAllowed s call m.past → K m → K (after m call answer)
  still_offset (OnLoop call) answer m of allowed keeps = absurd of
  still_offset (OnDisk call) answer m of allowed keeps = absurd of
  still_offset (OnFiles call) answer m of allowed keeps = absurd of
  still_offset (OnKeeper call) answer m of allowed keeps = stays_kept s base (OnKeeper call) answer m (λ files. refl) (λ files. tt) refl keeps
  still_offset (Note fact) answer m of allowed keeps = plain_kept s base fact answer m (offset_simple fact of) keeps

  can_keep : CanKeep s P K
  can_keep = record { now = shows_now s base; still = still_offset }

  abbrev Any : RunResult → CrashPoint → Type 0
  Any l end = Unit {0}

  abbrev Lives : CrashPoint → Action RunResult → Type 0
  Lives m p = HoldsThroughout LeadsTo P Any m p

  tells_step : (brings : Happening) (m : CrashPoint) → K m → ReturnsHistoryBy P K m (step s brings (logged m.past))
  unfolding step
  tells_step brings m keeps =
      deed s P K can_walk (λ (h : History) (end : CrashPoint). (h ≡ logged end.past) × K end) (Happened brings) m (handles s (logged m.past) brings) tt keeps
      (λ answer then. tells_happens s settings P K can_walk (logged m.past) brings (after m (Note (Happened brings)) answer) then)

  abbrev Continues : (History → Action RunResult) → Type 0
  Continues next = (end : CrashPoint) → K end → Lives end (next (logged end.past))

  lives_on : (next : History → Action RunResult) (brings : Happening) → Continues next → Continues (goes_on s next brings)
  lives_on next brings more end keeps =
      holds_if P Any (is_over s brings (logged end.past)) end (Return (lived (logged end.past) Over)) (next (logged end.past)) (λ over. (keeps.shows, tt)) (λ on. more end keeps)

  lives_step : (next : History → Action RunResult) (brings : Happening) (m : CrashPoint) → Continues next → K m → Lives m (steps_on s next brings (logged m.past))
  lives_step next brings m more keeps = tells_then s P K can_walk Any m (step s brings (logged m.past)) (goes_on s next brings) (tells_step brings m keeps) (lives_on next brings more)

  lives_unless_last : (ticks : Option ℕ) (next : History → Action RunResult) (brings : Happening) (m : CrashPoint) → Continues next → K m → Lives m (unless_last s ticks next brings (logged m.past))
  lives_unless_last ticks next brings m more keeps =
      holds_if P Any (is_last_tick s ticks brings (logged m.past)) m (steps_on s next happening.Stop (logged m.past)) (next (logged m.past)) (λ last. lives_step next happening.Stop m more keeps) (λ no. more m keeps)

  lives_brought : (ticks : Option ℕ) (next : History → Action RunResult) (m : CrashPoint) (brings : Happening) → Continues next → K m → Lives m (brought s ticks next (logged m.past) brings)
  lives_brought ticks next m happening.Failed more keeps = (keeps.shows, tt)
  lives_brought ticks next m brings more keeps =
      let rest : History → Action RunResult = unless_last s ticks next brings in
      tells_then s P K can_walk Any m (step s brings (logged m.past)) (after_step s ticks next brings) (tells_step brings m keeps)
      (puts_on s P K can_keep Any (tracked s) (goes_on s rest brings) (λ t has. has) (lives_on rest brings (λ end then. lives_unless_last ticks next brings end more then)))

  lives_run : (ticks : Option ℕ) (turns : ℕ) (m : CrashPoint) → K m → Lives m (run s ticks turns (logged m.past))
  unfolding run
  lives_run ticks zero m keeps = (keeps.shows, tt)
  lives_run ticks (suc turns) m keeps =
      ask s P K can_walk Any m (OnLoop (Wait (saturating_plus (clock (logged m.past)) 250) (paused s (logged m.past)))) (brought s ticks (run s ticks turns) (logged m.past)) tt tt keeps
      (λ brings then.
      lives_brought ticks (run s ticks turns) (after m (OnLoop (Wait (saturating_plus (clock (logged m.past)) 250) (paused s (logged m.past)))) brings) brings (λ end last. lives_run ticks turns end last) then)

  lives_started : (ticks : Option ℕ) (turns : ℕ) (m : CrashPoint) (ready : Option (Unit {0})) → K m → Lives m (after_start s ticks turns (logged m.past) ready)
  lives_started ticks turns m None keeps = (keeps.shows, tt)
  lives_started ticks turns m (Some ready) keeps = lives_run ticks turns m keeps

  lives_starts : (ends : InputEnds) (ticks : Option ℕ) (turns : ℕ) → Continues (starts s ends ticks turns)
  lives_starts ends ticks turns m keeps =
      ask s P K can_walk Any m (OnLoop (Start ends)) (after_start s ticks turns (logged m.past)) tt tt keeps (λ ready then. lives_started ticks turns (after m (OnLoop (Start ends)) ready) ready then)

  lives_begun : (ends : InputEnds) (ticks : Option ℕ) (turns : ℕ) (m : CrashPoint) → [] ≡ logged m.past → K m → Lives m (after_recovery s ends ticks turns (Some []))
  lives_begun ends ticks turns m none keeps =
      subst (λ (x : History). Lives m (after_recovery s ends ticks turns (Some x))) (sym none)
      (gets_on s P K can_keep Any (tracked s) (λ (now : History). Return (lived now KeeperFailed)) (starts s ends ticks turns) (λ end start then. (then.shows, tt)) (λ end start then. lives_starts ends ticks turns end then) m
      (subst IsStart none (loading_is_start [] tt)) keeps)

  -- what holds at each point holds at the last one
  at_last : (m last : CrashPoint) (es : List TraceEntry) → AtCrashPoints LeadsTo P m es → Ends LeadsTo m es last → P last
  at_last m last [] points along = subst P (sym along) points
  at_last m last (e ∷ es) points along = at_last along.1 last es (points.1 along.0 along.1 along.2).1 along.3

  shown : (ends : InputEnds) (ticks : Option ℕ) (turns : ℕ) (m last : CrashPoint) (es : List TraceEntry) (left : Action RunResult) → [] ≡ logged m.past → K m → Execution (after_recovery s ends ticks turns (Some [])) es left → Ends LeadsTo m es last → P last
  shown ends ticks turns m last es left none keeps way along =
      at_last m last es (holds_moments LeadsTo P Any m (after_recovery s ends ticks turns (Some [])) (lives_begun ends ticks turns m none keeps) es left way) along

-- ---- a run in two parts

parts : (one two : List TraceEntry) (m last : CrashPoint) → Ends LeadsTo m (one ++ two) last → (mid : CrashPoint) × Ends LeadsTo m one mid × Ends LeadsTo mid two last
parts [] two m last along = (m, refl, along)
parts (e ∷ one) two m last along = let rest = parts one two along.1 last along.3 in (rest.0, (along.0, along.1, along.2, rest.1), rest.2)

past_behind : (a base : Past) (es : List TraceEntry) → past_after (a ++ base) es ≡ past_after a es ++ base
past_behind a base [] = refl
past_behind a base (e ∷ es) = past_behind (e ∷ a) base es

front : (xs base : List TraceEntry) → take (length (xs ++ base) - length base) (xs ++ base) ≡ xs
front xs base = take_at xs base (length (xs ++ base) - length base) (omega (arith, length-append xs base))

same_front : (xs ys base : List TraceEntry) → xs ++ base ≡ ys ++ base → xs ≡ ys
same_front xs ys base same = sym (front xs base) ∙ ap (λ (all : List TraceEntry). take (length all - length base) all) same ∙ front ys base

module _ (s : AllSettings) (ends : InputEnds) (ticks : Option ℕ) (turns : ℕ) (start : Files) (recovery trace : List TraceEntry) (left : Action RunResult) (last : CrashPoint) (settings : MeetsRequirements s) (known : NamesAreKnown start)
    (recovers_so : Execution (recovers s) recovery (Return (Some []))) (way : Execution (after_recovery s ends ticks turns (Some [])) trace left) (along : Ends LeadsTo (crash_point [] start) (recovery ++ trace) last) where
  abbrev first : Files
  first = synced_files start

  whole_run : Execution (life s ends ticks turns) (recovery ++ trace) left
  unfolding life
  whole_run =
      way_trans (bind (recovers s) (after_recovery s ends ticks turns)) (after_recovery s ends ticks turns (Some [])) left recovery trace
      (way_bind (recovers s) (Return (Some [])) recovery (after_recovery s ends ticks turns) recovers_so) way

  loaded : (mid : CrashPoint) → Ends LeadsTo (crash_point [] first) recovery mid → Loaded s first (Some []) mid
  loaded mid front_along =
      holds_end LeadsTo (Hands s) (λ (result : Option History) (m : CrashPoint). Loaded s first result m) (crash_point [] first) (recovers s) (loads s first settings (are_durable start)) recovery (Some []) mid recovers_so front_along

  keeps_first : (mid : CrashPoint) → Loaded s first (Some []) mid → Keeps s mid.past mid
  keeps_first mid is = record {
    shows = record { since = []; is = refl; right = λ due. tt };
    fits = λ due. subst (λ (x : History). Fits s x mid.files (mem [])) is.0 (fits_at_first s mid.files is.1);
  }

  right_by : (mid end : CrashPoint) → Ends LeadsTo (crash_point [] first) recovery mid → Ends LeadsTo mid trace end → end.past ≡ past_after [] (recovery ++ trace) → AllRight (past_after [] trace)
  right_by mid end front_along behind_along past =
      let is = loaded mid front_along in
      let shows : Shows s mid.past end = shown s settings mid.past ends ticks turns mid end trace left is.0 (keeps_first mid is) way behind_along in
      let all : AllRight shows.since = shows.right (subst (Allowed s) (sym past) (due_since s ends ticks turns (recovery ++ trace) left whole_run)) in
      let same : shows.since ≡ past_after [] trace = same_front shows.since (past_after [] trace) mid.past (sym shows.is ∙ past_is mid end trace behind_along ∙ past_behind [] mid.past trace) in
      subst AllRight same all

  pub answers_alike : length (disk_part trace) ≤ 2 ^ 64 - 2 → AnswersAsInMemory (number_after_recovery s.service.path) s.service.path trace
  answers_alike few =
      let synced = leads_synced (recovery ++ trace) start last known along in
      let both = parts recovery trace (crash_point [] first) synced.0 synced.1 in
      let all = right_by both.0 synced.0 both.1 both.2 (past_is (crash_point [] first) synced.0 (recovery ++ trace) synced.1) in
      in_memory s.service.path trace few (in_order [] trace all)
