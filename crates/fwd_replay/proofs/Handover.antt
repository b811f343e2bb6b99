-- What a run leaves.
use Rattle.std.proofs.Common.{arith, ◌≡◌, ℕ, suc, ◌+◌, ◌-◌, ◌%◌, ◌<◌, ◌≤◌, Bool, true, false, if◌then◌else◌, List, [], ◌∷◌, ◌++◌, length, take, drop, Option, Some, None, Result, Ok, Err, refl, sym, subst, ap, ◌∙◌, append_assoc}
use Rattle.std.proofs.lemmas.List.{append-nil, map-append}
use Rattle.fwd_outside.specs.Program.{Return, Execution}
use Rattle.fwd_outside.specs.declared.happening.Happening.{Happening}
use Rattle.fwd_outside.specs.Loop.{LoopEntry}
use Rattle.fwd_outside.specs.LoopAnswers.{AreLoopAnswers}
use Rattle.fwd_outside.specs.Disk.{DiskEntry}
use Rattle.fwd_outside.specs.Files.{found}
use Rattle.fwd_disk_mem.specs.declared.entry.MemEntry.{MemEntry}
use Rattle.fwd_disk_mem.specs.Images.{picked, reach, prefix_after_mark}
use Rattle.fwd_disk_mem.specs.DiskState.{Seen}
use Rattle.fwd_disk_mem.specs.Entry as disk
use Rattle.fwd_disk_mem.proofs.CallTrace.{split_entries, played_second}
use Rattle.fwd_keeper.specs.Keeper.{KeeperEntry, KeeperGiven}
use Rattle.fwd_keeper_mem.specs.KeeperAnswers as keeper
use Rattle.fwd_keeper_mem.specs.KeeperAnswers.{offsets_after_all}
use Rattle.fwd_keeper_mem.specs.KeeperState.{KeeperState}
use Rattle.fwd_keeper_mem.specs.MemKeeper as kept_log
use Rattle.fwd_keeper_mem.specs.Offsets.{SameOffsets}
use Rattle.fwd_settings.specs.Endpoints.{ends_of}
use Rattle.fwd_settings.specs.declared.settings_types.AllSettings.{AllSettings}
use Rattle.fwd_script.specs.declared.schedule.Cut.{Cut}
use Rattle.fwd_script.specs.declared.schedule.Life.{Life}
use Rattle.fwd_files_mem.specs.FilesState.{FilesState}
use Rattle.fwd_files_mem.specs.FilesAnswers as files_played
use Rattle.fwd_files_mem.specs.MemFiles.{entries_from, files_now}
use Rattle.fwd_model.specs.Fact.{History}
use Rattle.fwd_model.specs.Trace.{Action, TraceEntry, loop_part, disk_part, keeper_part}
use Rattle.fwd_model.specs.CallLogs.{CallLogs, LogsGrew}
use Rattle.fwd_model.specs.Limits.{paused}
use Rattle.fwd_model.specs.Run.{Over, DiskFailed, KeeperFailed, LoopFailed, TurnsSpent, RunResult, lived, life, run, after_step}
use Rattle.fwd_model.specs.StepActions.{step}
use Rattle.fwd_model.proofs.CallLogs.{disk_append}
use Rattle.fwd_engine_run.specs.EngineSteps.{IsAt, Turned, TurnOutcome, is_failed}
use Rattle.fwd_engine_run.specs.Engine.{Engine}
use Rattle.fwd_engine_run.specs.EngineStop.{EngineStop}
use Rattle.fwd_engine_run.specs.EngineStop.TheVariants as stop
use Rattle.fwd_engine_run.specs.Turn.{Turn}
use Rattle.fwd_engine_run.specs.Turn.TheVariants as turn
use Rattle.fwd_engine_run.proofs.RunTurns.{spent}
use Rattle.fwd_theorem_trace.specs.Waits.{waits_in}
use Rattle.fwd_theorem_trace.proofs.WaitCounts.{ArePlain, step_plain}
use Rattle.fwd_replay.specs.FileChanges.{Course, FilesAt, course_after, content_after, is_last_next}
use Rattle.fwd_replay.specs.Runs.{EndsIn, IsAnswered, IsCutIn, InTurn, WasOver, IsLife, Start, course_of, disk_of, first_calls, has_cut}
use Rattle.fwd_replay.specs.Names.{IsNamed, IsNamedOf}
use Rattle.fwd_replay.specs.RunState.{AreRenewed, OffsetsAreRenewed, EndsBy, ProducesText, EndedAs, DevicesAreReady, LoopHasFailed, HaveAnswered, IsCrashed, IsKeyedLoop, IsOver, IsReady, IsInProgress, IsTextOf, RunRepresents, HandsOver, TookTurn, is_out_of_memory, memory, takes_last}
use Rattle.fwd_secure.specs.Handshakes.{Handshakes, no_handshakes}
use Rattle.fwd_secure.specs.Kept.{holds}
use Rattle.fwd_secure.specs.Secure.{Secure}
use Rattle.fwd_secure_settings.specs.Keys.{keys_of}
use Rattle.fwd_secure_trace.specs.Secured.{IsSecured}
use Rattle.fwd_replay.specs.Text.{life_text}
use Rattle.fwd_replay.specs.declared.progress.Going.{Going}
use Rattle.fwd_replay.specs.declared.names.Named.{Named}
use Rattle.fwd_replay.specs.declared.life.LifeEnd.TheVariants as life_end
use Rattle.fwd_replay.specs.declared.life.Next.TheVariants as follow
use Rattle.fwd_replay.specs.declared.report.Ending.{Ending}
use Rattle.fwd_replay.specs.declared.report.Ending.TheVariants as ending
use Rattle.fwd_replay.specs.declared.report.Reported.{Reported}
use Rattle.fwd_replay.specs.declared.report.Shown.{Shown}
use Rattle.fwd_replay.proofs.KeyedTurns.{Grown, grown}
use Rattle.fwd_replay.proofs.ShownText.{text_is}
use Rattle.fwd_replay.proofs.StillCalls.{keeper_append}
use Rattle.fwd_replay.proofs.TurnCalls.{asked_turn, asked_wait, disk_same, turn_failed, turn_stands, turn_stepped, wait_of}
use Rattle.fwd_theorem_crash.specs.StepBoundaries.{takes_event, turn as taken_turn}
use Rattle.fwd_outside.specs.declared.happening.Happening.TheVariants as happening

-- ---- what a run returned

keeper_played : (start : Start) (kept : KeeperState) (trace : List TraceEntry) → kept.given ≡ start.offsets → kept_log.entries_of kept.notes ≡ keeper_part trace → keeper.IsPlayed kept.given [] (kept_log.entries_of kept.notes)
    → keeper.IsPlayed start.offsets [] (keeper_part trace)
keeper_played start kept trace given calls played =
    subst (λ (g : KeeperGiven). keeper.IsPlayed g [] (keeper_part trace)) given (subst (λ (l : List KeeperEntry). keeper.IsPlayed kept.given [] l) calls played)

abbrev pub reported : List ℕ → Ending → Reported
reported text end = record { text = text; ending = end }

rest_is : (taken most : ℕ) → taken ≤ most → taken + (most - taken) ≡ most
rest_is taken most fits = omega (arith, fits)

module _ (s : AllSettings) (start : Start) (planned : Life) where
  answered : (secure : Secure) (taken : ℕ) (seen : Seen) (held : FilesState) (kept : KeeperState) (trace below : List TraceEntry) (left : ℕ → Action RunResult) (at : FilesAt)
      → (stands : RunRepresents s start planned secure taken seen held kept trace below left at) → HaveAnswered seen kept → IsAnswered start planned below stands.asked
  answered secure taken seen held kept trace below left at stands plays = record {
    loop = stands.loop.played;
    are = stands.are;
    disk = played_second [] (disk_of start planned) stands.asked (subst (λ (l : List MemEntry). disk.IsPlayed [] l) stands.disk_is plays.disk);
    files = stands.answered;
    keeper = keeper_played start kept below stands.kept_given stands.kept_calls plays.keeper;
  }

  module _ (going : Going) (seen : Seen) (held : FilesState) (kept : KeeperState) (most : ℕ) (fits : going.taken ≤ most) (plays : HaveAnswered seen kept) where
    -- a run that came to its end, with at most `most` turns
    abbrev is_life : (trace below : List TraceEntry) (comes : RunResult) (at : FilesAt) → RunRepresents s start planned going.secure going.taken seen held kept trace below (λ more. Return comes) at → IsLife s most start planned trace comes
    is_life trace below comes at stands = record {
      way = subst (λ (n : ℕ). Execution (life s (ends_of s) None n) trace (Return comes)) (rest_is going.taken most fits) (stands.way (most - going.taken));
      answers = stands.answers;
      below = below;
      handshakes = going.secure.state;
      secured = stands.secured;
      asked = stands.asked;
      answered = answered going.secure going.taken seen held kept trace below (λ more. Return comes) at stands plays;
      uncut = stands.uncut;
    }

    pub over_ends : (shown : Shown) (over : IsOver s start planned going seen held kept) (text : List ℕ) → planned.cut ≡ None → IsTextOf shown s going.secure.below.call_log over.history text
        → EndsIn shown s most start planned (reported text ending.Over)
    over_ends shown over text uncut is = record {
      trace = over.trace;
      comes = lived over.history Over;
      is = is_life over.trace over.below (lived over.history Over) (course_after (course_of start planned) over.below).files over.stands;
      last = λ _. uncut;
      reports = ap (λ (t : List ℕ). reported t ending.Over) (text_is shown s planned going.secure.below.call_log over.below over.history text over.stands.loop.below is);
    }

    pub failed_ends : (shown : Shown) → LoopHasFailed s start planned going seen held kept → EndsIn shown s most start planned (reported [] ending.LoopFailed)
    failed_ends shown failed = record {
      trace = failed.trace;
      comes = lived failed.history LoopFailed;
      is = is_life failed.trace failed.below (lived failed.history LoopFailed) (course_after (course_of start planned) failed.below).files failed.stands;
      last = λ is. absurd (cc is);
      reports = refl;
    }

  -- a run that has taken all turns
  pub spent_ends : (shown : Shown) (going : Going) (seen : Seen) (held : FilesState) (kept : KeeperState) → HaveAnswered seen kept → (under : IsInProgress s start planned going seen held kept) (text : List ℕ)
      → IsTextOf shown s going.secure.below.call_log under.history text → EndsIn shown s going.taken start planned (reported text ending.TurnsSpent)
  spent_ends shown going seen held kept plays under text is =
      let h = under.history in
      let comes = lived h TurnsSpent in
      let none : going.taken + 0 ≡ going.taken = omega arith in
      record {
        trace = under.trace;
        comes = comes;
        is = record {
          way =
              subst (λ (p : Action RunResult). Execution (life s (ends_of s) None going.taken) under.trace p) (spent s None h)
              (subst (λ (n : ℕ). Execution (life s (ends_of s) None n) under.trace (run s None 0 h)) none (under.stands.way 0));
          answers = under.stands.answers;
          below = under.below;
          handshakes = going.secure.state;
          secured = under.stands.secured;
          asked = under.stands.asked;
          answered = answered going.secure going.taken seen held kept under.trace under.below (λ more. run s None more h) (course_after (course_of start planned) under.below).files under.stands plays;
          uncut = under.stands.uncut;
        };
        last = λ over. absurd (cc over);
        reports = ap (λ (t : List ℕ). reported t ending.TurnsSpent) (text_is shown s planned going.secure.below.call_log under.below h text under.stands.loop.below is);
      }

  -- one that ended before a turn
  pub load_ends : (shown : Shown) (most : ℕ) → EndedAs s start planned (lived [] DiskFailed) → EndsIn shown s most start planned (reported [] ending.DiskFailed)
  load_ends shown most ended = record { trace = ended.trace; comes = lived [] DiskFailed; is = ended.is most; last = λ over. absurd (cc over); reports = refl }

  pub get_ends : (shown : Shown) (most : ℕ) (h : History) → EndedAs s start planned (lived h KeeperFailed) → EndsIn shown s most start planned (reported [] ending.KeeperFailed)
  get_ends shown most h ended = record { trace = ended.trace; comes = lived h KeeperFailed; is = ended.is most; last = λ over. absurd (cc over); reports = refl }

  pub start_ends : (shown : Shown) (most : ℕ) (h : History) → EndedAs s start planned (lived h LoopFailed) → EndsIn shown s most start planned (reported [] ending.LoopFailed)
  start_ends shown most h ended = record { trace = ended.trace; comes = lived h LoopFailed; is = ended.is most; last = λ over. absurd (cc over); reports = refl }

-- ---- the disk after a crash

-- the calls up to some after a position are those before it and the first of those after
until_is : (n : ℕ) (before more : List MemEntry) → prefix_after_mark (length before) n (before ++ more) ≡ before ++ first_calls n more
until_is n [] more = let same : 0 + reach n more ≡ reach n more = omega arith in ap (λ (k : ℕ). take k more) same
until_is n (call ∷ before) more =
    let len = length before in
    let far = reach n (drop len (before ++ more)) in
    let later : suc len + far ≡ suc (len + far) = omega arith in
    ap (λ (k : ℕ). take k (call ∷ before ++ more)) later ∙ ap (λ (l : List MemEntry). call ∷ l) (until_is n before more)

-- the same files and offsets, with empty call logs
finds_next : (next : Start) (image : Seen) (held renewed : FilesState) (kept renewed_kept : KeeperState) → image.calls ≡ next.disk → ((path : List ℕ) → found (files_now held.given held.notes) path ≡ content_after None next.changes path) → AreRenewed held renewed
    → OffsetsAreRenewed kept renewed_kept → renewed_kept.given ≡ next.offsets → DevicesAreReady next image renewed renewed_kept
finds_next next image held renewed kept renewed_kept disk_is has again kept_again offsets =
    record { disk = disk_is; has = λ path. sym (again.same path) ∙ has path; unasked = again.unasked; kept_given = offsets; kept_unasked = kept_again.unasked }

same_offsets : (start : Start) (kept renewed : KeeperState) (trace : List TraceEntry) → kept.given ≡ start.offsets → kept_log.entries_of kept.notes ≡ keeper_part trace → OffsetsAreRenewed kept renewed
    → SameOffsets (offsets_after_all start.offsets (keeper_part trace)) renewed.given
same_offsets start kept renewed trace given calls again =
    subst (λ (g : KeeperGiven). SameOffsets (offsets_after_all g (keeper_part trace)) renewed.given) given
    (subst (λ (l : List KeeperEntry). SameOffsets (offsets_after_all kept.given l) renewed.given) calls again.same)

module _ (s : AllSettings) (start : Start) (planned : Life) where
  -- the calls of a run that is cut: those of its engine and on its devices, before the turn and in it
  pub record Calls (most : ℕ) (cut : Cut) (going : Going) (history : History) (old now : Seen) (held : FilesState) (kept : KeeperState) : Type 0 where
    pub before : List TraceEntry
    pub turn : List TraceEntry
    pub below : List TraceEntry
    pub below_in : List TraceEntry
    pub handshakes : Handshakes
    pub handshakes_last : Handshakes
    pub asked : List MemEntry
    pub asked_in : List MemEntry
    pub is : planned.cut ≡ Some cut
    pub cut_in : IsCutIn s most before history handshakes (course_after (course_of start planned) below) turn
    pub answers : AreLoopAnswers (loop_part (before ++ turn))
    pub secured : IsSecured (keys_of s) no_handshakes before below handshakes
    pub secured_in : IsSecured (keys_of s) handshakes turn below_in handshakes_last
    pub uncut : has_cut start planned below ≡ false
    pub answered : IsAnswered start planned (below ++ below_in) (asked ++ asked_in)
    pub are : disk.entries_of asked ≡ disk_part below
    pub old_is : old.calls ≡ disk_of start planned ++ asked
    pub now_is : now.calls ≡ old.calls ++ asked_in
    pub files : (path : List ℕ) → found (files_now held.given held.notes) path ≡ content_after None (course_after (course_of start planned) (below ++ below_in)).files.changes path
    pub kept_given : kept.given ≡ start.offsets
    pub kept_calls : kept_log.entries_of kept.notes ≡ keeper_part (below ++ below_in)
    pub waits : waits_in (before ++ turn) ≡ going.taken
    pub last : History
    pub at : IsAt going.engine s last

  made_cut : (most since : ℕ) (cut : Cut) (going : Going) (history : History) (old now image : Seen) (held renewed : FilesState) (kept renewed_kept : KeeperState) (calls : Calls most cut going history old now held kept)
      → since ≡ length old.calls → IsCrashed since cut now image → AreRenewed held renewed → OffsetsAreRenewed kept renewed_kept
      → HandsOver s most start planned cut going history calls.below image renewed renewed_kept
  made_cut most since cut going history old now image held renewed kept renewed_kept calls since_is crashed again kept_again =
      let first : List MemEntry = disk_of start planned ++ calls.asked in
      let all : now.calls ≡ first ++ calls.asked_in = calls.now_is ∙ ap (λ (l : List MemEntry). l ++ calls.asked_in) calls.old_is in
      let at : since ≡ length first = since_is ∙ ap (λ (l : List MemEntry). length l) calls.old_is in
      let upto : prefix_after_mark since cut.calls now.calls ≡ first ++ first_calls cut.calls calls.asked_in =
      ap (λ (k : ℕ). prefix_after_mark k cut.calls now.calls) at ∙ ap (λ (l : List MemEntry). prefix_after_mark (length first) cut.calls l) all ∙ until_is cut.calls first calls.asked_in
      in
      let course = course_after (course_of start planned) (calls.below ++ calls.below_in) in
      let next : Start = record { disk = image.calls; changes = course.files.changes; offsets = renewed_kept.given } in
      record {
        cuts = record {
          cut = cut;
          before = calls.before;
          history = history;
          turn = calls.turn;
          below = calls.below;
          below_in = calls.below_in;
          handshakes = calls.handshakes;
          handshakes_last = calls.handshakes_last;
          asked = calls.asked;
          asked_in = calls.asked_in;
          next = next;
        };
        is = record {
          is = calls.is;
          cut_in = calls.cut_in;
          answers = calls.answers;
          secured = calls.secured;
          secured_in = calls.secured_in;
          uncut = calls.uncut;
          answered = calls.answered;
          are = calls.are;
          files = crashed.files;
          disk_is = crashed.is;
          image = λ name. crashed.picks name ∙ ap (λ (l : List MemEntry). picked (cut.pick % 4) l name) upto;
          changes = refl;
          offsets = same_offsets start kept renewed_kept (calls.below ++ calls.below_in) calls.kept_given calls.kept_calls kept_again;
        };
        cut_is = refl;
        history_is = refl;
        below_is = refl;
        finds = finds_next next image held renewed kept renewed_kept refl calls.files again kept_again refl;
        waits = calls.waits;
        now = calls.last;
        at = calls.at;
      }

  -- a run that was over before
  pub over_cut : (going : Going) (seen image : Seen) (held renewed : FilesState) (kept renewed_kept : KeeperState) (most since : ℕ) (cut : Cut) (over : IsOver s start planned going seen held kept) → going.taken ≤ most → HaveAnswered seen kept
      → planned.cut ≡ Some cut → since ≡ length seen.calls → IsCrashed since cut seen image → AreRenewed held renewed → OffsetsAreRenewed kept renewed_kept
      → HandsOver s most start planned cut going over.history over.below image renewed renewed_kept
  over_cut going seen image held renewed kept renewed_kept most since cut over fits plays is since_is crashed again kept_again =
      let trace = over.trace in
      let below = over.below in
      let course = course_of start planned in
      let ended : IsLife s most start planned trace (lived over.history Over) =
      is_life s start planned going seen held kept most fits plays trace below (lived over.history Over) (course_after course below).files over.stands
      in
      let same : below ++ [] ≡ below = append-nil below in
      made_cut most since cut going over.history seen seen image held renewed kept renewed_kept
      (record {
        before = trace;
        turn = [];
        below = below;
        below_in = [];
        handshakes = going.secure.state;
        handshakes_last = going.secure.state;
        asked = over.stands.asked;
        asked_in = [];
        is = is;
        cut_in = WasOver ended.way refl;
        answers = subst (λ (es : List TraceEntry). AreLoopAnswers (loop_part es)) (sym (append-nil trace)) over.stands.answers;
        secured = over.stands.secured;
        secured_in = (refl, refl);
        uncut = over.stands.uncut;
        answered =
            subst (λ (es : List TraceEntry). IsAnswered start planned es (over.stands.asked ++ [])) (sym same)
            (subst (λ (l : List MemEntry). IsAnswered start planned below l) (sym (append-nil over.stands.asked))
            (answered s start planned going.secure going.taken seen held kept trace below (λ more. Return (lived over.history Over)) (course_after course below).files over.stands plays));
        are = over.stands.are;
        old_is = over.stands.disk_is;
        now_is = sym (append-nil seen.calls);
        files = λ path. over.stands.files_stand.has path ∙ ap (λ (es : List TraceEntry). content_after None (course_after course es).files.changes path) (sym same);
        kept_given = over.stands.kept_given;
        kept_calls = over.stands.kept_calls ∙ ap keeper_part (sym same);
        waits = ap waits_in (append-nil trace) ∙ over.stands.waits;
        last = over.history;
        at = over.at;
      })
      since_is crashed again kept_again

-- ---- the turn in which a run is cut

-- a turn that was taken, whatever number of turns is left after it
pub record Taken (a b : CallLogs) (s : AllSettings) (h : History) (after : Engine) : Type 0 where
  pub brought : Happening
  pub entries : List TraceEntry
  pub plain : ArePlain entries
  pub left : ℕ → Action RunResult
  pub ways : (more : ℕ) → Execution (run s None (suc more) h) (wait_of s h brought ∷ entries) (left more)
  pub asked : LogsGrew a b (wait_of s h brought ∷ entries)
  pub now : History
  pub at : IsAt after s now
  pub cut_way : Execution (taken_turn s h) (wait_of s h brought ∷ entries) (Return now)

takes_is : (s : AllSettings) (h : History) (x : Happening) → is_failed x ≡ false → takes_event s h x ≡ step s x h
takes_is s h happening.Failed is = absurd (cc is)
takes_is s h happens is = refl

takes_none : (s : AllSettings) (h : History) (x : Happening) → is_failed x ≡ true → takes_event s h x ≡ Return h
takes_none s h happening.Failed is = refl
takes_none s h happens is = absurd (cc is)

turn_taken : (a b : CallLogs) (s : AllSettings) (h : History) (after : Engine) (which : Turn) → Turned a b s h after (Ok which) → Taken a b s h after
turn_taken a b s h after which t =
    let x = t.brought in
    let stepped = t.steps.1 in
    let es = stepped.did.entries in
    record {
      brought = x;
      entries = es;
      plain = step_plain s x h es (Return stepped.history) stepped.did.way;
      left = λ more. after_step s None (run s None more) x stepped.history;
      ways = turn_stepped s h x es stepped.history t.steps.0 stepped.did.way;
      asked = asked_turn a t.between b s h x es t.waited stepped.did.asked;
      now = stepped.history;
      at = stepped.at;
      cut_way = (x, refl, subst (λ (p : Action History). Execution p es (Return stepped.history)) (sym (takes_is s h x t.steps.0)) stepped.did.way);
    }

turn_broken : (a b : CallLogs) (s : AllSettings) (h : History) (after : Engine) → Turned a b s h after (Err stop.LoopFault) → Taken a b s h after
turn_broken a b s h after t = record {
  brought = t.brought;
  entries = [];
  plain = tt;
  left = λ more. Return (lived h LoopFailed);
  ways = turn_failed s h t.brought t.steps.0;
  asked = asked_wait a t.between b s h t.brought t.waited t.steps.1;
  now = h;
  at = t.steps.2;
  cut_way = (t.brought, refl, sym (takes_none s h t.brought t.steps.0));
}

pub taken_of : (a b : CallLogs) (s : AllSettings) (h : History) (after : Engine) (result : Result Turn EngineStop) → is_out_of_memory result ≡ false → TurnOutcome a b s h after result → Taken a b s h after
taken_of a b s h after (Ok which) had turns = turn_taken a b s h after which turns
taken_of a b s h after (Err stop.LoopFault) had turns = turn_broken a b s h after turns
taken_of a b s h after (Err stop.Memory) had turns = absurd (cc had)

-- the crash of a run in its last event
last_cut : (gives : Bool) (paused : ℕ) (course : Course) (cut : Cut) (planned : Option Cut) → Some cut ≡ (if takes_last gives paused course then planned else None) → (gives ≡ false) × (is_last_next paused course ≡ true) × (planned ≡ Some cut)
last_cut true paused course cut planned is = absurd (cc is)
last_cut false paused course cut planned is = by (is_last_next paused course) is
  where
    by : (b : Bool) → Some cut ≡ (if b then planned else None) → (false ≡ false) × (b ≡ true) × (planned ≡ Some cut)
    by true at = (refl, refl, sym at)
    by false at = absurd (cc at)

-- the same run, if it weren't cut
abbrev whole : Life → Life
whole planned = record planned { cut = None }

uncut_always : (planned : Life) (b : Bool) → None ≡ (if b then (whole planned).cut else None)
uncut_always planned true = refl
uncut_always planned false = refl

module _ (s : AllSettings) (start : Start) (planned : Life) (going : Going) (seen : Seen) (held : FilesState) (kept : KeeperState) (cut : Cut) (ready : IsReady s start planned going seen held kept (Some cut))
    (going2 : Going) (seen2 : Seen) (held2 : FilesState) (result : Result Turn EngineStop) (took : TookTurn s ready.history going seen held going2 seen2 held2 result) (had : is_out_of_memory result ≡ false)
    (plays : files_played.IsPlayed held2.given [] (entries_from held2.given held2.notes)) where
  abbrev taken : Taken (memory going.secure seen held) (memory going2.secure seen2 held2) s ready.history going2.engine
  taken = taken_of (memory going.secure seen held) (memory going2.secure seen2 held2) s ready.history going2.engine result had took.turn

  abbrev turn_is : List TraceEntry
  turn_is = wait_of s ready.history taken.brought ∷ taken.entries

  more : Grown s planned going.secure going2.secure ready.trace ready.below turn_is
  more = grown s planned going.secure going2.secure ready.trace ready.below turn_is ready.stands.loop ready.stands.secured taken.asked.loop took.is took.has_memory took.played

  abbrev whole_below : List TraceEntry
  whole_below = ready.below ++ more.next

  -- the keyed loop of the same run
  same_loop : (secure : Secure) (above calls : List LoopEntry) → IsKeyedLoop s planned secure above calls → IsKeyedLoop s (whole planned) secure above calls
  same_loop secure above calls loop = record { keys = loop.keys; memory = loop.memory; start = loop.start; above = loop.above; below = loop.below; played = loop.played }

  stands_behind : RunRepresents s start (whole planned) going2.secure (going.taken + 1) seen2 held2 kept (ready.trace ++ turn_is) whole_below taken.left (course_after (course_of start planned) whole_below).files
  stands_behind =
      let place = course_after (course_of start planned) ready.below in
      let mask = paused s ready.history in
      turn_stands s start (whole planned) ready.history ready.trace ready.below going.secure going.taken seen held kept going2.secure seen2 held2 taken.brought taken.entries taken.left
      (record {
        way = ready.stands.way;
        waits = ready.stands.waits;
        secured = ready.stands.secured;
        answers = ready.stands.answers;
        loop = same_loop going.secure (loop_part ready.trace) (loop_part ready.below) ready.stands.loop;
        uncut = refl;
        asked = ready.stands.asked;
        disk_is = ready.stands.disk_is;
        are = ready.stands.are;
        answered = ready.stands.answered;
        files_stand = ready.stands.files_stand;
        kept_given = ready.stands.kept_given;
        kept_calls = ready.stands.kept_calls;
      })
      (uncut_always planned (takes_last (holds mask going.secure.state.kept) mask place)) taken.plain taken.ways
      (record { next = more.next; secured = more.secured; answers = more.answers; loop = same_loop going2.secure (loop_part (ready.trace ++ turn_is)) (loop_part whole_below) more.loop }) taken.asked.disk taken.asked.files plays

  -- the calls on the disk in the turn
  turn_asked : (made : List MemEntry) × (seen2.calls ≡ seen.calls ++ made) × (disk.entries_of made ≡ disk_part turn_is)
  turn_asked = split_entries seen.calls seen2.calls (disk_part turn_is) taken.asked.disk.1

  turn_answered : HaveAnswered seen2 kept → IsAnswered start planned whole_below (ready.stands.asked ++ turn_asked.0)
  turn_answered played =
      let asked = ready.stands.asked in
      let made = turn_asked.0 in
      let all : seen2.calls ≡ disk_of start planned ++ (asked ++ made) = turn_asked.1 ∙ ap (λ (l : List MemEntry). l ++ made) ready.stands.disk_is ∙ append_assoc (disk_of start planned) asked made in
      record {
        loop = more.loop.played;
        are =
            map-append disk.entry_of asked made ∙ ap (λ (l : List DiskEntry). l ++ disk.entries_of made) ready.stands.are
            ∙ ap (λ (l : List DiskEntry). disk_part ready.below ++ l) (turn_asked.2 ∙ sym (disk_same s going.secure.state going2.secure.state turn_is more.next more.secured))
            ∙ sym (disk_append ready.below more.next);
        disk = played_second [] (disk_of start planned) (asked ++ made) (subst (λ (l : List MemEntry). disk.IsPlayed [] l) all played.disk);
        files = stands_behind.answered;
        keeper = keeper_played start kept whole_below stands_behind.kept_given stands_behind.kept_calls played.keeper;
      }

  turn_cut_in : (most : ℕ) → going.taken < most → holds (paused s ready.history) going.secure.state.kept ≡ false → is_last_next (paused s ready.history) (course_after (course_of start planned) ready.below) ≡ true
      → IsCutIn s most ready.trace ready.history going.secure.state (course_after (course_of start planned) ready.below) turn_is
  turn_cut_in most more asks last =
      let h = ready.history in
      let count : going.taken + 0 ≡ waits_in ready.trace = let same = ready.stands.waits in omega (arith, same) in
      InTurn (let same = ready.stands.waits in omega (arith, same, more))
      (subst (λ (p : Action RunResult). Execution (life s (ends_of s) None (waits_in ready.trace)) ready.trace p) (spent s None h)
      (subst (λ (n : ℕ). Execution (life s (ends_of s) None n) ready.trace (run s None 0 h)) count (ready.stands.way 0)))
      asks last taken.now taken.cut_way

  pub turn_cut : (most since : ℕ) (image : Seen) (renewed : FilesState) (renewed_kept : KeeperState) → going.taken < most → going2.taken ≡ going.taken + 1 → HaveAnswered seen2 kept → since ≡ length seen.calls → IsCrashed since cut seen2 image
      → AreRenewed held2 renewed → OffsetsAreRenewed kept renewed_kept → HandsOver s most start planned cut going2 ready.history ready.below image renewed renewed_kept
  turn_cut most since image renewed renewed_kept less counted played since_is crashed again kept_again =
      let last = last_cut (holds (paused s ready.history) going.secure.state.kept) (paused s ready.history) (course_after (course_of start planned) ready.below) cut planned.cut ready.cut_is in
      made_cut s start planned most since cut going2 ready.history seen seen2 image held2 renewed kept renewed_kept
      (record {
        before = ready.trace;
        turn = turn_is;
        below = ready.below;
        below_in = more.next;
        handshakes = going.secure.state;
        handshakes_last = going2.secure.state;
        asked = ready.stands.asked;
        asked_in = turn_asked.0;
        is = last.2;
        cut_in = turn_cut_in most less last.0 last.1;
        answers = more.answers;
        secured = ready.stands.secured;
        secured_in = more.secured;
        uncut = ready.stands.uncut;
        answered = turn_answered played;
        are = ready.stands.are;
        old_is = ready.stands.disk_is;
        now_is = turn_asked.1;
        files = stands_behind.files_stand.has;
        kept_given = stands_behind.kept_given;
        kept_calls = stands_behind.kept_calls;
        waits = stands_behind.waits ∙ sym counted;
        last = taken.now;
        at = taken.at;
      })
      since_is crashed again kept_again

-- ---- what is left to the next run

pub leaves : (shown : Shown) (s : AllSettings) (most : ℕ) (start : Start) (planned : Life) (cut : Cut) (going : Going) (seen : Seen) (held : FilesState) (kept : KeeperState) (text : List ℕ) (settings : AllSettings) (count : ℕ)
    → EndsBy shown s most start planned going seen held kept text (life_end.Cut cut) → ((now : History) → IsAt going.engine s now → settings ≡ s) → count ≡ going.taken
    → ProducesText shown s most start planned seen held kept text (follow.Life (record { cut = cut; settings = settings; taken = count }))
leaves shown s most start planned cut going seen held kept text settings count came given counted =
    let was = came.2 in
    let c = was.cuts in (
      c,
      was.is,
      came.3 ∙ ap (λ (es : List TraceEntry). life_text shown s es came.0) (sym was.below_is) ∙ ap (λ (h : History). life_text shown s c.below h) (sym was.history_is),
      sym was.cut_is,
      given was.now was.at,
      was.finds,
      counted ∙ sym was.waits,
    )

pub named_of : (named : Named) (engine : Engine) (s : AllSettings) (h : History) → IsNamed named s → IsAt engine s h → IsNamedOf named engine
named_of named engine s h is at = record { settings = s; history = h; at = at; is = is }
