-- A run that is recorded: the disk below its counted disk, and what was loaded before it.
use Rattle.std.proofs.Common.{◌≡◌, ◌≢◌, ◌⊎◌, inl, inr, ℕ, ◌+◌, ◌-◌, ◌^◌, min, Bool, true, false, if◌then◌else◌, List, [], ◌∷◌, ◌++◌, map, Option, Some, None, Result, Ok, Err, IfOk, is_some, refl, sym, ◌∙◌, ap, subst, arith, append_assoc}
use Rattle.std.specs.List.{list_any}
use Rattle.std.proofs.lemmas.List.{append-nil}
use Rattle.fwd_base.specs.declared.memory.Memory.{Memory}
use Rattle.fwd_outside.specs.Program.{entry, Return, bind, Execution}
use Rattle.fwd_outside.specs.Log.{LogGrew}
use Rattle.fwd_outside.specs.Loop.{LoopEntry, LoopGiven, LoopLog, Wait}
use Rattle.fwd_outside.specs.Disk.{DiskEntry, DiskGiven, DiskLog}
use Rattle.fwd_outside.specs.LoopAnswers.{AreLoopAnswers}
use Rattle.fwd_outside.specs.declared.happening.Happening.{Happening}
use Rattle.fwd_outside.proofs.Executions.{way_bind, way_trans}
use Rattle.fwd_outside.proofs.LogGrowth.{grew_none, grew_trans}
use Rattle.fwd_outside.proofs.LoopAnswers.{answers_none}
use Rattle.fwd_settings.specs.Endpoints.{ends_of}
use Rattle.fwd_settings.specs.declared.settings_types.AllSettings.{AllSettings}
use Rattle.fwd_script.specs.declared.schedule.Schedule.{Schedule}
use Rattle.fwd_script.specs.Writable.{IsWritable}
use Rattle.fwd_model.specs.Fact.{History}
use Rattle.fwd_model.specs.Trace.{Action, TraceEntry, loop_part, disk_part}
use Rattle.fwd_model.specs.CallLogs.{CallLogs, Completes, IsBegun, LogsGrew}
use Rattle.fwd_model.specs.RecoveryActions.{recovers}
use Rattle.fwd_model.specs.Run.{DiskFailed, Over, TurnsSpent, RunResult, lived, life, after_recovery}
use Rattle.fwd_model.proofs.CallLogs.{disk_append, logs_grew_both, loop_append}
use Rattle.fwd_record.specs.Counting.{Counting, IsCounting, counting, log_of}
use Rattle.fwd_record.specs.DiskBelowCode.{given_to, standing_code}
use Rattle.fwd_record.specs.Failures.{failed_from, next_number}
use Rattle.fwd_record.specs.LoopBelow.{no_loop}
use Rattle.fwd_record.specs.LoopBelowCode as recorder
use Rattle.fwd_record.specs.Recorded.{recorded}
use Rattle.fwd_record.specs.Seen.{Seen}
use Rattle.fwd_secure.specs.Allowed.{AllMayOccur}
use Rattle.fwd_secure.specs.Handshakes.{Handshakes, no_handshakes}
use Rattle.fwd_secure_settings.specs.Keys.{keys_of}
use Rattle.fwd_secure_trace.specs.Secured.{IsSecured, on_loop}
use Rattle.fwd_secure_trace.proofs.Secured.{secured_append}
use Rattle.fwd_replay.specs.LiveRun.{BeginsRun, RunsToEnd}
use Rattle.fwd_replay.specs.RecordedRun.{BeginsRecorded, Failed, HasReport, HasTail, IsRecorded, IsUnrecorded, RanOutOfMemory, RanSo, first_number, follows_files, runs_on}
use Rattle.fwd_replay.specs.RecordedParts.{BeganBelow, BeganRecorded, CountsFailures, HasFailed, IsScheduleOf, RanBelow, RunsCounted, RunsRecorded, WasOutOfMemory, WasRecorded, WasUnrecorded}
use Rattle.fwd_replay.specs.Text.{out_of_memory, report, reported_by}
use Rattle.fwd_replay.specs.declared.report.Ending.TheVariants as ending
use Rattle.fwd_replay.specs.declared.report.Reported.{Reported}
use Rattle.fwd_replay.specs.declared.recorded_run.Ran.{Ran}
use Rattle.fwd_replay.specs.declared.recorded_run.Ran.TheVariants as ran
use Rattle.fwd_replay.proofs.RecordedOver.{on}
use Rattle.fwd_replay.proofs.RecordedSplit.{untouched}

-- ---- below the counted disk

abbrev Standing : Type 0
Standing = ℕ × (ℕ × DiskLog)

same_disk : (a b : Counting) → given_to b.name b.first b.start ≡ given_to a.name a.first a.start → ◌≡◌ {A = Standing} (b.name, (b.first, b.start)) (a.name, (a.first, a.start))
same_disk a b is = standing_code.inj (b.name, (b.first, b.start)) (a.name, (a.first, a.start)) (ap (λ (g : DiskGiven). g.round) is)

-- the world in which the disk has this log
abbrev pub at_disk : DiskLog → CallLogs → CallLogs
at_disk log w = record w { disk = log }

module _ (name : ℕ) (faults number : ℕ) (d0 d1 : DiskLog) (c0 c1 : Counting) (started : c0 ≡ counting name d0 faults number) (is : IsCounting c1) (now : d1 ≡ c1.below) where
  counted_from : (es : List DiskEntry) → LogGrew (log_of c0) (log_of c1) es → LogGrew (log_of (counting name d0 faults number)) (log_of c1) es
  counted_from es grew = subst (λ (c : Counting). LogGrew (log_of c) (log_of c1) es) started grew

  pub same_named : (es : List DiskEntry) → LogGrew (log_of c0) (log_of c1) es → c1.name ≡ name
  same_named es grew = ap (λ (x : Standing). x.0) (same_disk (counting name d0 faults number) c1 (counted_from es grew).0)

  below_grew : (es : List DiskEntry) → LogGrew (log_of c0) (log_of c1) es → LogGrew d0 d1 es
  below_grew es grew =
      let from = counted_from es grew in
      let start : c1.start ≡ d0 = ap (λ (x : Standing). x.1.1) (same_disk (counting name d0 faults number) c1 from.0) in
      subst (λ (l : DiskLog). LogGrew d0 l es) (sym now)
      (subst (λ (l : DiskLog). LogGrew l c1.below es) start
      (subst (λ (l : List DiskEntry). LogGrew c1.start c1.below l) from.1 is.passed))

  failed_are : (es : List DiskEntry) → LogGrew (log_of c0) (log_of c1) es → c1.failed ≡ failed_from number es
  failed_are es grew =
      let from = counted_from es grew in
      let first : c1.first ≡ number = ap (λ (x : Standing). x.1.0) (same_disk (counting name d0 faults number) c1 from.0) in
      is.failed ∙ ap (λ (n : ℕ). failed_from n c1.asked) first ∙ ap (λ (l : List DiskEntry). failed_from number l) from.1

  module _ (s : AllSettings) (ticks : Option ℕ) (turns : ℕ) (w w2 : CallLogs) where
    abbrev a : CallLogs
    a = at_disk (log_of c0) w

    abbrev b : CallLogs
    b = at_disk (log_of c1) w2

    grew_below : (es : List TraceEntry) → LogsGrew a b es → LogsGrew (at_disk d0 w) (at_disk d1 w2) es
    grew_below es grew = record { loop = grew.loop; disk = below_grew (disk_part es) grew.disk; files = grew.files; keeper = grew.keeper }

    abbrev ran_below : (reported : Reported) → RanBelow a b s ticks turns reported → RanBelow (at_disk d0 w) (at_disk d1 w2) s ticks turns reported
    ran_below reported run = record {
      result = run.result;
      trace = run.trace;
      way = run.way;
      answers = run.answers;
      below = run.below;
      handshakes = run.handshakes;
      secured = run.secured;
      may_occur = run.may_occur;
      asked = grew_below run.below run.asked;
      reports = run.reports;
    }

    -- after the first calls of a run nothing was asked of the disk
    all_asked : (began : BeganRecorded a b s ticks turns) → LogGrew (log_of c0) (log_of c1) (disk_part (began.begins.below ++ map on_loop began.begins.begun))
    all_asked began =
        let es = began.begins.below ++ map on_loop began.begins.begun in
        subst (λ (l : List DiskEntry). LogGrew (log_of c0) (log_of c1) l) (append-nil (disk_part es))
        (grew_trans (log_of c0) began.before.disk (log_of c1) (disk_part es) [] began.begins.asked.disk (by began.wait))
      where
        by : (LogsGrew began.before b [] ⊎ ((until paused : ℕ) × (brought : Happening) × LogsGrew began.before b (on_loop (entry (Wait until paused) brought) ∷ []))) → LogGrew began.before.disk (log_of c1) []
        by (inl none) = none.disk
        by (inr one) = one.3.disk

    began_below : BeganRecorded a b s ticks turns → BeganRecorded (at_disk d0 w) (at_disk d1 w2) s ticks turns
    began_below began =
        let begins = began.begins in
        record {
          before = at_disk d1 began.before;
          begins = record {
            trace = begins.trace;
            left = begins.left;
            way = begins.way;
            answers = begins.answers;
            below = begins.below;
            handshakes = begins.handshakes;
            secured = begins.secured;
            begun = begins.begun;
            short = begins.short;
            asked = record { loop = begins.asked.loop; disk = below_grew (disk_part (begins.below ++ map on_loop begins.begun)) (all_asked began); files = begins.asked.files; keeper = begins.asked.keeper };
          };
          wait = by began.wait;
        }
      where
        by : (LogsGrew began.before b [] ⊎ ((until paused : ℕ) × (brought : Happening) × LogsGrew began.before b (on_loop (entry (Wait until paused) brought) ∷ [])))
            → LogsGrew (at_disk d1 began.before) (at_disk d1 w2) [] ⊎ ((until paused : ℕ) × (brought : Happening) × LogsGrew (at_disk d1 began.before) (at_disk d1 w2) (on_loop (entry (Wait until paused) brought) ∷ []))
        by (inl none) = inl (record { loop = none.loop; disk = grew_none d1; files = none.files; keeper = none.keeper })
        by (inr one) = inr (one.0, one.1, one.2, record { loop = one.3.loop; disk = grew_none d1; files = one.3.files; keeper = one.3.keeper })

    unrecorded_below : (reported : Reported) → WasUnrecorded a b s ticks turns reported → WasUnrecorded (at_disk d0 w) (at_disk d1 w2) s ticks turns reported
    unrecorded_below reported (HasFailed run none) = HasFailed (ran_below reported run) none
    unrecorded_below reported (WasOutOfMemory began out) = WasOutOfMemory (began_below began) out

    -- what came of the run
    pub runs_counted : (endless : Bool) (ran2 : Ran) → RunsRecorded a b s ticks turns endless c1.failed ran2 → RunsCounted (at_disk d0 w) (at_disk d1 w2) s ticks turns endless number ran2
    runs_counted endless ran.NotRecordable was = absurd was
    runs_counted endless (ran.Unrecorded reported) was = unrecorded_below reported was
    runs_counted endless (ran.Recorded reported made) was = record {
      failed = c1.failed;
      was = record {
        run = ran_below reported was.run;
        ended = was.ended;
        seen = was.seen;
        is_seen = was.is_seen;
        allowed = was.allowed;
        new_links = was.new_links;
        schedule = was.schedule;
      };
      are = failed_are (disk_part was.run.below) was.run.asked.disk;
    }

    pub disk_grew : (endless : Bool) (failed : List ℕ) (ran2 : Ran) → RunsRecorded a b s ticks turns endless failed ran2 → (es : List DiskEntry) × LogGrew (log_of c0) (log_of c1) es
    disk_grew endless failed ran.NotRecordable was = absurd was
    disk_grew endless failed (ran.Unrecorded reported) (HasFailed run none) = (disk_part run.below, run.asked.disk)
    disk_grew endless failed (ran.Unrecorded reported) (WasOutOfMemory began out) = (disk_part (began.begins.below ++ map on_loop began.begins.begun), all_asked began)
    disk_grew endless failed (ran.Recorded reported made) was = (disk_part was.run.below, was.run.asked.disk)

-- the number of the first call, after an empty disk was loaded
pub number_of : (stored : Bool) (calls : ℕ) (path : Option (List ℕ)) → stored ≡ is_some path → calls ≡ (if stored then 1 else 0) → next_number calls ≡ first_number path
number_of stored calls path is are = ap next_number (are ∙ ap (λ (b : Bool). if b then 1 else 0) is) ∙ by path
  where
    by : (path : Option (List ℕ)) → next_number (if is_some path then 1 else 0) ≡ first_number path
    by None = omega arith
    by (Some root) = omega arith

-- ---- what was loaded

-- a log of a loop of which nothing is asked
abbrev pub quiet : LoopLog
quiet = Some (recorder.given_to 0 no_loop false, [])

module _ (w w2 : CallLogs) (es : List TraceEntry) (grew : LogsGrew (on quiet w) (on quiet w2) es) where
  pub quiet_loop : loop_part es ≡ []
  quiet_loop = sym grew.loop.1

  pub quiet_on : (l : LoopLog) → LogsGrew (on l w) (on l w2) es
  quiet_on l = record { loop = subst (λ (x : List LoopEntry). LogGrew l l x) (sym quiet_loop) (grew_none l); disk = grew.disk; files = grew.files; keeper = grew.keeper }

module _ (s : AllSettings) (ticks : Option ℕ) (turns : ℕ) where
  -- a run after its recovery
  life_way : (es : List TraceEntry) (found : Option History) → Execution (recovers s) es (Return found) → Execution (life s (ends_of s) ticks turns) es (after_recovery s (ends_of s) ticks turns found)
  unfolding life
  life_way es found way = way_bind (recovers s) (Return found) es (after_recovery s (ends_of s) ticks turns) way

  pub begins_load : (w w2 : CallLogs) (l : LoopLog) → IsBegun (on quiet w) (on quiet w2) (recovers s) → BeginsRun s ticks turns (on l w) (on l w2)
  unfolding life
  begins_load w w2 l began = record {
    trace = began.1.entries;
    left = bind began.0 (after_recovery s (ends_of s) ticks turns);
    way = way_bind (recovers s) began.0 began.1.entries (after_recovery s (ends_of s) ticks turns) began.1.way;
    answers = subst (λ (x : List LoopEntry). AreLoopAnswers x) (sym (quiet_loop w w2 began.1.entries began.1.asked)) answers_none;
    below = began.1.entries;
    handshakes = no_handshakes;
    secured = untouched (keys_of s) no_handshakes began.1.entries (quiet_loop w w2 began.1.entries began.1.asked);
    begun = [];
    short = inl refl;
    asked = subst (λ (es : List TraceEntry). LogsGrew (on l w) (on l w2) es) (sym (append-nil began.1.entries)) (quiet_on w w2 began.1.entries began.1.asked l);
  }

  -- memory run out, and the loop was asked for no event that couldn't be kept
  pub only_begins : (old new : CallLogs) → BeginsRun s ticks turns old new → BeginsRecorded s ticks turns old new
  only_begins old new begins = record {
    before = new;
    begins = begins;
    wait = inl (record { loop = grew_none new.loop; disk = grew_none new.disk; files = grew_none new.files; keeper = grew_none new.keeper });
  }

  -- a disk call failed
  pub load_failed : (w w2 : CallLogs) (l : LoopLog) (reported : Reported) → Completes (on quiet w) (on quiet w2) (recovers s) None → reported ≡ record { text = []; ending = ending.DiskFailed } → IsUnrecorded s ticks turns (on l w) (on l w2) reported
  load_failed w w2 l reported did is =
      let es = did.entries in
      let none = quiet_loop w w2 es did.asked in
      Failed
      (record {
        lived = lived [] DiskFailed;
        trace = es;
        way = life_way es None did.way;
        answers = subst (λ (x : List LoopEntry). AreLoopAnswers x) (sym none) answers_none;
        below = es;
        handshakes = no_handshakes;
        secured = untouched (keys_of s) no_handshakes es none;
        allowed = subst AllMayOccur (sym none) tt;
        asked = quiet_on w w2 es did.asked l;
        reports = is;
      })
      (λ has. by has)
    where
      by : HasReport (lived [] DiskFailed) → ⊥
      by (inl over) = absurd (cc over)
      by (inr spent) = absurd (cc spent)

  -- nothing was found, and the run went on
  module _ (w w2 : CallLogs) (l : LoopLog) (did : Completes (on quiet w) (on quiet w2) (recovers s) (Some [])) (new : CallLogs) where
    abbrev recovery : List TraceEntry
    recovery = did.entries

    silent : loop_part recovery ≡ []
    silent = quiet_loop w w2 recovery did.asked

    on_from : (es : List TraceEntry) (p : Action RunResult) → Execution (runs_on s ticks turns) es p → Execution (life s (ends_of s) ticks turns) (recovery ++ es) p
    on_from es p way = way_trans (life s (ends_of s) ticks turns) (runs_on s ticks turns) p recovery es (life_way recovery (Some []) did.way) way

    -- what the loop was asked
    loop_from : (es : List TraceEntry) → loop_part (recovery ++ es) ≡ loop_part es
    loop_from es = loop_append recovery es ∙ ap (λ (x : List LoopEntry). x ++ loop_part es) silent

    answers_from : (es : List TraceEntry) → AreLoopAnswers (loop_part es) → AreLoopAnswers (loop_part (recovery ++ es))
    answers_from es answers = subst (λ (x : List LoopEntry). AreLoopAnswers x) (sym (loop_from es)) answers

    secured_from : (es below : List TraceEntry) (handshakes : Handshakes) → IsSecured (keys_of s) no_handshakes es below handshakes → IsSecured (keys_of s) no_handshakes (recovery ++ es) (recovery ++ below) handshakes
    secured_from es below handshakes so = secured_append (keys_of s) no_handshakes no_handshakes handshakes recovery es recovery below (untouched (keys_of s) no_handshakes recovery silent) so

    asked_from : (new2 : CallLogs) (es : List TraceEntry) → LogsGrew (on l w2) new2 es → LogsGrew (on l w) new2 (recovery ++ es)
    asked_from new2 es asked = logs_grew_both (on l w) (on l w2) new2 recovery es (quiet_on w w2 recovery did.asked l) asked

    begins_from : (before : CallLogs) → BeganBelow (on l w2) before s ticks turns → BeginsRun s ticks turns (on l w) before
    begins_from before began =
        let calls = map on_loop began.begun in
        record {
          trace = recovery ++ began.trace;
          left = began.left;
          way = on_from began.trace began.left began.way;
          answers = answers_from began.trace began.answers;
          below = recovery ++ began.below;
          handshakes = began.handshakes;
          secured = secured_from began.trace began.below began.handshakes began.secured;
          begun = began.begun;
          short = began.short;
          asked = subst (λ (es : List TraceEntry). LogsGrew (on l w) before es) (sym (append_assoc recovery began.below calls)) (asked_from before (began.below ++ calls) began.asked);
        }

    unrecorded_from : (reported : Reported) → WasUnrecorded (on l w2) new s ticks turns reported → IsUnrecorded s ticks turns (on l w) new reported
    unrecorded_from reported (HasFailed run none) =
        Failed
        (record {
          lived = run.result;
          trace = recovery ++ run.trace;
          way = on_from run.trace (Return run.result) run.way;
          answers = answers_from run.trace run.answers;
          below = recovery ++ run.below;
          handshakes = run.handshakes;
          secured = secured_from run.trace run.below run.handshakes run.secured;
          allowed = subst AllMayOccur (sym (loop_from run.below)) run.may_occur;
          asked = asked_from new run.below run.asked;
          reports = run.reports;
        })
        none
    unrecorded_from reported (WasOutOfMemory began out) = RanOutOfMemory (record { before = began.before; begins = begins_from began.before began.begins; wait = began.wait }) out

    made_so : (made : Result Schedule Memory) (seen : List Seen) (failed fails : List ℕ) → failed ≡ fails → IsScheduleOf seen failed made
        → IfOk made (λ schedule. schedule ≡ record { lives = recorded seen fails ∷ [] }) × IfOk made IsWritable
    made_so (Ok schedule) seen failed fails are is = (is.0 ∙ ap (λ (l : List ℕ). record { lives = recorded seen l ∷ [] }) are, is.1)
    made_so (Err e) seen failed fails are is = (tt, tt)

    recorded_from : (endless : Bool) (reported : Reported) (made : Result Schedule Memory) → (HasTail s → ⊥) → CountsFailures (on l w2) new s ticks turns endless (first_number s.service.path) reported made → IsRecorded s ticks turns (on l w) new endless reported made
    recorded_from endless reported made untailed counts =
        let was = counts.was in
        let run = was.run in
        let so = made_so made was.seen counts.failed (failed_from (first_number s.service.path) (disk_part run.below)) counts.are was.schedule in
        record {
          recovery = recovery;
          loads = did.way;
          untailed = untailed;
          trace = run.trace;
          result = run.result;
          way = run.way;
          answers = run.answers;
          below = run.below;
          handshakes = run.handshakes;
          seen = was.seen;
          is_seen = was.is_seen;
          asked = asked_from new run.below run.asked;
          ended = was.ended;
          reports = run.reports;
          allowed = was.allowed;
          new_links = was.new_links;
          schedule = so.0;
          writable = so.1;
        }

    pub ran_from : (endless : Bool) (ran2 : Ran) → (HasTail s → ⊥) → RunsCounted (on l w2) new s ticks turns endless (first_number s.service.path) ran2 → RanSo s ticks turns (on l w) new endless ran2
    ran_from endless ran.NotRecordable untailed was = absurd was
    ran_from endless (ran.Unrecorded reported) untailed was = unrecorded_from reported was
    ran_from endless (ran.Recorded reported made) untailed was = recorded_from endless reported made untailed was

-- ---- whether an input follows files

pub untailed_of : (s : AllSettings) (tailed : Bool) → tailed ≡ list_any (λ input. follows_files input.kind) s.inputs → tailed ≡ false → HasTail s → ⊥
untailed_of s tailed is none some =
    let no : false ≡ true = sym none ∙ is ∙ some in
    absurd (cc no)

pub tailed_of : (s : AllSettings) (tailed : Bool) (h : History) → tailed ≡ list_any (λ input. follows_files input.kind) s.inputs → (tailed ≡ true) ⊎ (h ≢ []) → HasTail s ⊎ (h ≢ [])
tailed_of s tailed h is (inl some) = inl (sym is ∙ some)
tailed_of s tailed h is (inr found) = inr found
