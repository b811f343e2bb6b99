-- A run that is recorded, below its recorder.
use Rattle.std.proofs.Common.{◌≡◌, ◌⊎◌, inl, inr, ℕ, ◌<◌, ◌≤◌, ◌-◌, ◌+◌, ◌/◌, ◌^◌, min, Bool, true, false, if◌then◌else◌, List, [], ◌∷◌, ◌++◌, map, length, Option, Some, None, Result, Ok, Err, IfOk, refl, sym, ◌∙◌, ap, subst, arith, append_assoc}
use Rattle.std.proofs.lemmas.List.{append-nil}
use Rattle.std.proofs.lemmas.List.Concat.{flat_map-append}
use Rattle.fwd_base.specs.declared.memory.Memory.{Memory}
use Rattle.fwd_outside.specs.Cause.{HasCause}
use Rattle.fwd_outside.specs.Program.{entry, Return}
use Rattle.fwd_outside.specs.Log.{LogGrew}
use Rattle.fwd_outside.specs.Loop.{LoopCounts, LoopEntry, LoopGiven, LoopLog, Wait}
use Rattle.fwd_outside.specs.NewLinks.{AreNewLinks}
use Rattle.fwd_outside.specs.declared.happening.Happening.{Happening}
use Rattle.fwd_outside.proofs.LogGrowth.{grew_none, grew_trans}
use Rattle.fwd_settings.specs.declared.settings_types.AllSettings.{AllSettings}
use Rattle.fwd_script.specs.declared.schedule.Schedule.{Schedule}
use Rattle.fwd_script.specs.Writable.{IsWritable}
use Rattle.fwd_model.specs.Trace.{TraceEntry, loop_part}
use Rattle.fwd_model.specs.CallLogs.{CallLogs, LogsGrew}
use Rattle.fwd_model.specs.Run.{End, Over, DiskFailed, KeeperFailed, LoopFailed, TurnsSpent, RunResult}
use Rattle.fwd_engine_state.specs.LoopCounters.{EventsTaken}
use Rattle.fwd_engine_run.proofs.EventCounts.{events_all}
use Rattle.fwd_record.specs.Allowed.{AreAllowed}
use Rattle.fwd_record.specs.LoopBelow.{LoopBelow}
use Rattle.fwd_record.specs.Recorded.{recorded}
use Rattle.fwd_record.specs.Recorded.{heard_in as events_in}
use Rattle.fwd_record.specs.Recording.{Recording, IsRecording, Passed, counts_of, log_of}
use Rattle.fwd_record.specs.Recording as record_spec
use Rattle.fwd_record.specs.Seen.{Seen, Answered, Stopped, calls_in, calls_of}
use Rattle.fwd_record.proofs.Stopping.{calls_stopped}
use Rattle.fwd_secure.specs.Keys.{has_keys}
use Rattle.fwd_secure_settings.specs.Keys.{keys_of}
use Rattle.fwd_secure_trace.specs.Secured.{on_loop}
use Rattle.fwd_replay.specs.LiveRun.{events_below, heard_in}
use Rattle.fwd_replay.specs.RecordedRun.{HasReport, ending_of_run}
use Rattle.fwd_replay.specs.RecordedParts.{BeganBelow, BeganRecorded, ComesOf, ComesTo, HasFailed, IsFound, IsFresh, IsLost, IsScheduleOf, IsSeenBy, IsUnlessOut, IsStoppedAfter, RanBelow, RunsBelow, RunsRecorded, SeenBelow, WasOutOfMemory, WasRecorded, WasUnrecorded, ending_told, is_reported}
use Rattle.fwd_replay.specs.Text.{out_of_memory, report, reported_by}
use Rattle.fwd_replay.specs.declared.report.Ending.{Ending}
use Rattle.fwd_replay.specs.declared.report.Ending.TheVariants as ending
use Rattle.fwd_replay.specs.declared.report.Reported.{Reported}
use Rattle.fwd_replay.specs.declared.recorded_run.Ran.{Ran}
use Rattle.fwd_replay.specs.declared.recorded_run.Ran.TheVariants as ran
use Rattle.fwd_replay.specs.declared.recorded_run.Told.{Told}
use Rattle.fwd_replay.proofs.KeyedRun.{heard_fits}
use Rattle.fwd_replay.proofs.RecordedBelow.{given_of, same_recorder}
use Rattle.fwd_replay.proofs.RecordedOver.{on}

-- ---- what was seen

pub calls_answered : (calls : List LoopEntry) → calls_of (map Answered calls) ≡ calls
calls_answered [] = refl
calls_answered (e ∷ calls) = ap (λ (l : List LoopEntry). e ∷ l) (calls_answered calls)

pub calls_seen : (stopped : Option ℕ) (calls : List LoopEntry) (seen : List Seen) → IsSeenBy stopped calls seen → calls_of seen ≡ calls
calls_seen None calls seen is = ap (λ (l : List Seen). calls_of l) is ∙ calls_answered calls
calls_seen (Some heard) calls seen is =
    ap (λ (l : List Seen). calls_of l) is.is ∙ calls_stopped is.first is.second ∙ ap (λ (l : List Seen). calls_of l) (sym is.all) ∙ calls_answered calls

-- ---- the end

reported_end : (text : List ℕ) (end : End) → is_reported (reported_by text end).ending ≡ true → (end ≡ Over) ⊎ (end ≡ TurnsSpent)
reported_end text Over is = inl refl
reported_end text DiskFailed is = absurd (cc is)
reported_end text KeeperFailed is = absurd (cc is)
reported_end text LoopFailed is = absurd (cc is)
reported_end text TurnsSpent is = inr refl

unreported_end : (text : List ℕ) (end : End) → is_reported (reported_by text end).ending ≡ false → ((end ≡ Over) ⊎ (end ≡ TurnsSpent)) → ⊥
unreported_end text Over is has = absurd (cc is)
unreported_end text DiskFailed is (inl has) = absurd (cc has)
unreported_end text DiskFailed is (inr has) = absurd (cc has)
unreported_end text KeeperFailed is (inl has) = absurd (cc has)
unreported_end text KeeperFailed is (inr has) = absurd (cc has)
unreported_end text LoopFailed is (inl has) = absurd (cc has)
unreported_end text LoopFailed is (inr has) = absurd (cc has)
unreported_end text TurnsSpent is has = absurd (cc is)

-- ---- logs in two parts

pub record Between {G X : Type 0} (old new : Option (G × List X)) (first second : List X) : Type 0 where
  pub mid : Option (G × List X)
  pub before : LogGrew old mid first
  pub after : LogGrew mid new second

between : {G X : Type 0} (old new : Option (G × List X)) (first second : List X) → LogGrew old new (first ++ second) → Between old new first second
between (Some old) (Some new) first second grew = record {
  mid = Some (old.0, old.1 ++ first);
  before = (refl, refl);
  after = (grew.0, grew.1 ∙ sym (append_assoc old.1 first second));
}
between None None first second grew = record { mid = None; before = tt; after = tt }
between (Some old) None first second grew = absurd grew
between None (Some new) first second grew = absurd grew

-- ---- from the log of the recorder to that of the loop below

module _ (s : AllSettings) (ticks : Option ℕ) (turns : ℕ) (w w2 : CallLogs) (r0 r1 : Recording) (l0 l1 : LoopLog)
    (fresh : IsFresh r0) (started : r0.start.call_log ≡ l0) (now : l1 ≡ r1.below.call_log) (is : IsRecording r1) where
  same_start : (calls : List LoopEntry) → LogGrew (log_of r0) (log_of r1) calls → r1.start ≡ r0.start
  same_start calls grew = ap (λ (x : ℕ × (LoopBelow × Bool)). x.1.0) (same_recorder r0 r1 grew.0)

  calls_are : (calls : List LoopEntry) → LogGrew (log_of r0) (log_of r1) calls → calls_of r1.seen ≡ calls
  calls_are calls grew = grew.1 ∙ ap (λ (l : List Seen). calls_of l ++ calls) fresh.seen

  pub passed : (out : Bool) → r1.out_of_memory ≡ out → (calls : List LoopEntry) → LogGrew (log_of r0) (log_of r1) calls → Passed out l0 l1 calls
  passed out has calls grew =
      let first : r1.start.call_log ≡ l0 = ap (λ (b : LoopBelow). b.call_log) (same_start calls grew) ∙ started in
      subst (λ (l : LoopLog). Passed out l0 l calls) (sym now)
      (subst (λ (l : LoopLog). Passed out l r1.below.call_log calls) first
      (subst (λ (l : List LoopEntry). Passed out r1.start.call_log r1.below.call_log l) (calls_are calls grew)
      (subst (λ (b : Bool). Passed b r1.start.call_log r1.below.call_log (calls_of r1.seen)) has is.passed)))

  module _ (kept : r1.out_of_memory ≡ false) where
    abbrev pub ran_below : (reported : Reported) → RanBelow (on (log_of r0) w) (on (log_of r1) w2) s ticks turns reported → RanBelow (on l0 w) (on l1 w2) s ticks turns reported
    ran_below reported run = record {
      result = run.result;
      trace = run.trace;
      way = run.way;
      answers = run.answers;
      below = run.below;
      handshakes = run.handshakes;
      secured = run.secured;
      may_occur = run.may_occur;
      asked = record { loop = passed false kept (loop_part run.below) run.asked.loop; disk = run.asked.disk; files = run.asked.files; keeper = run.asked.keeper };
      reports = run.reports;
    }

    -- what a recorder that wasn't stopped saw
    seen_now : (calls : List LoopEntry) → LogGrew (log_of r0) (log_of r1) calls → r1.seen ≡ map Answered calls
    seen_now calls grew =
        is.unstopped (ap (λ (x : ℕ × (LoopBelow × Bool)). x.1.1) (same_recorder r0 r1 grew.0) ∙ fresh.unstopped) ∙ ap (λ (l : List LoopEntry). map Answered l) (calls_are calls grew)

    was_recorded : (failed : List ℕ) (told : Told) (made : Result Schedule Memory) (endless : Bool) → r0.start.counts.endless ≡ endless → SeenBelow (on (log_of r0) w) (on (log_of r1) w2) s ticks turns told
        → is_reported told.reported.ending ≡ true
        → ((calls : List LoopEntry) (seen : List Seen) → r1.seen ≡ map Answered calls → IsSeenBy told.stopped_after calls seen → IsScheduleOf seen failed made)
        → WasRecorded (on l0 w) (on l1 w2) s ticks turns endless failed told.reported made
    was_recorded failed told made endless same below some schedule =
        let run = below.run in
        let calls = loop_part run.below in
        let grew = run.asked.loop in
        let seen : calls_of below.seen ≡ calls_of r1.seen = calls_seen told.stopped_after calls below.seen below.seen_by ∙ sym (calls_are calls grew) in
        let never : r1.start.counts.endless ≡ endless = ap (λ (b : LoopBelow). b.counts.endless) (same_start calls grew) ∙ same in
        record {
          run = ran_below told.reported run;
          ended = reported_end (report s run.result.history) run.result.end (sym (ap (λ (r : Reported). is_reported r.ending) run.reports) ∙ some);
          seen = below.seen;
          is_seen = below.is_seen;
          allowed = subst (λ (b : Bool). AreAllowed b (calls_of below.seen)) never (subst (λ (l : List LoopEntry). AreAllowed r1.start.counts.endless l) (sym seen) is.allowed);
          new_links = subst (λ (l : List LoopEntry). AreNewLinks 0 l) (sym seen) is.new_links;
          schedule = schedule calls below.seen (seen_now calls grew) below.seen_by;
        }

    was_failed : (told : Told) → SeenBelow (on (log_of r0) w) (on (log_of r1) w2) s ticks turns told → is_reported told.reported.ending ≡ false → WasUnrecorded (on l0 w) (on l1 w2) s ticks turns told.reported
    was_failed told below none =
        HasFailed (ran_below told.reported below.run) (unreported_end (report s below.run.result.history) below.run.result.end (sym (ap (λ (r : Reported). is_reported r.ending) below.run.reports) ∙ none))

  -- the first calls of a run, which may have gone to its end
  began_any : (outcome : Result Told Memory) → RunsBelow (on (log_of r0) w) (on (log_of r1) w2) s ticks turns outcome → BeganBelow (on (log_of r0) w) (on (log_of r1) w2) s ticks turns
  began_any (Err e) began = began
  began_any (Ok told) below = record {
    trace = below.run.trace;
    left = Return below.run.result;
    way = below.run.way;
    answers = below.run.answers;
    below = below.run.below;
    handshakes = below.run.handshakes;
    secured = below.run.secured;
    begun = [];
    short = inl refl;
    asked = subst (λ (es : List TraceEntry). LogsGrew (on (log_of r0) w) (on (log_of r1) w2) es) (sym (append-nil below.run.below)) below.run.asked;
  }

  began_to : (mid : LoopLog) (began : BeganBelow (on (log_of r0) w) (on (log_of r1) w2) s ticks turns) → LogGrew l0 mid (loop_part (began.below ++ map on_loop began.begun)) → BeganBelow (on l0 w) (on mid w2) s ticks turns
  began_to mid began grew = record {
    trace = began.trace;
    left = began.left;
    way = began.way;
    answers = began.answers;
    below = began.below;
    handshakes = began.handshakes;
    secured = began.secured;
    begun = began.begun;
    short = began.short;
    asked = record { loop = grew; disk = began.asked.disk; files = began.asked.files; keeper = began.asked.keeper };
  }

  was_last : (began : BeganBelow (on (log_of r0) w) (on (log_of r1) w2) s ticks turns) (until paused : ℕ) (brought : Happening) → Between l0 l1 (loop_part (began.below ++ map on_loop began.begun)) (entry (Wait until paused) brought ∷ []) → BeganRecorded (on l0 w) (on l1 w2) s ticks turns
  was_last began until paused brought parts = record {
    before = on parts.mid w2;
    begins = began_to parts.mid began parts.before;
    wait = inr (until, paused, brought, record { loop = parts.after; disk = grew_none w2.disk; files = grew_none w2.files; keeper = grew_none w2.keeper });
  }

  began_lost : (began : BeganBelow (on (log_of r0) w) (on (log_of r1) w2) s ticks turns) (out : Bool) → r1.out_of_memory ≡ out → BeganRecorded (on l0 w) (on l1 w2) s ticks turns
  began_lost began false has = record {
    before = on l1 w2;
    begins = began_to l1 began (passed false has (loop_part (began.below ++ map on_loop began.begun)) began.asked.loop);
    wait = inl (record { loop = grew_none l1; disk = grew_none w2.disk; files = grew_none w2.files; keeper = grew_none w2.keeper });
  }
  began_lost began true has =
      let calls = loop_part (began.below ++ map on_loop began.begun) in
      let one = passed true has calls began.asked.loop in
      was_last began one.0 one.1 one.2 (between l0 l1 calls (entry (Wait one.0 one.1) one.2 ∷ []) one.3)

  was_lost : (outcome : Result Told Memory) → RunsBelow (on (log_of r0) w) (on (log_of r1) w2) s ticks turns outcome → BeganRecorded (on l0 w) (on l1 w2) s ticks turns
  was_lost outcome below = began_lost (began_any outcome below) r1.out_of_memory refl

  -- what came of the run, if no event was lost
  comes_recorded : (failed : List ℕ) (endless : Bool) → r0.start.counts.endless ≡ endless → r1.out_of_memory ≡ false → (told : Told) → SeenBelow (on (log_of r0) w) (on (log_of r1) w2) s ticks turns told
      → (ran2 : Ran) → ComesOf r1 failed told ran2 → RunsRecorded (on l0 w) (on l1 w2) s ticks turns endless failed ran2
  comes_recorded failed endless same kept told below ran.NotRecordable comes = absurd comes
  comes_recorded failed endless same kept told below (ran.Unrecorded reported) failure =
      subst (λ (r : Reported). WasUnrecorded (on l0 w) (on l1 w2) s ticks turns r) (sym failure.is) (was_failed kept told below failure.none)
  comes_recorded failed endless same kept told below (ran.Recorded reported made) is_kept =
      subst (λ (r : Reported). WasRecorded (on l0 w) (on l1 w2) s ticks turns endless failed r made) (sym is_kept.is) (was_recorded kept failed told made endless same below is_kept.some is_kept.schedule)

  pub runs_recorded : (failed : List ℕ) (endless : Bool) → r0.start.counts.endless ≡ endless → (outcome : Result Told Memory) → RunsBelow (on (log_of r0) w) (on (log_of r1) w2) s ticks turns outcome
      → (ran2 : Ran) → ComesTo r1 failed outcome ran2 → RunsRecorded (on l0 w) (on l1 w2) s ticks turns endless failed ran2
  runs_recorded failed endless same outcome below ran2 (IsLost lost) =
      subst (λ (r : Ran). RunsRecorded (on l0 w) (on l1 w2) s ticks turns endless failed r) (sym lost) (WasOutOfMemory (was_lost outcome below) refl)
  runs_recorded failed endless same outcome below ran2 (IsFound told of kept comes) =
      comes_recorded failed endless same kept told (subst (λ (o : Result Told Memory). RunsBelow (on (log_of r0) w) (on (log_of r1) w2) s ticks turns o) of below) ran2 comes

-- ---- the recorder afterwards

pub recorder_grew : (a b : CallLogs) (s : AllSettings) (ticks : Option ℕ) (turns : ℕ) (r0 r1 : Recording) (outcome : Result Told Memory) → RunsBelow (on (log_of r0) a) (on (log_of r1) b) s ticks turns outcome
    → (calls : List LoopEntry) × LogGrew (log_of r0) (log_of r1) calls
recorder_grew a b s ticks turns r0 r1 (Ok told) below = (loop_part below.run.below, below.run.asked.loop)
recorder_grew a b s ticks turns r0 r1 (Err e) began = (loop_part (began.below ++ map on_loop began.begun), began.asked.loop)

pub recorder_stays : (a b : CallLogs) (s : AllSettings) (ticks : Option ℕ) (turns : ℕ) (r0 r1 : Recording) (outcome : Result Told Memory) → RunsBelow (on (log_of r0) a) (on (log_of r1) b) s ticks turns outcome → (r1.name ≡ r0.name) × (r1.start ≡ r0.start)
recorder_stays a b s ticks turns r0 r1 outcome below =
    let same = same_recorder r0 r1 (recorder_grew a b s ticks turns r0 r1 outcome below).1.0 in
    (ap (λ (x : ℕ × (LoopBelow × Bool)). x.0) same, ap (λ (x : ℕ × (LoopBelow × Bool)). x.1.0) same)

-- the ending is that of the run, or memory was out
pub comes_ending : (r : Recording) (failed : List ℕ) (outcome : Result Told Memory) (ran2 : Ran) → ComesTo r failed outcome ran2 → (ending_of_run ran2 ≡ ending.Memory) ⊎ (ending_of_run ran2 ≡ ending_told outcome)
comes_ending r failed outcome ran2 (IsLost lost) = inl (ap ending_of_run lost)
comes_ending r failed outcome ran2 (IsFound told of kept comes) = inr (by ran2 comes ∙ sym (ap ending_told of))
  where
    by : (ran2 : Ran) → ComesOf r failed told ran2 → ending_of_run ran2 ≡ told.reported.ending
    by ran.NotRecordable other = absurd other
    by (ran.Unrecorded reported) failure = ap (λ (x : Reported). x.ending) failure.is
    by (ran.Recorded reported made) kept2 = ap (λ (x : Reported). x.ending) kept2.is

pub comes_cause : (before after : ℕ) (r : Recording) (failed : List ℕ) (outcome : Result Told Memory) (ran2 : Ran) (why : Ending) → (ending.Memory ≡ why → ⊥) → ComesTo r failed outcome ran2
    → HasCause before after (ending_told outcome ≡ why) → HasCause before after (ending_of_run ran2 ≡ why)
comes_cause before after r failed outcome ran2 why other comes cause = record { later = cause.later; cause = λ is. cause.cause (by (comes_ending r failed outcome ran2 comes) is) }
  where
    by : (ending_of_run ran2 ≡ ending.Memory) ⊎ (ending_of_run ran2 ≡ ending_told outcome) → ending_of_run ran2 ≡ why → ending_told outcome ≡ why
    by (inl memory) is = absurd (other (sym memory ∙ is))
    by (inr same) is = sym same ∙ is

none_least : (s : AllSettings) (n : ℕ) → events_below s 0 ≤ n
none_least s n = by (has_keys (keys_of s))
  where
    by : (keyed : Bool) → (if keyed then (0 + 1) / 2 else 0) ≤ n
    by true = omega arith
    by false = omega arith

pub comes_heard : (s : AllSettings) (most : ℕ) (a b : LoopCounts) (r : Recording) (failed : List ℕ) (outcome : Result Told Memory) (ran2 : Ran) → ComesTo r failed outcome ran2
    → EventsTaken (events_below s (heard_in most (ending_told outcome))) a b → EventsTaken (events_below s (heard_in most (ending_of_run ran2))) a b
comes_heard s most a b r failed outcome ran2 comes heard = by (comes_ending r failed outcome ran2 comes)
  where
    by : (ending_of_run ran2 ≡ ending.Memory) ⊎ (ending_of_run ran2 ≡ ending_told outcome) → EventsTaken (events_below s (heard_in most (ending_of_run ran2))) a b
    by (inl memory) = subst (λ (e : Ending). EventsTaken (events_below s (heard_in most e)) a b) (sym memory) (events_all (events_below s (heard_in most (ending_told outcome))) (events_below s 0) (none_least s (events_below s (heard_in most (ending_told outcome)))) heard)
    by (inr same) = subst (λ (e : Ending). EventsTaken (events_below s (heard_in most e)) a b) (sym same) heard

pub below_fits : (s : AllSettings) (most : ℕ) (end : Ending) → most < 2 ^ 64 → events_below s (heard_in most end) ≤ 2 ^ 64 - 1
below_fits s most end fits = by (has_keys (keys_of s)) (heard_fits most end fits)
  where
    by : (keyed : Bool) → heard_in most end ≤ 2 ^ 64 - 1 → (if keyed then (heard_in most end + 1) / 2 else heard_in most end) ≤ 2 ^ 64 - 1
    by true few = omega (arith, few)
    by false few = few

-- the events of the loop below, by those of the recorder
pub events_noted : (n : ℕ) (r0 r1 : Recording) (old new : LoopCounts) → n ≤ 2 ^ 64 - 1 → r0.start.counts ≡ old → new ≡ r1.below.counts → r0.below ≡ r0.start → r1.start ≡ r0.start → IsRecording r1 → EventsTaken n (counts_of r0) (counts_of r1) → EventsTaken n old new
events_noted n r0 r1 old new fits first last fresh start is heard =
    subst (λ (c : LoopCounts). EventsTaken n old c) (sym last)
    (subst (λ (c : LoopCounts). EventsTaken n c r1.below.counts) first
    (record {
      happenings = by is.heard;
      greatest = subst (λ (b : LoopBelow). b.counts.greatest ≤ r1.below.counts.greatest) fresh heard.greatest;
      endless = is.endless ∙ ap (λ (b : LoopBelow). b.counts.endless) start;
    }))
  where
    least : n ≤ r1.happenings
    least = let x = heard.happenings in grind (arith, x, fits)

    same : r1.start.counts.happenings ≡ r0.start.counts.happenings
    same = ap (λ (b : LoopBelow). b.counts.happenings) start

    by : record_spec.HasHeard r1.happenings r1.start.counts.happenings r1.below.counts.happenings → min (r0.start.counts.happenings + n) (2 ^ 64 - 1) ≤ r1.below.counts.happenings
    by (inl full) = omega (arith, full)
    by (inr all) = omega (arith, all, least, same)

-- what came of the run, by the outcome that was checked
pub comes_so : (r : Recording) (failed : List ℕ) (outcome checked : Result Told Memory) (told : Told) (ran2 : Ran) → IsUnlessOut r.out_of_memory outcome checked → checked ≡ Ok told → ComesOf r failed told ran2 → ComesTo r failed outcome ran2
comes_so r failed outcome checked told ran2 unless is comes = by r.out_of_memory refl unless
  where
    by : (out : Bool) → r.out_of_memory ≡ out → IsUnlessOut out outcome checked → ComesTo r failed outcome ran2
    by true has other =
        let no : Err other.0 ≡ Ok told = sym other.1 ∙ is in
        absurd (cc no)
    by false has same = IsFound told (sym same ∙ is) has comes

-- ---- the schedule

schedule_so : (made : Result Schedule Memory) (seen from : List Seen) (failed : List ℕ) → seen ≡ from → IfOk made (λ schedule. schedule ≡ record { lives = recorded from failed ∷ [] }) → IfOk made IsWritable → IsScheduleOf seen failed made
schedule_so (Ok schedule) seen from failed same is writable = (is ∙ ap (λ (l : List Seen). record { lives = recorded l failed ∷ [] }) (sym same), writable)
schedule_so (Err e) seen from failed same is writable = tt

pub schedule_unstopped : (made : Result Schedule Memory) (from : List Seen) (failed : List ℕ) → IfOk made (λ schedule. schedule ≡ record { lives = recorded from failed ∷ [] }) → IfOk made IsWritable
    → (calls : List LoopEntry) (seen : List Seen) → from ≡ map Answered calls → IsSeenBy None calls seen → IsScheduleOf seen failed made
schedule_unstopped made from failed is writable calls seen all by = schedule_so made seen from failed (by ∙ sym all) is writable

pub schedule_stopped : (made : Result Schedule Memory) (from : List Seen) (failed : List ℕ) (heard : ℕ)
    → ((first second : List Seen) → from ≡ first ++ second → length (events_in first) ≡ heard → IfOk made (λ schedule. schedule ≡ record { lives = recorded (first ++ Stopped ∷ second) failed ∷ [] }))
    → ((first second : List Seen) → from ≡ first ++ second → length (events_in first) ≡ heard → IfOk made IsWritable)
    → (calls : List LoopEntry) (seen : List Seen) → from ≡ map Answered calls → IsSeenBy (Some heard) calls seen → IsScheduleOf seen failed made
schedule_stopped made from failed heard is writable calls seen all by =
    schedule_so made seen (by.first ++ Stopped ∷ by.second) failed by.is (is by.first by.second (all ∙ by.all) by.events) (writable by.first by.second (all ∙ by.all) by.events)
