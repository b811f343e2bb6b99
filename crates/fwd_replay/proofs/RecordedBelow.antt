-- A run that is recorded, below its keyed loop.
use Rattle.std.proofs.Common.{◌≡◌, ◌⊎◌, inl, inr, ℕ, ◌<◌, ◌^◌, Bool, true, false, List, [], ◌∷◌, ◌++◌, map, length, Option, Some, None, Result, Ok, Err, refl, sym, ◌∙◌, ap, subst, arith}
use Rattle.std.proofs.lemmas.List.{append-nil, map-append}
use Rattle.fwd_base.specs.declared.memory.Memory.{Memory}
use Rattle.fwd_outside.specs.Cause.{HasCause}
use Rattle.fwd_outside.specs.Program.{Return, Execution}
use Rattle.fwd_outside.specs.Log.{LogGrew}
use Rattle.fwd_outside.specs.Loop.{LoopCounts, LoopEntry, LoopGiven, LoopLog}
use Rattle.fwd_settings.specs.Endpoints.{ends_of}
use Rattle.fwd_settings.specs.declared.settings_types.AllSettings.{AllSettings}
use Rattle.fwd_model.specs.Trace.{Action, TraceEntry, loop_part}
use Rattle.fwd_model.specs.CallLogs.{CallLogs, LogsGrew}
use Rattle.fwd_model.specs.Run.{RunResult, LoopFailed}
use Rattle.fwd_model.proofs.CallLogs.{loop_append}
use Rattle.fwd_engine_state.specs.LoopCounters.{EventsTaken}
use Rattle.fwd_engine_run.proofs.EventCounts.{events_all}
use Rattle.fwd_record.specs.LoopBelow.{LoopBelow}
use Rattle.fwd_record.specs.LoopBelowCode.{given_to, standing_code}
use Rattle.fwd_record.specs.Recorded.{heard_in as events_in}
use Rattle.fwd_record.specs.Recording.{Recording, IsRecording}
use Rattle.fwd_record.specs.Recording as record_spec
use Rattle.fwd_record.specs.Seen.{Seen, Answered, Stopped, calls_of}
use Rattle.fwd_secure.specs.Carried.{Carries, Ends, IsCarried, IsCutShort}
use Rattle.fwd_secure.specs.Secure.{Secure, IsSecure, counts_of, has_failed}
use Rattle.fwd_secure.specs.LoopBelow.{LoopBelow as SecuredBelow}
use Rattle.fwd_secure_settings.specs.Keys.{keys_of}
use Rattle.fwd_secure.specs.Allowed.{AllMayOccur}
use Rattle.fwd_secure.specs.Handshakes.{Handshakes, no_handshakes}
use Rattle.fwd_secure_trace.specs.Secured.{IsSecured, on_loop}
use Rattle.fwd_secure_trace.proofs.Secured.{secured_append}
use Rattle.fwd_replay.specs.LiveRun.{events_below, heard_in}
use Rattle.fwd_replay.specs.RecordedRun.{IsSeen, Unstopped, StoppedAfter, runs_on}
use Rattle.fwd_replay.specs.RecordedParts.{IsUnlessOut, ending_told, BeganBelow, BeganOver, HasAnswered, IsFresh, IsSeenBy, IsStoppedAfter, RanBelow, ReportedOver, ReportsOver, RunsBelow, SeenBelow, StoppedHere, WasStopped}
use Rattle.fwd_replay.specs.Text.{report, reported_by}
use Rattle.fwd_replay.specs.declared.report.Ending.{Ending}
use Rattle.fwd_replay.specs.declared.report.Ending.TheVariants as ending
use Rattle.fwd_replay.specs.declared.report.Reported.{Reported}
use Rattle.fwd_replay.specs.declared.recorded_run.Told.{Told}
use Rattle.fwd_replay.proofs.KeyedRun.{Kept, all_grew, end_failed, events_taken, heard_fits, kept_from}
use Rattle.fwd_replay.proofs.KeyedTurns.{from_empty}
use Rattle.fwd_replay.proofs.LoopFailure.{failed_after}
use Rattle.fwd_replay.proofs.RecordedOver.{off, on}
use Rattle.fwd_replay.proofs.RecordedSplit.{MadeFor, PartsBelow, logged_calls, logged_given, parts_below}

-- ---- what a recorder is known by

abbrev Standing : Type 0
Standing = ℕ × (LoopBelow × Bool)

pub same_recorder : (a b : Recording) → given_to b.name b.start b.stopped ≡ given_to a.name a.start a.stopped → ◌≡◌ {A = Standing} (b.name, (b.start, b.stopped)) (a.name, (a.start, a.stopped))
same_recorder a b is = standing_code.inj (b.name, (b.start, b.stopped)) (a.name, (a.start, a.stopped)) (ap (λ (g : LoopGiven). g.round) is)

-- the first part of the log of a fresh recorder
abbrev pub given_of : Recording → LoopGiven
given_of r = given_to r.name r.start r.stopped

pub fresh_log : (r : Recording) → IsFresh r → record_spec.log_of r ≡ Some (given_of r, [])
fresh_log r fresh = ap (λ (l : List Seen). Some (given_of r, calls_of l)) fresh.seen

-- what a recorder saw that wasn't stopped
pub seen_unstopped : (r0 r : Recording) (calls : List LoopEntry) → IsFresh r0 → IsRecording r → record_spec.log_of r ≡ Some (given_of r0, calls) → r.seen ≡ map Answered calls
seen_unstopped r0 r calls fresh is log =
    let given : given_of r ≡ given_of r0 = logged_given (given_of r, calls_of r.seen) (given_of r0, calls) log in
    let none : r.stopped ≡ false = ap (λ (x : Standing). x.1.1) (same_recorder r0 r given) ∙ fresh.unstopped in
    is.unstopped none ∙ ap (λ (l : List LoopEntry). map Answered l) (logged_calls (given_of r, calls_of r.seen) (given_of r0, calls) log)

-- each event of the loop below may occur
all_may_occur : (given : LoopGiven) (after : Secure) (calls : List LoopEntry) → after.start.call_log ≡ Some (given, []) → IsSecure after → after.below.call_log ≡ Some (given, calls) → AllMayOccur calls
all_may_occur given after calls start is log =
    let so = is.carried in
    let all : after.below.call_log ≡ Some (given, so.below ++ so.begun) = from_empty given after.start.call_log after.below.call_log (so.below ++ so.begun) start so.grew in
    subst AllMayOccur (logged_calls (given, so.below ++ so.begun) (given, calls) (sym all ∙ log)) so.allowed

-- ---- below the keyed loop

module _ (s : AllSettings) (ticks : Option ℕ) (turns : ℕ) (w w2 : CallLogs) (r0 : Recording) (was now : LoopLog) (before after : Secure)
    (fresh : IsFresh r0) (unasked : was ≡ Some (given_of r0, [])) (made : MadeFor s (given_of r0) before) (is : IsSecure after) (log : now ≡ after.below.call_log) where
  abbrev old : CallLogs
  old = on was w

  abbrev new : CallLogs
  new = on now w2

  -- what the keyed loop did with a trace
  kept_of : (trace : List TraceEntry) → HasAnswered before after (loop_part trace) → Kept s was now trace after.out_of_memory
  kept_of trace answered =
      kept_from s after was now (answered.keys ∙ made.keys)
      (ap (λ (b : SecuredBelow). b.call_log) answered.start ∙ made.start ∙ sym unasked) trace (answered.above ∙ ap (λ (l : List LoopEntry). l ++ loop_part trace) made.above) is log

  all_of : (trace : List TraceEntry) (answered : HasAnswered before after (loop_part trace)) → LogsGrew (off w) (off w2) trace → LogsGrew old new ((kept_of trace answered).below ++ map on_loop (kept_of trace answered).begun)
  all_of trace answered asked =
      all_grew s old new (off w) (off w2) trace after.out_of_memory (kept_of trace answered) refl refl refl refl refl refl asked

  began_with : (trace : List TraceEntry) (left : Action RunResult) → Execution (runs_on s ticks turns) trace left → HasAnswered before after (loop_part trace) → LogsGrew (off w) (off w2) trace → BeganBelow old new s ticks turns
  began_with trace left way answered asked =
      let so = kept_of trace answered in
      record {
        trace = trace;
        left = left;
        way = way;
        answers = so.answers;
        below = so.below;
        handshakes = so.handshakes;
        secured = so.secured;
        begun = so.begun;
        short = so.short;
        asked = all_of trace answered asked;
      }

  pub began_below : BeganOver (off w) (off w2) s ticks turns before after → BeganBelow old new s ticks turns
  began_below over = began_with over.trace over.left over.way over.answered over.asked

  -- memory was out in the keyed loop
  pub lost_below : (told : Told) → ReportedOver (off w) (off w2) s ticks turns before after told → BeganBelow old new s ticks turns
  lost_below told over = began_with over.trace (Return over.result) over.way over.answered over.asked

  module _ (going : after.out_of_memory ≡ false) where
    -- the run wasn't stopped by its last tick
    unstopped_below : (told : Told) (over : ReportedOver (off w) (off w2) s ticks turns before after told) → told.stopped_after ≡ None → Execution (runs_on s None turns) over.trace (Return over.result) → SeenBelow old new s ticks turns told
    unstopped_below told over none without =
        let so = kept_of over.trace over.answered in
        let whole : so.below ++ map on_loop so.begun ≡ so.below = ap (λ (l : List LoopEntry). so.below ++ map on_loop l) (so.none going) ∙ append-nil so.below in
        record {
          run = record {
            result = over.result;
            trace = over.trace;
            way = over.way;
            answers = so.answers;
            below = so.below;
            handshakes = so.handshakes;
            secured = so.secured;
            may_occur = so.allowed;
            asked = subst (λ (es : List TraceEntry). LogsGrew old new es) whole (all_of over.trace over.answered over.asked);
            reports = over.reports;
          };
          seen = map Answered (loop_part so.below);
          is_seen = Unstopped over.trace so.below so.handshakes over.result without so.secured;
          seen_by = subst (λ (o : Option ℕ). IsSeenBy o (loop_part so.below) (map Answered (loop_part so.below))) (sym none) refl;
        }

    -- the calls below, in two parts
    parts_of : (first second : List TraceEntry) (heard : ℕ) (at : StoppedHere s ticks turns before after first heard) → HasAnswered before after (loop_part (first ++ second)) → PartsBelow s (given_of r0) at.here after first second
    parts_of first second heard at answered = parts_below s (given_of r0) before at.here after made first second at.answered at.is at.going at.marked answered is going

    parts_secured : (first second : List TraceEntry) (here : Secure) (parts : PartsBelow s (given_of r0) here after first second) → IsSecured (keys_of s) no_handshakes (first ++ second) (parts.first_below ++ parts.second_below) after.state
    parts_secured first second here parts = secured_append (keys_of s) no_handshakes here.state after.state first second parts.first_below parts.second_below parts.first_secured parts.second_secured

    parts_grew : (first second : List TraceEntry) (here : Secure) (parts : PartsBelow s (given_of r0) here after first second) → LogGrew was now (loop_part (parts.first_below ++ parts.second_below))
    parts_grew first second here parts =
        let calls = loop_part (parts.first_below ++ parts.second_below) in
        subst (λ (l : LoopLog). LogGrew was l calls) (sym (log ∙ parts.log))
        (subst (λ (l : LoopLog). LogGrew l (Some (given_of r0, calls)) calls) (sym unasked) (refl, refl))

    abbrev parts_kept : (first second : List TraceEntry) (here : Secure) → HasAnswered before after (loop_part (first ++ second)) → PartsBelow s (given_of r0) here after first second → Kept s was now (first ++ second) after.out_of_memory
    parts_kept first second here answered parts =
        let below = parts.first_below ++ parts.second_below in
        record {
          below = below;
          handshakes = after.state;
          secured = parts_secured first second here parts;
          answers = (kept_of (first ++ second) answered).answers;
          allowed = all_may_occur (given_of r0) after (loop_part below) (ap (λ (b : SecuredBelow). b.call_log) answered.start ∙ made.start) is parts.log;
          begun = [];
          short = inl refl;
          none = λ _. refl;
          grew = subst (λ (es : List TraceEntry). LogGrew was now (loop_part es)) (sym (append-nil below)) (parts_grew first second here parts);
        }

    stopped_below : (told : Told) (over : ReportedOver (off w) (off w2) s ticks turns before after told) (heard : ℕ) → told.stopped_after ≡ Some heard → (first second : List TraceEntry) → over.trace ≡ first ++ second
        → StoppedHere s ticks turns before after first heard → SeenBelow old new s ticks turns told
    stopped_below told over heard some first second split at =
        let answered : HasAnswered before after (loop_part (first ++ second)) = subst (λ (es : List TraceEntry). HasAnswered before after (loop_part es)) split over.answered in
        let asked : LogsGrew (off w) (off w2) (first ++ second) = subst (λ (es : List TraceEntry). LogsGrew (off w) (off w2) es) split over.asked in
        let parts = parts_of first second heard at answered in
        let one = map Answered (loop_part parts.first_below) in
        let two = map Answered (loop_part parts.second_below) in
        let below = parts.first_below ++ parts.second_below in
        let kept = parts_kept first second at.here answered parts in
        let first_seen : at.recording.seen ≡ one = seen_unstopped r0 at.recording (loop_part parts.first_below) fresh at.recorded (at.log ∙ parts.first_log) in
        let grew : LogsGrew old new (below ++ []) = all_grew s old new (off w) (off w2) (first ++ second) after.out_of_memory kept refl refl refl refl refl refl asked in
        record {
          run = record {
            result = over.result;
            trace = first ++ second;
            way = subst (λ (es : List TraceEntry). Execution (runs_on s ticks turns) es (Return over.result)) split over.way;
            answers = kept.answers;
            below = below;
            handshakes = after.state;
            secured = parts_secured first second at.here parts;
            may_occur = kept.allowed;
            asked = subst (λ (es : List TraceEntry). LogsGrew old new es) (append-nil below) grew;
            reports = over.reports;
          };
          seen = one ++ Stopped ∷ two;
          is_seen = StoppedAfter first second parts.first_below parts.second_below at.here.state after.state at.stops parts.first_secured parts.second_secured;
          seen_by =
              subst (λ (o : Option ℕ). IsSeenBy o (loop_part below) (one ++ Stopped ∷ two)) (sym some)
              (record {
                first = one;
                second = two;
                all = ap (λ (l : List LoopEntry). map Answered l) (loop_append parts.first_below parts.second_below) ∙ map-append Answered (loop_part parts.first_below) (loop_part parts.second_below);
                events = ap (λ (l : List Seen). length (events_in l)) (sym first_seen) ∙ at.events;
                is = refl;
              });
        }

    pub seen_below : (told : Told) → ReportedOver (off w) (off w2) s ticks turns before after told → SeenBelow old new s ticks turns told
    seen_below told over = by told.stopped_after refl over.stopped
      where
        by : (o : Option ℕ) → told.stopped_after ≡ o → WasStopped s ticks turns before after over.trace over.result o → SeenBelow old new s ticks turns told
        by None none without = unstopped_below told over none without
        by (Some heard) some at = stopped_below told over heard some at.0 at.1 at.2 at.3

  -- what came of the run, unless memory was out in the keyed loop
  pub runs_below : (out : Bool) → after.out_of_memory ≡ out → (outcome result : Result Told Memory) → ReportsOver (off w) (off w2) s ticks turns before after outcome → IsUnlessOut out outcome result → RunsBelow old new s ticks turns result
  runs_below true has (Ok told) result over is = subst (λ (r : Result Told Memory). RunsBelow old new s ticks turns r) (sym is.1) (lost_below told over)
  runs_below true has (Err e) result over is = subst (λ (r : Result Told Memory). RunsBelow old new s ticks turns r) (sym is.1) (began_below over)
  runs_below false has (Ok told) result over is = subst (λ (r : Result Told Memory). RunsBelow old new s ticks turns r) (sym is) (seen_below has told over)
  runs_below false has (Err e) result over is = subst (λ (r : Result Told Memory). RunsBelow old new s ticks turns r) (sym is) (began_below over)

-- ---- the keyed loop afterwards

pub keyed_answered : {E : Type 0} (a b : CallLogs) (s : AllSettings) (ticks : Option ℕ) (turns : ℕ) (before after : Secure) (outcome : Result Told E) → ReportsOver a b s ticks turns before after outcome → (calls : List LoopEntry) × HasAnswered before after calls
keyed_answered a b s ticks turns before after (Ok told) over = (loop_part over.trace, over.answered)
keyed_answered a b s ticks turns before after (Err e) over = (loop_part over.trace, over.answered)

-- a run that ended because the loop failed
pub keyed_failed : {E : Type 0} (a b : CallLogs) (s : AllSettings) (ticks : Option ℕ) (turns : ℕ) (before after : Secure) (outcome : Result Told E) → before.above ≡ [] → ReportsOver a b s ticks turns before after outcome → ending_told outcome ≡ ending.LoopFailed → has_failed after.above ≡ true
keyed_failed a b s ticks turns before after (Ok told) none over is =
    let failed : over.result.end ≡ LoopFailed = end_failed (report s over.result.history) over.result.end (sym (ap (λ (r : Reported). r.ending) over.reports) ∙ is) in
    ap has_failed (over.answered.above ∙ ap (λ (l : List LoopEntry). l ++ loop_part over.trace) none) ∙ failed_after s (ends_of s) ticks turns (Some []) over.trace over.result over.way failed
keyed_failed a b s ticks turns before after (Err e) none over is = absurd (cc is)

-- ---- the ending, unless memory was out

pub ending_unless : (out : Bool) (outcome result : Result Told Memory) → IsUnlessOut out outcome result → (ending_told result ≡ ending.Memory) ⊎ (result ≡ outcome)
ending_unless true outcome result is = inl (ap ending_told is.1)
ending_unless false outcome result is = inr is

pub cause_unless : (before now : ℕ) (out : Bool) (outcome result : Result Told Memory) (why : Ending) → (ending.Memory ≡ why → ⊥) → IsUnlessOut out outcome result → HasCause before now (ending_told outcome ≡ why) → HasCause before now (ending_told result ≡ why)
cause_unless before now out outcome result why other is cause = record { later = cause.later; cause = λ failed. cause.cause (by (ending_unless out outcome result is) failed) }
  where
    by : (ending_told result ≡ ending.Memory) ⊎ (result ≡ outcome) → ending_told result ≡ why → ending_told outcome ≡ why
    by (inl memory) failed = absurd (other (sym memory ∙ failed))
    by (inr same) failed = sym (ap ending_told same) ∙ failed

heard_unless : (most : ℕ) (a b : LoopCounts) (out : Bool) (outcome result : Result Told Memory) → IsUnlessOut out outcome result → EventsTaken (heard_in most (ending_told outcome)) a b → EventsTaken (heard_in most (ending_told result)) a b
heard_unless most a b out outcome result is heard = by (ending_unless out outcome result is)
  where
    by : (ending_told result ≡ ending.Memory) ⊎ (result ≡ outcome) → EventsTaken (heard_in most (ending_told result)) a b
    by (inl memory) = subst (λ (e : Ending). EventsTaken (heard_in most e) a b) (sym memory) (events_all (heard_in most (ending_told outcome)) 0 (omega arith) heard)
    by (inr same) = subst (λ (r : Result Told Memory). EventsTaken (heard_in most (ending_told r)) a b) (sym same) heard

-- the events of the loop below
pub counts_keyed : (s : AllSettings) (most : ℕ) (before after : Secure) (first_counts last_counts : LoopCounts) (outcome result : Result Told Memory) → most < 2 ^ 64 → after.keys ≡ keys_of s → after.start ≡ before.start → IsSecure after → before.start.counts ≡ first_counts → last_counts ≡ after.below.counts
    → IsUnlessOut after.out_of_memory outcome result → EventsTaken (heard_in most (ending_told outcome)) (counts_of before) (counts_of after) → EventsTaken (events_below s (heard_in most (ending_told result))) first_counts last_counts
counts_keyed s most before after first_counts last_counts outcome result fits keys start is first last unless heard =
    let n = heard_in most (ending_told result) in
    let all = events_taken s n before after (heard_fits most (ending_told result) fits) keys start is (heard_unless most (counts_of before) (counts_of after) after.out_of_memory outcome result unless heard) in
    subst (λ (c : LoopCounts). EventsTaken (events_below s n) first_counts c) (sym last) (subst (λ (c : LoopCounts). EventsTaken (events_below s n) c after.below.counts) first all)

-- the failures of the loop below
pub faults_keyed : (a b : CallLogs) (s : AllSettings) (ticks : Option ℕ) (turns : ℕ) (before after : Secure) (outcome : Result Told Memory) → before.above ≡ [] → IsSecure after → after.start ≡ before.start
    → ReportsOver a b s ticks turns before after outcome → HasCause before.start.faults after.below.faults (ending_told outcome ≡ ending.LoopFailed)
faults_keyed a b s ticks turns before after outcome none is start over =
    subst (λ (n : ℕ). HasCause n after.below.faults (ending_told outcome ≡ ending.LoopFailed)) (ap (λ (x : SecuredBelow). x.faults) start)
    (record { later = is.cause.later; cause = λ failed. is.cause.cause (keyed_failed a b s ticks turns before after outcome none over failed) })
