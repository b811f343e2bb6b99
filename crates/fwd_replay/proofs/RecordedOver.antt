-- A run that is recorded, over its keyed loop.
use Rattle.std.proofs.Common.{◌≡◌, ℕ, ◌+◌, ◌-◌, ◌≤◌, Bool, true, false, List, [], ◌∷◌, ◌++◌, length, Option, Some, None, Result, Ok, Err, IfOk, refl, sym, ◌∙◌, ap, subst, append_assoc, arith}
use Rattle.fwd_base.specs.declared.memory.Memory.{Memory}
use Rattle.fwd_outside.specs.Cause.{HasCause}
use Rattle.fwd_outside.specs.Program.{Return, Execution}
use Rattle.fwd_outside.specs.Log.{LogGrew}
use Rattle.fwd_outside.specs.Loop.{LoopCounts, LoopEntry, LoopLog}
use Rattle.fwd_outside.specs.declared.ends.Ends.{Ends}
use Rattle.fwd_outside.specs.declared.happening.Happening.TheVariants as happening
use Rattle.fwd_outside.proofs.Executions.{way_trans}
use Rattle.fwd_settings.specs.Endpoints.{ends_of}
use Rattle.fwd_settings.specs.declared.settings_types.AllSettings.{AllSettings}
use Rattle.fwd_model.specs.Fact.{History}
use Rattle.fwd_model.specs.Trace.{Action, TraceEntry, loop_part}
use Rattle.fwd_model.specs.CallLogs.{CallLogs, LogsGrew, IsBegun}
use Rattle.fwd_model.specs.Run.{RunResult, lived, run, after_recovery, steps_on}
use Rattle.fwd_model.proofs.CallLogs.{loop_append, logs_grew_both}
use Rattle.fwd_engine_run.specs.Engine.{Engine}
use Rattle.fwd_engine_state.specs.LoopCounters.{EventsTaken}
use Rattle.fwd_engine_run.specs.RunOutcome.{RanToEnd, RunOutcome, IsAtEnd, end_of}
use Rattle.fwd_engine_run.specs.RunOutcome as runs
use Rattle.fwd_engine_run.specs.RunParts.{EndsBeforeLast, PausesAtLast}
use Rattle.fwd_engine_run.specs.declared.kept_offsets.KeptOffsets.{KeptOffsets}
use Rattle.fwd_engine_run.specs.declared.run_loop.RunEnd.{RunEnd}
use Rattle.fwd_engine_run.specs.declared.run_loop.RunEnd.TheVariants as run_end
use Rattle.fwd_engine_run.specs.declared.run_parts.Paused.{Paused}
use Rattle.fwd_engine_run.specs.declared.run_parts.Paused.TheVariants as paused_so
use Rattle.fwd_engine_run.proofs.EventCounts.{events_to_end}
use Rattle.fwd_engine_run.proofs.StoppedRuns.{stop_counts_no_ticks}
use Rattle.fwd_record.specs.Recorded.{heard_in as events_in}
use Rattle.fwd_record.specs.Recording.{Recording, IsRecording}
use Rattle.fwd_record.specs.Recording as record_spec
use Rattle.fwd_secure.specs.LoopBelow.{LoopBelow}
use Rattle.fwd_secure.specs.Secure.{Secure, IsSecure, counts_of, log_of}
use Rattle.fwd_replay.specs.RecordedRun.{StopsAfter, runs_on}
use Rattle.fwd_replay.specs.LiveRun.{ending_of, heard_in}
use Rattle.fwd_replay.specs.RecordedParts.{BeganOver, HasAnswered, RanOver, ReportedOver, ReportsOver, RunsOver, StoppedHere, end_finished, ending_told, finished, heard_finished, told_of}
use Rattle.fwd_replay.specs.Text.{report, reported_by}
use Rattle.fwd_replay.specs.declared.report.Ending.{Ending}
use Rattle.fwd_replay.specs.declared.report.Ending.TheVariants as ending
use Rattle.fwd_replay.specs.declared.report.Reported.{Reported}
use Rattle.fwd_replay.specs.declared.recorded_run.Finish.{Finish}
use Rattle.fwd_replay.specs.declared.recorded_run.Told.{Told}
use Rattle.fwd_replay.proofs.LiveRun.{disk_cause_live, heard_live, keeper_cause_live, whole}
use Rattle.fwd_replay.proofs.KeyedTurns.{standing_keys, standing_mark, standing_name, standing_start}

-- ---- the calls that a keyed loop answered

pub answered_of : (old new : Secure) (calls : List LoopEntry) → LogGrew (log_of old) (log_of new) calls → HasAnswered old new calls
answered_of old new calls grew = record {
  name = standing_name old new grew.0;
  keys = standing_keys old new grew.0;
  start = standing_start old new grew.0;
  above = grew.1;
}

answered_both : (old mid new : Secure) (xs ys : List LoopEntry) → HasAnswered old mid xs → HasAnswered mid new ys → HasAnswered old new (xs ++ ys)
answered_both old mid new xs ys first second = record {
  name = second.name ∙ first.name;
  keys = second.keys ∙ first.keys;
  start = second.start ∙ first.start;
  above = second.above ∙ ap (λ (l : List LoopEntry). l ++ ys) first.above ∙ append_assoc old.above xs ys;
}

-- the keyed loop with a mark
abbrev pub with_mark : Secure → Secure
with_mark mid = record mid { marked = mid.below.call_log }

-- after a mark
answered_marked : (mid new : Secure) (calls : List LoopEntry) → LogGrew (log_of (with_mark mid)) (log_of new) calls → HasAnswered mid new calls
answered_marked mid new calls grew =
    let is = answered_of (with_mark mid) new calls grew in
    record { name = is.name; keys = is.keys; start = is.start; above = is.above }

-- ---- worlds

-- the world with this log of the loop, and without one
abbrev pub on : LoopLog → CallLogs → CallLogs
on log w = record w { loop = log }

abbrev pub off : CallLogs → CallLogs
off w = record w { loop = None }

without_loop : (a b : LoopLog) (w w2 : CallLogs) (es : List TraceEntry) → LogsGrew (on a w) (on b w2) es → LogsGrew (off w) (off w2) es
without_loop a b w w2 es grew = record { loop = tt; disk = grew.disk; files = grew.files; keeper = grew.keeper }

-- ---- the run

module _ (s : AllSettings) (ticks : Option ℕ) (turns : ℕ) (w w2 w3 : CallLogs) (old : Secure) where
  -- it ended before its last tick
  pub ended_over : (new : Secure) (ends : Ends) (engine : Engine) (end : RunEnd) → ends ≡ ends_of s → EndsBeforeLast (on (log_of old) w) (on (log_of new) w2) s ends ticks turns [] engine end
      → RanOver (off w) (off w2) s ticks turns old new engine (record { end = end; stopped_after = None })
  ended_over new ends engine end are given =
      let ran = subst (λ (e : Ends). EndsBeforeLast (on (log_of old) w) (on (log_of new) w2) s e ticks turns [] engine end) are given in
      record {
        history = ran.history;
        trace = ran.entries;
        way = ran.with_ticks;
        asked = without_loop (log_of old) (log_of new) w w2 ran.entries ran.asked;
        answered = answered_of old new (loop_part ran.entries) ran.asked.loop;
        stopped = ran.without;
        at = ran.at;
      }

  -- memory ran out
  pub began_over : (new : Secure) (ends : Ends) → ends ≡ ends_of s → IsBegun (on (log_of old) w) (on (log_of new) w2) (after_recovery s ends ticks turns (Some [])) → BeganOver (off w) (off w2) s ticks turns old new
  began_over new ends are given =
      let began = subst (λ (e : Ends). IsBegun (on (log_of old) w) (on (log_of new) w2) (after_recovery s e ticks turns (Some []))) are given in
      record {
        trace = began.1.entries;
        left = began.0;
        way = began.1.way;
        asked = without_loop (log_of old) (log_of new) w w2 began.1.entries began.1.asked;
        answered = answered_of old new (loop_part began.1.entries) began.1.asked.loop;
      }

  pub pauses : (mid : Secure) (ends : Ends) (engine : Engine) (kept : KeptOffsets) (left : ℕ) → ends ≡ ends_of s → PausesAtLast (on (log_of old) w) (on (log_of mid) w2) s ends ticks turns [] engine kept left
      → PausesAtLast (on (log_of old) w) (on (log_of mid) w2) s (ends_of s) ticks turns [] engine kept left
  pauses mid ends engine kept left are given = subst (λ (e : Ends). PausesAtLast (on (log_of old) w) (on (log_of mid) w2) s e ticks turns [] engine kept left) are given

  module _ (mid : Secure) (engine : Engine) (kept : KeptOffsets) (left : ℕ) (paused : PausesAtLast (on (log_of old) w) (on (log_of mid) w2) s (ends_of s) ticks turns [] engine kept left) where
    -- what follows the last tick; no later tick is the last
    on_from : (es : List TraceEntry) (p : Action RunResult) → Execution (steps_on s (run s None left) happening.Stop paused.now) es p → Execution (runs_on s ticks turns) (paused.entries ++ es) p
    on_from es p way =
        way_trans (runs_on s ticks turns) (steps_on s (run s ticks left) happening.Stop paused.now) p paused.entries es paused.with_ticks
        (subst (λ (q : Action RunResult). Execution q es p) (sym (stop_counts_no_ticks s ticks left paused.now)) way)

    first_answered : HasAnswered old mid (loop_part paused.entries)
    first_answered = answered_of old mid (loop_part paused.entries) paused.asked.loop

    first_asked : LogsGrew (off w) (off w2) paused.entries
    first_asked = without_loop (log_of old) (log_of mid) w w2 paused.entries paused.asked

    -- memory was out at the last tick
    pub began_to_last : BeganOver (off w) (off w2) s ticks turns old mid
    began_to_last = record {
      trace = paused.entries;
      left = steps_on s (run s ticks left) happening.Stop paused.now;
      way = paused.with_ticks;
      asked = first_asked;
      answered = first_answered;
    }

    module _ (marked new : Secure) (mark : marked ≡ with_mark mid) where
      both_asked : (es : List TraceEntry) → LogsGrew (on (log_of marked) w2) (on (log_of new) w3) es → LogsGrew (off w) (off w3) (paused.entries ++ es)
      both_asked es more = logs_grew_both (off w) (off w2) (off w3) paused.entries es first_asked (without_loop (log_of marked) (log_of new) w2 w3 es more)

      later_grew : (es : List TraceEntry) → LogsGrew (on (log_of marked) w2) (on (log_of new) w3) es → LogGrew (log_of (with_mark mid)) (log_of new) (loop_part es)
      later_grew es more = subst (λ (m : Secure). LogGrew (log_of m) (log_of new) (loop_part es)) mark more.loop

      both_parts : (es : List TraceEntry) → LogsGrew (on (log_of marked) w2) (on (log_of new) w3) es → HasAnswered old new (loop_part (paused.entries ++ es))
      both_parts es more =
          subst (λ (l : List LoopEntry). HasAnswered old new l) (sym (loop_append paused.entries es))
          (answered_both old mid new (loop_part paused.entries) (loop_part es) first_answered (answered_marked mid new (loop_part es) (later_grew es more)))

      -- memory ran out after the last tick
      pub began_on : IsBegun (on (log_of marked) w2) (on (log_of new) w3) (steps_on s (run s None left) happening.Stop paused.now) → BeganOver (off w) (off w3) s ticks turns old new
      began_on began =
          let es = began.1.entries in
          record {
            trace = paused.entries ++ es;
            left = began.0;
            way = on_from es began.0 began.1.way;
            asked = both_asked es began.1.asked;
            answered = both_parts es began.1.asked;
          }

      -- and then the run went on to its end
      pub stopped_over : (engine2 : Engine) (end : RunEnd) → RanToEnd (on (log_of marked) w2) (on (log_of new) w3) s (steps_on s (run s None left) happening.Stop paused.now) engine2 end
          → IsSecure mid → mid.out_of_memory ≡ false → (recording : Recording) → record_spec.log_of recording ≡ mid.below.call_log → IsRecording recording
          → (heard : ℕ) → heard ≡ length (events_in recording.seen) → RanOver (off w) (off w3) s ticks turns old new engine2 (record { end = end; stopped_after = Some heard })
      stopped_over engine2 end ran is going recording log recorded heard counted =
          let es = ran.did.entries in
          record {
            history = ran.history;
            trace = paused.entries ++ es;
            way = on_from es (Return (lived ran.history (end_of end))) ran.did.way;
            asked = both_asked es ran.did.asked;
            answered = both_parts es ran.did.asked;
            stopped = (
              paused.entries,
              es,
              refl,
              record {
                stops = record { now = paused.now; left = left; stops = paused.with_ticks; goes_on = paused.without };
                here = mid;
                is = is;
                going = going;
                answered = first_answered;
                marked = standing_mark (with_mark mid) new (later_grew es ran.did.asked).0;
                recording = recording;
                log = log;
                recorded = recorded;
                events = sym counted;
              },
            );
            at = ran.at;
          }

-- ---- the report

module _ (a b : CallLogs) (s : AllSettings) (ticks : Option ℕ) (turns : ℕ) (old new : Secure) (engine : Engine) (finish : Finish) (over : RanOver a b s ticks turns old new engine finish) where
  pub reported_over : (reported : Reported) → reported ≡ reported_by (report s over.history) (end_of finish.end) → ReportedOver a b s ticks turns old new (record { reported = reported; stopped_after = finish.stopped_after })
  reported_over reported is = record {
    result = lived over.history (end_of finish.end);
    trace = over.trace;
    way = over.way;
    asked = over.asked;
    answered = over.answered;
    stopped = over.stopped;
    reports = is;
  }

  -- memory ran out for the report
  pub unreported : BeganOver a b s ticks turns old new
  unreported = record {
    trace = over.trace;
    left = Return (lived over.history (end_of finish.end));
    way = over.way;
    asked = over.asked;
    answered = over.answered;
  }

  pub reports_told : {E : Type 0} (r : Result Reported E) → IfOk r (λ reported. reported ≡ reported_by (report s over.history) (end_of finish.end)) → ReportsOver a b s ticks turns old new (told_of r finish.stopped_after)
  reports_told (Ok reported) is = reported_over reported is
  reports_told (Err e) is = unreported

-- how many events, how it ended, by the report
pub told_heard : {E : Type 0} (a b : LoopCounts) (most : ℕ) (finish : Finish) (text : List ℕ) (r : Result Reported E) → IfOk r (λ x. x ≡ reported_by text (end_of finish.end)) → EventsTaken (heard_finished {E = Memory} most (Ok finish)) a b
    → EventsTaken (heard_in most (ending_told (told_of r finish.stopped_after))) a b
told_heard {E} a b most finish text (Ok x) is heard = heard_live {E = E} a b most finish.end text (Ok x) is heard
told_heard {E} a b most finish text (Err e) is heard = heard_live {E = E} a b most finish.end text (Err e) is heard

told_cause : {E : Type 0} (before now : ℕ) (finish : Finish) (r : Result Reported E) (why : Ending) → HasCause before now (ending_of r ≡ why) → HasCause before now (ending_told (told_of r finish.stopped_after) ≡ why)
told_cause before now finish (Ok x) why cause = cause
told_cause before now finish (Err e) why cause = cause

pub told_keeper : {E : Type 0} (before now : ℕ) (finish : Finish) (text : List ℕ) (r : Result Reported E) → IfOk r (λ x. x ≡ reported_by text (end_of finish.end)) → HasCause before now (whole finish.end ≡ whole run_end.KeeperFailed)
    → HasCause before now (ending_told (told_of r finish.stopped_after) ≡ ending.KeeperFailed)
told_keeper before now finish text r is cause = told_cause before now finish r ending.KeeperFailed (keeper_cause_live before now finish.end text r is cause)

pub told_disk : {E : Type 0} (before now : ℕ) (finish : Finish) (text : List ℕ) (r : Result Reported E) → IfOk r (λ x. x ≡ reported_by text (end_of finish.end)) → before ≤ now
    → HasCause before now (ending_told (told_of r finish.stopped_after) ≡ ending.DiskFailed)
told_disk before now finish text r is later = told_cause before now finish r ending.DiskFailed (disk_cause_live before now finish.end text r is later)

-- what came of a run that went on after its last tick
module _ (s : AllSettings) (ticks : Option ℕ) (turns : ℕ) (w w2 w3 : CallLogs) (old mid marked new : Secure) (engine engine2 : Engine) (kept : KeptOffsets) (left : ℕ)
    (paused : PausesAtLast (on (log_of old) w) (on (log_of mid) w2) s (ends_of s) ticks turns [] engine kept left) (mark : marked ≡ with_mark mid) where
  pub finishes_over : (result : Result RunEnd Memory) → RunOutcome (on (log_of marked) w2) (on (log_of new) w3) s (steps_on s (run s None left) happening.Stop paused.now) engine2 result
      → IsSecure mid → mid.out_of_memory ≡ false → (recording : Recording) → record_spec.log_of recording ≡ mid.below.call_log → IsRecording recording
      → (heard : ℕ) → heard ≡ length (events_in recording.seen) → RunsOver (off w) (off w3) s ticks turns old new engine2 (finished result (Some heard))
  finishes_over (Ok end) ran is going recording log recorded heard counted = stopped_over s ticks turns w w2 w3 old mid engine kept left paused marked new mark engine2 end ran is going recording log recorded heard counted
  finishes_over (Err e) began is going recording log recorded heard counted = began_on s ticks turns w w2 w3 old mid engine kept left paused marked new mark began

-- the events of both parts
both_heard : (a b c : LoopCounts) (most left : ℕ) (result : Result RunEnd Memory) (stopped : Option ℕ) → EventsTaken (most - left) a b → EventsTaken (runs.heard_in left result) b c → EventsTaken (heard_finished most (finished result stopped)) a c
both_heard a b c most left (Ok end) stopped first second = events_to_end {E = Memory} most left (Ok end) first second
both_heard a b c most left (Err e) stopped first second = events_to_end {E = Memory} most left (Err e) first second

-- the same, if the keyed loop was marked between them
pub marked_heard : (old mid marked new : Secure) (most left : ℕ) (result : Result RunEnd Memory) (stopped : Option ℕ) → marked ≡ with_mark mid → EventsTaken (most - left) (counts_of old) (counts_of mid) → EventsTaken (runs.heard_in left result) (counts_of marked) (counts_of new)
    → EventsTaken (heard_finished most (finished result stopped)) (counts_of old) (counts_of new)
marked_heard old mid marked new most left result stopped mark first second =
    both_heard (counts_of old) (counts_of mid) (counts_of new) most left result stopped first (subst (λ (m : Secure). EventsTaken (runs.heard_in left result) (counts_of m) (counts_of new)) mark second)

-- ---- the keeper

later_both : (a b c : ℕ) → a ≤ b → b ≤ c → a ≤ c
later_both a b c first second = omega (arith, first, second)

-- a run that ended before its last tick because the keeper failed
pub ended_keeper : (before now : ℕ) (end : RunEnd) → HasCause before now (◌≡◌ {A = Result Paused Memory} (Ok (paused_so.Ended end)) (Ok (paused_so.Ended run_end.KeeperFailed))) → HasCause before now (whole end ≡ whole run_end.KeeperFailed)
ended_keeper before now end cause = record { later = cause.later; cause = λ failed. cause.cause (ap (λ (e : RunEnd). Ok (paused_so.Ended e)) (same_end failed)) }
  where
    same_end : whole end ≡ whole run_end.KeeperFailed → end ≡ run_end.KeeperFailed
    same_end is = cc is

-- after the last tick no run ends because the keeper failed
pub finished_keeper : (before at_last now : ℕ) (result : Result RunEnd Memory) (stopped : Option ℕ) → before ≤ at_last → at_last ≤ now → (result ≡ Ok run_end.KeeperFailed → ⊥)
    → HasCause before now (end_finished (finished result stopped) ≡ Ok run_end.KeeperFailed)
finished_keeper before at_last now (Ok end) stopped first second never = record { later = later_both before at_last now first second; cause = λ failed. absurd (never failed) }
finished_keeper before at_last now (Err e) stopped first second never = record { later = later_both before at_last now first second; cause = λ failed. absurd (cc failed) }
