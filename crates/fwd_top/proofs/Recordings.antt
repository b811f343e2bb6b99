-- What holds of a run holds of a recorded run.
use Rattle.std.proofs.Common.{◌≡◌, ℕ, ◌+◌, Bool, false, List, [], ◌∷◌, ◌++◌, map, Option, Some, None, Result, Ok, Err, refl, sym, ap, subst, ◌∙◌}
use Rattle.fwd_outside.specs.Program.{Program, Return, Ask, bind, Execution}
use Rattle.fwd_outside.proofs.Executions.{way_bind, way_trans}
use Rattle.fwd_outside.specs.declared.happening.Happening.{Happening}
use Rattle.fwd_outside.specs.declared.happening.Happening.TheVariants as happening
use Rattle.fwd_outside.specs.Loop.{LoopCall, LoopAnswer, LoopEntry, Wait, MayOccur}
use Rattle.fwd_outside.specs.Disk.{DiskProgram}
use Rattle.fwd_outside.specs.NewLinks.{AreNewLinks}
use Rattle.fwd_outside.specs.LoopAnswers.{AreLoopAnswers}
use Rattle.fwd_outside.proofs.LoopAnswers.{answers_none}
use Rattle.fwd_backlog.specs.declared.file_read.FileRead.{FileRead}
use Rattle.fwd_backlog.specs.LoadProgram.{load_program}
use Rattle.fwd_settings.specs.Endpoints.{ends_of}
use Rattle.fwd_settings.specs.Requirements.{MeetsRequirements}
use Rattle.fwd_settings.specs.declared.settings_types.AllSettings.{AllSettings}
use Rattle.fwd_base.specs.declared.memory.Memory.{Memory}
use Rattle.fwd_script.specs.declared.schedule.Schedule.{Schedule}
use Rattle.fwd_script.proofs.RoundTrip.{written_reads}
use Rattle.fwd_model.specs.Fact.{History}
use Rattle.fwd_model.specs.Trace.{Call, Answer, TraceEntry, Action, OnLoop, OnDisk, OnFiles, OnKeeper, Note, loop_entry, loop_part}
use Rattle.fwd_model.specs.CallLogs.{CallLogs}
use Rattle.fwd_model.specs.DeviceActions.{on_disk}
use Rattle.fwd_model.specs.RecoveryActions.{loaded, loads_from, notes_files, recovers}
use Rattle.fwd_model.specs.Run.{RunResult, life, after_recovery}
use Rattle.fwd_model.proofs.CallLogs.{loop_append}
use Rattle.fwd_record.specs.Allowed.{IsAllowed, AreAllowed}
use Rattle.fwd_record.specs.Seen.{Seen, Answered, calls_of}
use Rattle.fwd_record.proofs.Stopping.{calls_stopped}
use Rattle.fwd_secure.specs.Allowed.{MayAnswer, AllMayOccur}
use Rattle.fwd_secure.specs.Handshakes.{Handshakes, no_handshakes}
use Rattle.fwd_secure_settings.specs.Keys.{keys_of}
use Rattle.fwd_secure_trace.specs.Secured.{IsSecured}
use Rattle.fwd_secure_trace.proofs.Secured.{secured_append}
use Rattle.fwd_theorem_delivery.specs.Guarantee.{KeepsGuarantee}
use Rattle.fwd_replay.specs.LiveRun.{RunsToEnd}
use Rattle.fwd_replay.proofs.KeyedTurns.{unlooped}
use Rattle.fwd_replay.proofs.RecordedNotes.{calls_answered}
use Rattle.fwd_replay.specs.RecordedRun.{RanSo, IsSeen, Unstopped, StoppedAfter, IsRecorded, Failed, RanOutOfMemory}
use Rattle.fwd_replay.specs.declared.recorded_run.Ran.{Ran}
use Rattle.fwd_replay.specs.declared.recorded_run.Ran.TheVariants as ran
use Rattle.fwd_replay.specs.declared.report.Reported.{Reported}
use Rattle.fwd_theorem_recorded.specs.Replays.{RunReplays}
use Rattle.fwd_top.specs.Delivery.{KeepsToLastTurn}
use Rattle.fwd_top.specs.RecordedOutcome.{IsReadBack, RecordedIsDelivered, RecordReplays, trace_of}

-- ---- recovery asks nothing of the loop

abbrev IsUnlooped : Call → Type 0
IsUnlooped (OnLoop call) = ⊥
IsUnlooped call = Unit {0}

abbrev AsksNoLoop : {R : Type 0} → Action R → Type 0
AsksNoLoop (Return x) = Unit {0}
AsksNoLoop (Ask call go) = IsUnlooped call × ((answer : Answer call) → AsksNoLoop (go answer))

none_bind : {R S : Type 0} (p : Action R) (next : R → Action S) → AsksNoLoop p → ((x : R) → AsksNoLoop (next x)) → AsksNoLoop (bind p next)
none_bind (Return x) next none each = each x
none_bind (Ask call go) next none each = (none.0, λ answer. none_bind (go answer) next (none.1 answer) each)

none_on_disk : {R : Type 0} (p : DiskProgram R) → AsksNoLoop (on_disk p)
none_on_disk (Return x) = tt
none_on_disk (Ask call go) = (tt, λ answer. none_on_disk (go answer))

none_noted : (number : ℕ) (reads : List FileRead) (h : History) → AsksNoLoop (notes_files number reads h)
none_noted number [] h = tt
none_noted number (read ∷ reads) h = (tt, λ answer. none_noted (number + 1) reads _)

none_loaded : (reads : Option (List FileRead)) → AsksNoLoop (loaded reads)
none_loaded None = tt
none_loaded (Some reads) = none_noted 1 reads []

none_from : (path : Option (List ℕ)) → AsksNoLoop (loads_from path)
none_from None = tt
none_from (Some root) = none_bind (on_disk (load_program root)) loaded (none_on_disk (load_program root)) none_loaded

none_recovers : (s : AllSettings) → AsksNoLoop (recovers s)
unfolding recovers
none_recovers s = none_from s.service.path

no_entry : (call : Call) (answer : Answer call) → IsUnlooped call → loop_entry call answer ≡ []
no_entry (OnLoop call) answer is = absurd is
no_entry (OnDisk call) answer is = refl
no_entry (OnFiles call) answer is = refl
no_entry (OnKeeper call) answer is = refl
no_entry (Note fact) answer is = refl

no_loop : {R : Type 0} (p q : Action R) (es : List TraceEntry) → AsksNoLoop p → Execution p es q → loop_part es ≡ []
no_loop p q [] none way = refl
no_loop (Return x) q (e ∷ es) none way = absurd way
no_loop (Ask call go) q (e ∷ es) none way =
    let rest : loop_part es ≡ [] = no_loop (go way.0) q es (none.1 way.0) way.2 in
    ap (λ (x : TraceEntry). loop_part (x ∷ es)) way.1 ∙ ap (λ (l : List LoopEntry). l ++ loop_part es) (no_entry call way.0 none.0) ∙ rest

-- ---- its loop below brings what may occur

unendless : (endless : Bool) (paused : ℕ) (brought : Happening) → MayOccur endless paused brought → MayOccur false paused brought
unendless endless paused happening.End may = refl
unendless endless paused brought may = may

may_answer : (endless : Bool) (call : LoopCall) (answer : LoopAnswer call) → IsAllowed endless call answer → MayAnswer call answer
may_answer endless (Wait until paused) brought may = unendless endless paused brought may
may_answer endless call answer may = tt

all_may_occur : (endless : Bool) (calls : List LoopEntry) → AreAllowed endless calls → AllMayOccur calls
all_may_occur endless [] all = tt
all_may_occur endless (e ∷ calls) all = (may_answer endless e.call e.answer all.0, all_may_occur endless calls all.1)

both_answered : (first second : List LoopEntry) → calls_of (map Answered first ++ map Answered second) ≡ first ++ second
both_answered [] second = calls_answered second
both_answered (e ∷ first) second = ap (λ (l : List LoopEntry). e ∷ l) (both_answered first second)

-- ---- a recorded run is a run

module _ (s : AllSettings) (ticks : Option ℕ) (turns : ℕ) where
  loads_on : (entries : List TraceEntry) (found : Option History) → Execution (recovers s) entries (Return found) → Execution (life s (ends_of s) ticks turns) entries (after_recovery s (ends_of s) ticks turns found)
  unfolding life
  loads_on entries found way = way_bind (recovers s) (Return found) entries (after_recovery s (ends_of s) ticks turns) way

  runs_on : (recovery trace : List TraceEntry) (found : Option History) (left : Action RunResult) → Execution (recovers s) recovery (Return found) → Execution (after_recovery s (ends_of s) ticks turns found) trace left
      → Execution (life s (ends_of s) ticks turns) (recovery ++ trace) left
  runs_on recovery trace found left loads way = way_trans (life s (ends_of s) ticks turns) (after_recovery s (ends_of s) ticks turns found) left recovery trace (loads_on recovery found loads) way

  secured_of : {trace below : List TraceEntry} {handshakes : Handshakes} {seen : List Seen} → IsSeen s ticks turns trace below handshakes seen → IsSecured (keys_of s) no_handshakes trace below handshakes
  secured_of (Unstopped _ _ _ result way secured) = secured
  secured_of (StoppedAfter first second first_below second_below stopped last stops before after) = secured_append (keys_of s) no_handshakes stopped last first second first_below second_below before after

  -- the recorder saw the calls on the loop below
  seen_below : {trace below : List TraceEntry} {handshakes : Handshakes} {seen : List Seen} → IsSeen s ticks turns trace below handshakes seen → calls_of seen ≡ loop_part below
  seen_below (Unstopped trace below handshakes result way secured) = calls_answered (loop_part below)
  seen_below (StoppedAfter first second first_below second_below stopped last stops before after) =
      calls_stopped (map Answered (loop_part first_below)) (map Answered (loop_part second_below)) ∙ both_answered (loop_part first_below) (loop_part second_below) ∙ sym (loop_append first_below second_below)

  module _ (old new : CallLogs) (endless : Bool) where
    abbrev whole : (reported : Reported) (made : Result Schedule Memory) (is : IsRecorded s ticks turns old new endless reported made) → RunsToEnd s ticks turns old new reported
    whole reported made is =
        let none : loop_part is.recovery ≡ [] = no_loop (recovers s) (Return (Some [])) is.recovery (none_recovers s) is.loads in
        record {
          lived = is.result;
          trace = is.recovery ++ is.trace;
          way = runs_on is.recovery is.trace (Some []) (Return is.result) is.loads is.way;
          answers = subst (λ (es : List LoopEntry). AreLoopAnswers es) (sym (loop_append is.recovery is.trace ∙ ap (λ (l : List LoopEntry). l ++ loop_part is.trace) none)) is.answers;
          below = is.recovery ++ is.below;
          handshakes = is.handshakes;
          secured = secured_append (keys_of s) no_handshakes no_handshakes is.handshakes is.recovery is.trace is.recovery is.below (unlooped (keys_of s) no_handshakes is.recovery none)
              (secured_of is.is_seen);
          allowed = subst AllMayOccur (sym (loop_append is.recovery is.below ∙ ap (λ (l : List LoopEntry). l ++ loop_part is.below) none))
              (all_may_occur endless (loop_part is.below) (subst (λ (l : List LoopEntry). AreAllowed endless l) (seen_below is.is_seen) is.allowed));
          asked = is.asked;
          reports = is.reports;
        }

    -- the calls of the engine lead from the begin of a run
    pub way_of : (went : Ran) (comes : RanSo s ticks turns old new endless went) → (left : Action RunResult) × Execution (life s (ends_of s) ticks turns) (trace_of s ticks turns old new endless went comes) left
    way_of ran.NotRecordable found = (after_recovery s (ends_of s) ticks turns (Some found.history), loads_on found.did.entries (Some found.history) found.did.way)
    way_of (ran.Unrecorded reported) (Failed runs none) = (Return runs.lived, runs.way)
    way_of (ran.Unrecorded reported) (RanOutOfMemory begun none) = (begun.begins.left, begun.begins.way)
    way_of (ran.Recorded reported made) is = (Return is.result, runs_on is.recovery is.trace (Some []) (Return is.result) is.loads is.way)

    -- its loop answered as a loop does
    pub answers_of : (went : Ran) (comes : RanSo s ticks turns old new endless went) → AreLoopAnswers (loop_part (trace_of s ticks turns old new endless went comes))
    answers_of ran.NotRecordable found =
        subst (λ (es : List LoopEntry). AreLoopAnswers es) (sym (no_loop (recovers s) (Return (Some found.history)) found.did.entries (none_recovers s) found.did.way)) answers_none
    answers_of (ran.Unrecorded reported) (Failed runs none) = runs.answers
    answers_of (ran.Unrecorded reported) (RanOutOfMemory begun none) = begun.begins.answers
    answers_of (ran.Recorded reported made) is = (whole reported made is).answers

    pub delivered_of : ((s : AllSettings) (ticks : Option ℕ) (turns : ℕ) (old new : CallLogs) (reported : Reported) (is : RunsToEnd s ticks turns old new reported) → KeepsGuarantee s is.trace)
        → ((trace : List TraceEntry) (left : Action RunResult) → Execution (life s (ends_of s) ticks turns) trace left → AreNewLinks 0 (loop_part trace) → KeepsToLastTurn s trace)
        → (went : Ran) (comes : RanSo s ticks turns old new endless went) → RecordedIsDelivered s ticks turns old new endless went comes
    delivered_of keeps broken ran.NotRecordable found = tt
    delivered_of keeps broken (ran.Unrecorded reported) (Failed runs none) = keeps s ticks turns old new reported runs
    delivered_of keeps broken (ran.Unrecorded reported) (RanOutOfMemory begun none) = broken begun.begins.trace begun.begins.left begun.begins.way begun.begins.answers.links
    delivered_of keeps broken (ran.Recorded reported made) is = keeps s ticks turns old new reported (whole reported made is)

    pub reads_of : (went : Ran) → RanSo s ticks turns old new endless went → IsReadBack went
    reads_of ran.NotRecordable comes = tt
    reads_of (ran.Unrecorded reported) comes = tt
    reads_of (ran.Recorded reported (Ok schedule)) is = written_reads schedule is.writable
    reads_of (ran.Recorded reported (Err none)) is = tt

    pub replays_of : ((s : AllSettings) (ticks : Option ℕ) (turns : ℕ) (old new : CallLogs) (endless : Bool) (reported : Reported) (made : Result Schedule Memory) → MeetsRequirements s → (run : IsRecorded s ticks turns old new endless reported made) → RunReplays s ticks turns old new endless reported made run)
        → MeetsRequirements s → (went : Ran) (comes : RanSo s ticks turns old new endless went) → RecordReplays s ticks turns old new endless went comes
    replays_of replay sound ran.NotRecordable comes = tt
    replays_of replay sound (ran.Unrecorded reported) comes = tt
    replays_of replay sound (ran.Recorded reported made) is = replay s ticks turns old new endless reported made sound is
