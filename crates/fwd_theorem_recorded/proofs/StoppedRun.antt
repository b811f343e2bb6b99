-- The replay of a run that its last tick stopped.
use Rattle.std.proofs.Common.{◌≡◌, ◌⊎◌, inl, inr, ℕ, zero, suc, ◌+◌, ◌-◌, ◌^◌, ◌≤◌, Bool, false, List, [], ◌∷◌, ◌++◌, map, length, Option, Some, None, refl, sym, ap, ◌∙◌, subst, arith, append_assoc}
use Rattle.fwd_base.specs.Limits.{longest_wait}
use Rattle.fwd_outside.specs.Program.{entry, Return, bind, Execution}
use Rattle.fwd_outside.specs.Loop.{LoopEntry, Wait}
use Rattle.fwd_outside.specs.NewLinks.{AreNewLinks}
use Rattle.fwd_outside.specs.LoopAnswers.{AreLoopAnswers}
use Rattle.fwd_outside.specs.Disk.{DiskEntry}
use Rattle.fwd_outside.specs.declared.happening.Happening.TheVariants as happening
use Rattle.fwd_disk_mem.specs.declared.entry.MemEntry.TheVariants.{FailAt}
use Rattle.fwd_disk_mem.specs.Entry as disk
use Rattle.fwd_outside.proofs.Executions.{way_trans}
use Rattle.fwd_settings.specs.Endpoints.{ends_of}
use Rattle.fwd_settings.specs.declared.settings_types.AllSettings.{AllSettings}
use Rattle.fwd_script.specs.declared.schedule.Life.{Life}
use Rattle.fwd_model.specs.Fact.{History}
use Rattle.fwd_model.specs.Trace.{TraceEntry, OnLoop, loop_part, disk_part, history_after, history_after_call}
use Rattle.fwd_model.specs.Settings.{saturating_plus, paths_at}
use Rattle.fwd_model.specs.Clock.{clock}
use Rattle.fwd_model.specs.Limits.{paused}
use Rattle.fwd_model.specs.KeptOffsets.{tracked}
use Rattle.fwd_model.specs.RecoveryActions.{loads_from, recovers}
use Rattle.fwd_model.specs.Run.{RunResult, TurnsSpent, LoopFailed, lived, run, after_recovery, life}
use Rattle.fwd_model.proofs.CallLogs.{loop_append, disk_append}
use Rattle.fwd_secure.specs.Handshakes.{Handshakes, no_handshakes}
use Rattle.fwd_secure.specs.Kept.{holds}
use Rattle.fwd_secure_settings.specs.Keys.{keys_of}
use Rattle.fwd_secure_trace.specs.Secured.{IsSecured}
use Rattle.fwd_secure_trace.proofs.Secured.{secured_append}
use Rattle.fwd_record.specs.Seen.{Seen, Answered, calls_of}
use Rattle.fwd_record.specs.Links.{links_in, number_of}
use Rattle.fwd_record.specs.Allowed.{AreAllowed}
use Rattle.fwd_record.specs.Failures.{failed_from}
use Rattle.fwd_record.specs.Played.{replayed}
use Rattle.fwd_record.specs.Recorded.{recorded}
use Rattle.fwd_replay.specs.RecordedRun.{StopsAfter, first_number, runs_on, HasReport}
use Rattle.fwd_replay.specs.Runs.{first, IsLife}
use Rattle.fwd_theorem_trace.specs.Past.{Past, logged, past_after}
use Rattle.fwd_theorem_trace.proofs.Run.{due_since, noted_of_life}
use Rattle.fwd_theorem_trace.proofs.Traversal.{noted_since}
use Rattle.fwd_theorem_runs.specs.SplitRun.{empty_recovery}
use Rattle.fwd_theorem_runs.proofs.LastTick.{stop_of_loop}
use Rattle.fwd_theorem_runs.proofs.MoreTurns.{begun_goes_on}
use Rattle.fwd_theorem_recorded.specs.HandedBytes.{handed_from}
use Rattle.fwd_theorem_recorded.specs.Replays.{life_of, ReachesSameCounts, IsReplayOf}
use Rattle.fwd_theorem_recorded.proofs.ReplayNeeds.{AnswersAsInMemory, CanReplay}
use Rattle.fwd_theorem_recorded.proofs.MadeTrace.{none_tracked}
use Rattle.fwd_theorem_recorded.proofs.RecordedCalls.{calls_answered}
use Rattle.fwd_theorem_recorded.proofs.ReplayedRun.{replay_of}
use Rattle.fwd_theorem_recorded.proofs.SameLeft.{way_after}
use Rattle.fwd_theorem_recorded.proofs.StopPlace.{PartsLonger, two_parts, after_stop, unstopped}
use Rattle.fwd_theorem_recorded.proofs.StoppedCalls.{seen_stopped, with_stop, calls_stopped, all_stop, recorded_stop, allowed_stop, new_stop, answered_stop, handed_stop, replayed_stop}
use Rattle.fwd_theorem_recorded.proofs.TraceParts.{stop_passed}

-- ---- the run, from its recovery of nothing

empty_way : (s : AllSettings) (turns : ℕ) → Execution (life s (ends_of s) None turns) (empty_recovery s.service.path) (runs_on s None turns)
unfolding life recovers
empty_way s turns = by s.service.path
  where
    by : (path : Option (List ℕ)) → Execution (bind (loads_from path) (after_recovery s (ends_of s) None turns)) (empty_recovery path) (runs_on s None turns)
    by None = refl
    by (Some root) = (Some [], refl, refl)

history_to : (es : List TraceEntry) (until mask : ℕ) (h : History) → history_after (es ++ entry (OnLoop (Wait until mask)) happening.Failed ∷ []) h ≡ history_after es h
history_to [] until mask h = refl
history_to (e ∷ es) until mask h = history_to es until mask (history_after_call e.call h)

-- the history of a run that goes on is what was logged
run_logged : (s : AllSettings) (turns left : ℕ) (trace : List TraceEntry) (h : History) → Execution (life s (ends_of s) None turns) trace (run s None left h) → h ≡ history_after trace []
unfolding run
run_logged s turns zero trace h way = noted_of_life s (ends_of s) None turns trace (lived h TurnsSpent) way
run_logged s turns (suc left) trace h way =
    let until = saturating_plus (clock h) longest_wait in
    let fails : List TraceEntry = entry (OnLoop (Wait until (paused s h))) happening.Failed ∷ [] in
    noted_of_life s (ends_of s) None turns (trace ++ fails) (lived h LoopFailed)
    (way_trans (life s (ends_of s) None turns) (run s None (suc left) h) (Return (lived h LoopFailed)) trace fails way (happening.Failed, refl, refl))
    ∙ history_to trace until (paused s h) []

-- ---- the history is the same with a wait

history_over : (es fs : List TraceEntry) (until mask : ℕ) (h : History) → history_after (es ++ entry (OnLoop (Wait until mask)) happening.Stop ∷ fs) h ≡ history_after (es ++ fs) h
history_over [] fs until mask h = refl
history_over (e ∷ es) fs until mask h = history_over es fs until mask (history_after_call e.call h)

module _ (s : AllSettings) (none : (input : ℕ) → paths_at s input ≡ []) (ticks turns : ℕ) (before after before_below after_below : List TraceEntry) (stopped k : Handshakes) (result : RunResult) (endless : Bool)
    (stops : StopsAfter s (Some ticks) turns before) (so : IsSecured (keys_of s) no_handshakes before before_below stopped) (more : IsSecured (keys_of s) stopped after after_below k)
    (way : Execution (runs_on s (Some ticks) turns) (before ++ after) (Return result)) (ended : HasReport result) (answers : AreLoopAnswers (loop_part (before ++ after))) where
  abbrev until : ℕ
  until = saturating_plus (clock stops.now) longest_wait

  abbrev mask : ℕ
  mask = paused s stops.now

  abbrev stop : TraceEntry
  stop = entry (OnLoop (Wait until mask)) happening.Stop

  abbrev trace : List TraceEntry
  trace = before ++ stop ∷ after

  abbrev below : List TraceEntry
  below = before_below ++ stop ∷ after_below

  abbrev xs : List LoopEntry
  xs = loop_part before_below

  abbrev ys : List LoopEntry
  ys = loop_part after_below

  abbrev seen : List Seen
  seen = seen_stopped xs ys

  abbrev seen_waited : List Seen
  seen_waited = map Answered (with_stop until mask ys xs)

  untracked : tracked s ≡ []
  untracked = none_tracked s none

  with_wait : Execution (runs_on s None (turns + 1)) trace (Return result)
  with_wait =
      let recovery : List TraceEntry = empty_recovery s.service.path in
      let begun : Execution (life s (ends_of s) None turns) (recovery ++ before) (run s None stops.left stops.now) =
      way_trans (life s (ends_of s) None turns) (runs_on s None turns) (run s None stops.left stops.now) recovery before (empty_way s turns) stops.goes_on in
      let goes : Execution (life s (ends_of s) None (turns + 1)) (recovery ++ before) (run s None (stops.left + 1) stops.now) = begun_goes_on s None 1 (ends_of s) turns stops.left (recovery ++ before) stops.now begun in
      let one_more : stops.left + 1 ≡ suc stops.left = omega arith in
      let past : Past = past_after [] (recovery ++ before) in
      let there : logged past ≡ stops.now = noted_since [] (recovery ++ before) ∙ sym (run_logged s turns stops.left (recovery ++ before) stops.now begun) in
      let rest : Execution (run s None (suc stops.left) stops.now) (stop ∷ after) (Return result) =
      stop_of_loop s (Some ticks) stops.left past stops.now after result untracked (due_since s (ends_of s) None turns (recovery ++ before) (run s None stops.left stops.now) begun) there
      (unstopped s untracked ticks turns result before after stops way) (after_stop s untracked ticks turns result before after stops way) in
      let whole : Execution (life s (ends_of s) None (turns + 1)) ((recovery ++ before) ++ stop ∷ after) (Return result) =
      way_trans (life s (ends_of s) None (turns + 1)) (run s None (suc stops.left) stops.now) (Return result) (recovery ++ before) (stop ∷ after)
      (subst (λ (n : ℕ). Execution (life s (ends_of s) None (turns + 1)) (recovery ++ before) (run s None n stops.now)) one_more goes) rest in
      way_after (life s (ends_of s) None (turns + 1)) (runs_on s None (turns + 1)) (Return result) recovery trace (empty_way s (turns + 1))
      (subst (λ (l : List TraceEntry). Execution (life s (ends_of s) None (turns + 1)) l (Return result)) (append_assoc recovery before (stop ∷ after)) whole)

  loop_trace : loop_part trace ≡ loop_part before ++ entry (Wait until mask) happening.Stop ∷ loop_part after
  loop_trace = loop_append before (stop ∷ after)

  loop_below : loop_part below ≡ with_stop until mask ys xs
  loop_below = loop_append before_below (stop ∷ after_below)

  answers_trace : AreLoopAnswers (loop_part trace)
  answers_trace = subst AreLoopAnswers (sym loop_trace) (answered_stop until mask (loop_part after) (loop_part before) (subst AreLoopAnswers (loop_append before after) answers))

  disk_same : disk_part below ≡ disk_part (before_below ++ after_below)
  disk_same = disk_append before_below (stop ∷ after_below) ∙ sym (disk_append before_below after_below)

  disk_behind : disk_part (empty_recovery s.service.path ++ below) ≡ disk_part (empty_recovery s.service.path ++ (before_below ++ after_below))
  disk_behind =
      disk_append (empty_recovery s.service.path) below ∙ ap (λ (l : List DiskEntry). disk_part (empty_recovery s.service.path) ++ l) disk_same ∙ sym (disk_append (empty_recovery s.service.path) (before_below ++ after_below))

  same_life : life_of s seen_waited below ≡ life_of s seen (before_below ++ after_below)
  same_life =
      ap (λ (l : List DiskEntry). recorded seen_waited (failed_from (first_number s.service.path) l)) disk_same
      ∙ recorded_stop until mask ys xs (failed_from (first_number s.service.path) (disk_part (before_below ++ after_below)))

  module _ (allowed : AreAllowed endless (calls_of seen)) (new : AreNewLinks 0 (calls_of seen)) (can : CanReplay s (before_below ++ after_below) k result seen) (unheld : holds mask stopped.kept ≡ false) where
    secured : IsSecured (keys_of s) no_handshakes trace below k
    secured =
        secured_append (keys_of s) no_handshakes stopped k before (stop ∷ after) before_below (stop ∷ after_below) so
        (stop ∷ [], after_below, stopped, refl, (entry (Wait until mask) happening.Stop ∷ [], refl, stop_passed (keys_of s) stopped until mask unheld), more)

    disk_in_memory : AnswersAsInMemory s.service.path below
    disk_in_memory = record {
      asked = can.disk.asked;
      are = can.disk.are ∙ sym disk_behind;
      played =
          subst (λ (l : List DiskEntry). disk.IsPlayed (map (λ (number : ℕ). FailAt number) (failed_from (first_number s.service.path) l)) can.disk.asked) (sym disk_same)
          can.disk.played;
    }

    can_waited : CanReplay s below k result seen_waited
    can_waited = record {
      disk = disk_in_memory;
      few = subst (λ (l : List ℕ). length l ≤ 2 ^ 64 - 1) (sym (all_stop until mask ys xs)) can.few;
      unheld = can.unheld;
    }

    allowed_waited : AreAllowed endless (calls_of seen_waited)
    allowed_waited =
        subst (AreAllowed endless) (sym (calls_answered (with_stop until mask ys xs))) (allowed_stop until mask ys endless xs (subst (AreAllowed endless) (calls_stopped until mask ys xs) allowed))

    new_waited : AreNewLinks 0 (calls_of seen_waited)
    new_waited = subst (AreNewLinks 0) (sym (calls_answered (with_stop until mask ys xs))) (new_stop until mask ys 0 xs (subst (AreNewLinks 0) (calls_stopped until mask ys xs) new))

    -- ---- the replay of the run with the wait

    replay_waited : (turns2 : ℕ) (replay : List TraceEntry) (comes : RunResult) (is : IsLife s turns2 first (life_of s seen (before_below ++ after_below)) replay comes) → (comes.end ≡ TurnsSpent → ⊥)
        → IsReplayOf s trace below result seen_waited replay is.below comes
    replay_waited turns2 replay comes =
        subst (λ (l : Life). (is : IsLife s turns2 first l replay comes) → (comes.end ≡ TurnsSpent → ⊥) → IsReplayOf s trace below result seen_waited replay is.below comes) same_life
        (λ is unspent. replay_of s none (turns + 1) trace below k result endless seen_waited with_wait ended secured answers_trace (ap (map Answered) (sym loop_below)) allowed_waited new_waited can_waited turns2 replay comes is unspent)

    -- ---- and of the run without it

    reaches : (replay front front2 : List TraceEntry) → history_after front2 [] ≡ history_after front [] → ReachesSameCounts s (history_after front2 []) replay → ReachesSameCounts s (history_after front []) replay
    reaches replay front front2 same there = subst (λ (h : History). ReachesSameCounts s h replay) same there

    steps_without : (replay : List TraceEntry) → ((front rest : List TraceEntry) → trace ≡ front ++ rest → ReachesSameCounts s (history_after front []) replay)
        → (front rest : List TraceEntry) → before ++ after ≡ front ++ rest → ReachesSameCounts s (history_after front []) replay
    steps_without replay steps front rest split = by (two_parts before after front rest split)
      where
        by : ((before ≡ front) × (after ≡ rest)) ⊎ (PartsLonger before after front rest ⊎ PartsLonger front rest before after) → ReachesSameCounts s (history_after front []) replay
        by (inl (same, left)) = steps front (stop ∷ after) (ap (λ (l : List TraceEntry). l ++ stop ∷ after) same)
        by (inr (inl (x, later, longer, left))) =
            reaches replay front (before ++ stop ∷ x ∷ later) (history_over before (x ∷ later) until mask [] ∙ ap (λ (l : List TraceEntry). history_after l []) (sym longer))
            (steps (before ++ stop ∷ x ∷ later) rest (ap (λ (l : List TraceEntry). before ++ stop ∷ l) left ∙ sym (append_assoc before (stop ∷ x ∷ later) rest)))
        by (inr (inr (x, later, longer, left))) =
            steps front (x ∷ later ++ stop ∷ after) (ap (λ (l : List TraceEntry). l ++ stop ∷ after) longer ∙ append_assoc front (x ∷ later) (stop ∷ after))

    pub replay_stopped : (turns2 : ℕ) (replay : List TraceEntry) (comes : RunResult) (is : IsLife s turns2 first (life_of s seen (before_below ++ after_below)) replay comes) → (comes.end ≡ TurnsSpent → ⊥)
        → IsReplayOf s (before ++ after) (before_below ++ after_below) result seen replay is.below comes
    replay_stopped turns2 replay comes is unspent =
        let there = replay_waited turns2 replay comes is unspent in
        let named : replayed (number_of (links_in (calls_of seen_waited))) there.until there.paused seen_waited ≡ replayed (number_of (links_in (calls_of seen))) until mask seen =
        ap (λ (l : List ℕ). replayed (number_of l) there.until there.paused seen_waited) (all_stop until mask ys xs) ∙ replayed_stop until mask ys (number_of (links_in (calls_of seen))) there.until there.paused xs in
        record {
          until = until;
          paused = mask;
          last = there.last;
          last_is = there.last_is;
          calls = there.calls ∙ ap (λ (l : List LoopEntry). l ++ there.last) named;
          handed = λ outputs.
              there.handed outputs
              ∙ ap (handed_from outputs [] []) (calls_answered (with_stop until mask ys xs))
              ∙ handed_stop until mask ys outputs [] [] xs
              ∙ ap (handed_from outputs [] []) (sym (calls_stopped until mask ys xs));
          disk = there.disk ∙ disk_behind;
          steps = steps_without replay there.steps;
          over = there.over;
          reports = there.reports;
        }
