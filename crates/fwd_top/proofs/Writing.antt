-- Calls and written text, by status.
use Rattle.std.specs.Prelude.{◌≢◌}
use Rattle.std.proofs.Common.{◌≡◌, ◌⊎◌, ℕ, ◌+◌, ◌/◌, ◌≤◌, Bool, true, false, if◌then◌else◌, List, [], map, String, string_bytes, Option, Some, None, Ok, Err, inl, inr, refl, sym, ◌∙◌, ap, subst, arith}
use Rattle.fwd_settings.specs.Requirements.{MeetsRequirements}
use Rattle.fwd_settings.specs.declared.settings_types.AllSettings.{AllSettings}
use Rattle.fwd_script.specs.Text.{text_of}
use Rattle.fwd_model.specs.Run.{End, Over, TurnsSpent}
use Rattle.fwd_outside.specs.Log.{LogGrew}
use Rattle.fwd_outside.specs.Cause.{HasCause}
use Rattle.fwd_outside.proofs.LogGrowth.{grew_none}
use Rattle.fwd_outside.specs.Files.{FilesLog}
use Rattle.fwd_outside.specs.Loop.{LoopCounts}
use Rattle.fwd_outside.specs.Sink.{SinkLog}
use Rattle.fwd_engine_state.specs.LoopCounters.{EventsTaken}
use Rattle.fwd_config.specs.Variables.{Values}
use Rattle.fwd_secure.specs.Keys.{has_keys}
use Rattle.fwd_secure_settings.specs.Keys.{keys_of}
use Rattle.fwd_replay.specs.LiveRun.{events_below, heard_in}
use Rattle.fwd_replay.specs.declared.report.Ending.{Ending}
use Rattle.fwd_replay.specs.declared.report.Ending.TheVariants as ending
use Rattle.fwd_replay.specs.declared.report.Reported.{Reported}
use Rattle.fwd_replay.specs.RecordedRun.{RanSo, ending_of_run}
use Rattle.fwd_replay.specs.Text.{report, reported_by}
use Rattle.fwd_replay.specs.declared.recorded_run.Ran.{Ran}
use Rattle.fwd_replay.specs.declared.recorded_run.Ran.TheVariants as ran
use Rattle.fwd_theorem_replay.specs.PresetFiles.{OnlyFirstHasFiles}
use Rattle.fwd_top.specs.Cases.{AreSound, Case, Generates, Lists, Records, Refuses, Replays, Runs, lives_of, settings_for}
use Rattle.fwd_top.specs.Outcomes.{Platform, AreNotCalled, Produces, world}
use Rattle.fwd_top.specs.Delivery.{IsDelivered}
use Rattle.fwd_top.specs.Determinism.{IsDetermined}
use Rattle.fwd_top.specs.EnoughTurns.{HasFewTurns}
use Rattle.fwd_top.specs.CrashConsistency.{IsCrashConsistent}
use Rattle.fwd_top.specs.Offsets.{EachRunKeepsOffsets}
use Rattle.fwd_top.specs.SentRecords.{EachRunSendsRecords}
use Rattle.fwd_top.specs.RecordedOutcome.{RecordedOutcome}
use Rattle.fwd_top.specs.Answers.{Verdict, says, says_both, status_of, of_reported, of_ran, Outcome, IsVerdict, Devices, platform, Asks, Comes, WroteIt, WroteSchedule, Wrote, RanOutOfMemory, WhileAsking, InTheJob, WhileWriting, WhileRecording, Answers, half, is_over_disk, is_run, IsKeeperFault, IsLoopFault, IsDiskFault, least_heard, spent, spent_by}
use Rattle.fwd_top.specs.Results.{of_job, HasDiskFailed, HasKeeperFailed, HasLoopFailed, IsRefusal, JobProduces, WritesVerdict, AllWritten, TextFailed, TextStopped, RecordFailed, RecordStopped, given_by, is_to_run, takes_disk, unless_memory}
use Rattle.fwd_top.specs.Words.{command_of}
use Rattle.fwd_top.specs.declared.job.Job.{Job}
use Rattle.fwd_top.specs.declared.job.Job.TheVariants as job
use Rattle.fwd_top.specs.declared.status.Status.{Status}
use Rattle.fwd_top.specs.declared.status.Status.TheVariants as status

pub still : (o : Platform) → AreNotCalled o o
still o = record { disk = grew_none o.disk; files = grew_none o.files; loop = grew_none o.loop; keeper = grew_none o.keeper }

-- what holds of each outcome holds of this one
pub outcome_of : ((turns : ℕ) (case : Case) (old new : Platform) (r : Reported) (comes : Produces turns case old new r) → IsDelivered turns case old new r comes)
    → ((turns : ℕ) (case : Case) (old new : Platform) (r : Reported) (comes : Produces turns case old new r) → AreSound (settings_for case) → OnlyFirstHasFiles (lives_of case) → IsCrashConsistent turns case old new r comes)
    → ((turns : ℕ) (case : Case) (old new : Platform) (r : Reported) (comes : Produces turns case old new r) → EachRunKeepsOffsets turns case old new r comes)
    → ((turns : ℕ) (case : Case) (old new : Platform) (r : Reported) (comes : Produces turns case old new r) → AreSound (settings_for case) → EachRunSendsRecords turns case old new r comes)
    → ((turns : ℕ) (case : Case) (old new : Platform) (r : Reported) → Produces turns case old new r → IsDetermined turns case r)
    → (turns : ℕ) (case : Case) (old new : Platform) (r : Reported) → AreSound (settings_for case) → OnlyFirstHasFiles (lives_of case) → Produces turns case old new r → Outcome turns case old new r
outcome_of delivers stands keeps sends determines turns case old new r sound later comes = record { comes = comes; sound = sound; delivered = delivers turns case old new r comes; safe = stands turns case old new r comes sound later; offsets = keeps turns case old new r comes; records = sends turns case old new r comes sound; determined = determines turns case old new r comes }

-- ---- calls and written text

-- the outcome of a case gives its verdict
pub in_case : (turns : ℕ) (case : Case) (old new : Platform) (r : Reported) → Outcome turns case old new r → IsVerdict turns case old new (of_reported r)
in_case turns (Replays s lives) old new r is = (r, is, refl)
in_case turns (Generates s lives) old new r is = (r, is, refl)
in_case turns (Runs s ticks) old new r is = (r, is, refl)
in_case turns (Records s ticks) old new r is = absurd is.comes
in_case turns (Lists root) old new r is = (r, is, refl)
in_case turns (Refuses other) old new r is = absurd is.comes

-- what came of a job gives its verdict
module _ (outcome : (turns : ℕ) (case : Case) (old new : Platform) (r : Reported) → AreSound (settings_for case) → OnlyFirstHasFiles (lives_of case) → Produces turns case old new r → Outcome turns case old new r)
    (recorded : (turns : ℕ) (s : AllSettings) (ticks : Option ℕ) (old new : Platform) (went : Ran) → MeetsRequirements s → RanSo s ticks turns (world old) (world new) old.endless went → RecordedOutcome turns s ticks old new went) where
  pub verdict_of_job : (turns : ℕ) (case : Case) (old new : Platform) (went : Ran) → AreSound (settings_for case) → OnlyFirstHasFiles (lives_of case) → JobProduces turns case old new went → IsVerdict turns case old new (of_ran went)
  verdict_of_job turns (Records s ticks) old new went sound later comes = (went, recorded turns s ticks old new went sound comes, refl)
  verdict_of_job turns (Replays s lives) old new (ran.Unrecorded r) sound later comes = in_case turns (Replays s lives) old new r (outcome turns (Replays s lives) old new r sound later comes)
  verdict_of_job turns (Generates s lives) old new (ran.Unrecorded r) sound later comes = in_case turns (Generates s lives) old new r (outcome turns (Generates s lives) old new r sound later comes)
  verdict_of_job turns (Runs s ticks) old new (ran.Unrecorded r) sound later comes = in_case turns (Runs s ticks) old new r (outcome turns (Runs s ticks) old new r sound later comes)
  verdict_of_job turns (Lists root) old new (ran.Unrecorded r) sound later comes = in_case turns (Lists root) old new r (outcome turns (Lists root) old new r sound later comes)
  verdict_of_job turns (Refuses other) old new (ran.Unrecorded r) sound later comes = absurd comes
  verdict_of_job turns case old new went sound later comes = absurd comes

-- a recorded run went to its end, or used up its turns
abbrev pub IsReport : Ran → Type 0
IsReport (ran.Recorded reported schedule) = (reported.ending ≡ ending.Over) ⊎ (reported.ending ≡ ending.TurnsSpent)
IsReport other = Unit {0}

ends_well : (text : List ℕ) (r : Reported) (end : End) → r ≡ reported_by text end → (end ≡ Over) ⊎ (end ≡ TurnsSpent) → (r.ending ≡ ending.Over) ⊎ (r.ending ≡ ending.TurnsSpent)
ends_well text r end is (inl over) = inl (ap (λ (x : Reported). x.ending) is ∙ ap (λ (e : End). (reported_by text e).ending) over)
ends_well text r end is (inr spent) = inr (ap (λ (x : Reported). x.ending) is ∙ ap (λ (e : End). (reported_by text e).ending) spent)

pub is_report : (turns : ℕ) (case : Case) (old new : Platform) (went : Ran) → JobProduces turns case old new went → IsReport went
is_report turns (Records s ticks) old new (ran.Recorded reported schedule) comes = ends_well (report s comes.result.history) reported comes.result.end comes.reports comes.ended
is_report turns case old new ran.NotRecordable comes = tt
is_report turns case old new (ran.Unrecorded reported) comes = tt
is_report turns case old new went comes = absurd comes

-- ---- the text and the schedule written for a verdict

abbrev to_write : List ℕ → Status → Option (List ℕ) → Verdict
to_write text end schedule = record { text = text; status = end; schedule = schedule }

module _ (Holds : Verdict → Type 0) (old new : Devices) where
  whole : (end : Ending) (text : List ℕ) (schedule : Option (List ℕ)) (result : Status) → Holds (to_write text (status_of end) schedule) → result ≡ status_of end
      → WroteIt old.sink new.sink text → WroteSchedule old.tape new.tape schedule → Wrote Holds old new result
  whole ending.Over text schedule result holds same wrote taped = rw same (to_write text status.Done schedule, holds, refl, wrote, taped)
  whole ending.TurnsSpent text schedule result holds same wrote taped = rw same (to_write text status.TurnsSpent schedule, holds, refl, wrote, taped)
  whole ending.DiskFailed text schedule result holds same wrote taped = rw same (to_write text status.DiskFault schedule, holds, refl, wrote, taped)
  whole ending.KeeperFailed text schedule result holds same wrote taped = rw same (to_write text status.KeeperFault schedule, holds, refl, wrote, taped)
  whole ending.LoopFailed text schedule result holds same wrote taped = rw same (to_write text status.LoopFault schedule, holds, refl, wrote, taped)
  whole ending.Memory text schedule result holds same wrote taped = rw same tt

  pub written : (went : Ran) (result : Status) → Holds (of_ran went) → WritesVerdict old.sink new.sink old.tape new.tape (of_ran went) result → Wrote Holds old new result
  written ran.NotRecordable result holds (AllWritten same wrote taped) = rw same (of_ran ran.NotRecordable, holds, refl, wrote, taped)
  written (ran.Unrecorded r) result holds (AllWritten same wrote taped) = whole r.ending r.text None result holds same wrote taped
  written (ran.Recorded r (Ok schedule)) result holds (AllWritten same wrote taped) = whole r.ending r.text (Some (text_of schedule)) result holds same wrote taped
  written (ran.Recorded r (Err none)) result holds (AllWritten same wrote taped) = rw same tt
  written went result holds (TextFailed same wrote taped) = rw same (of_ran went, holds, wrote, taped)
  written went result holds (TextStopped same wrote taped) = rw same tt
  written went result holds (RecordFailed text schedule end is same wrote taped) = rw same (text, schedule, end, subst Holds is holds, wrote, taped)
  written went result holds (RecordStopped text schedule end is same wrote taped) = rw same tt

module _ {Y : Type 0} (words : List (String Y)) (env : Values) (turns : ℕ) (old new : Devices) where
  abbrev ComesTo : Verdict → Type 0
  ComesTo verdict = Comes words env turns old new verdict

  abbrev NoMemoryLeft : Type 0
  NoMemoryLeft = RanOutOfMemory words env turns old new

  reported_out : (text : List ℕ) (end : Ending) → ComesTo (says text (status_of end)) → status_of end ≡ status.Memory → WroteIt old.sink new.sink text → LogGrew old.tape new.tape [] → NoMemoryLeft
  reported_out text end comes is wrote taped = InTheJob text (subst (λ (other : Status). ComesTo (says text other)) is comes) wrote taped

  not_both : (end : Ending) → (end ≡ ending.Over) ⊎ (end ≡ ending.TurnsSpent) → status_of end ≡ status.Memory → ⊥
  not_both end (inl over) is = cc (sym (ap status_of over) ∙ is)
  not_both end (inr spent) is = cc (sym (ap status_of spent) ∙ is)

  -- memory ran out
  out_of_memory : (went : Ran) (result : Status) → IsReport went → ComesTo (of_ran went) → WritesVerdict old.sink new.sink old.tape new.tape (of_ran went) result → result ≡ status.Memory → NoMemoryLeft
  out_of_memory ran.NotRecordable result report comes (AllWritten same wrote taped) is = absurd (cc (sym same ∙ is))
  out_of_memory (ran.Unrecorded r) result report comes (AllWritten same wrote taped) is = reported_out r.text r.ending comes (sym same ∙ is) wrote taped
  out_of_memory (ran.Recorded r (Ok schedule)) result report comes (AllWritten same wrote taped) is = absurd (not_both r.ending report (sym same ∙ is))
  out_of_memory (ran.Recorded r (Err none)) result report comes (AllWritten same wrote taped) is = InTheJob r.text comes wrote taped
  out_of_memory went result report comes (TextFailed same wrote taped) is = absurd (cc (sym same ∙ is))
  out_of_memory went result report comes (TextStopped same wrote taped) is = WhileWriting (of_ran went) comes wrote taped
  out_of_memory went result report comes (RecordFailed text schedule end both same wrote taped) is = absurd (cc (sym same ∙ is))
  out_of_memory went result report comes (RecordStopped text schedule end both same wrote taped) is = WhileRecording text schedule end (subst ComesTo both comes) wrote taped

  answers_by : (result : Status) → Wrote (Comes words env turns old new) old new result → (result ≡ status.Memory → NoMemoryLeft) → Answers words env turns old new result
  answers_by status.Memory wrote none = none refl
  answers_by result wrote none = wrote

  -- a job was done, and its outcome was written
  pub done : (case : Case) (read : FilesLog) (went : Ran) (result : Status) → Asks words env old.files read (Some case) → IsVerdict turns case (platform old read) (platform new new.files) (of_ran went)
      → IsReport went → WritesVerdict old.sink new.sink old.tape new.tape (of_ran went) result → Answers words env turns old new result
  done case read went result asks is report tells =
      let comes : ComesTo (of_ran went) = record { case = case; read = read; asks = asks; is = is } in
      answers_by result (written (Comes words env turns old new) old new went result comes tells) (out_of_memory went result report comes tells)

  -- there was nothing to do
  comes_refused : (other : Status) → Asks words env old.files new.files (Some (Refuses other)) → LogGrew old.disk new.disk [] → LogGrew old.loop new.loop [] → LogGrew old.keeper new.keeper [] → ComesTo (says [] other)
  comes_refused other asks disk loop keeper = record { case = Refuses other; read = new.files; asks = asks; is = (refl, record { disk = disk; files = grew_none new.files; loop = loop; keeper = keeper }) }

  pub refused : (result : Status) → IsRefusal result → Asks words env old.files new.files (unless_memory result) → LogGrew old.disk new.disk [] → LogGrew old.loop new.loop [] → LogGrew old.keeper new.keeper [] → LogGrew old.sink new.sink [] → LogGrew old.tape new.tape []
      → Answers words env turns old new result
  refused status.Done is asks disk loop keeper sink tape = absurd is
  refused status.TurnsSpent is asks disk loop keeper sink tape = absurd is
  refused status.OutFault is asks disk loop keeper sink tape = absurd is
  refused status.LoopFault is asks disk loop keeper sink tape = absurd is
  refused status.KeeperFault is asks disk loop keeper sink tape = absurd is
  refused status.DiskFault is asks disk loop keeper sink tape = absurd is
  refused status.NotRecordable is asks disk loop keeper sink tape = absurd is
  refused status.RecordFault is asks disk loop keeper sink tape = absurd is
  refused status.Memory is asks disk loop keeper sink tape = WhileAsking (record { asks = asks; disk = disk; loop = loop; keeper = keeper }) sink tape
  refused other is asks disk loop keeper sink tape = (says [] other, comes_refused other asks disk loop keeper, refl, sink, tape)

-- ---- counts

-- the status after a verdict is its own, or one of three others
told_by_one : (verdict : Verdict) (a b t u : SinkLog) (result other : Status) → WritesVerdict a b t u verdict result → verdict.status ≢ other → status.OutFault ≢ other → status.Memory ≢ other → status.RecordFault ≢ other → result ≢ other
told_by_one verdict a b t u result other (AllWritten same wrote taped) one two three four is = one (sym same ∙ is)
told_by_one verdict a b t u result other (TextFailed same wrote taped) one two three four is = two (sym same ∙ is)
told_by_one verdict a b t u result other (TextStopped same wrote taped) one two three four is = three (sym same ∙ is)
told_by_one verdict a b t u result other (RecordFailed text schedule end both same wrote taped) one two three four is = four (sym same ∙ is)
told_by_one verdict a b t u result other (RecordStopped text schedule end both same wrote taped) one two three four is = three (sym same ∙ is)

-- a status other than these three is that of the verdict
end_told : (verdict : Verdict) (a b t u : SinkLog) (result other : Status) → WritesVerdict a b t u verdict result → status.OutFault ≢ other → status.Memory ≢ other → status.RecordFault ≢ other → result ≡ other → verdict.status ≡ other
end_told verdict a b t u result other (AllWritten same wrote taped) two three four is = sym same ∙ is
end_told verdict a b t u result other (TextFailed same wrote taped) two three four is = absurd (two (sym same ∙ is))
end_told verdict a b t u result other (TextStopped same wrote taped) two three four is = absurd (three (sym same ∙ is))
end_told verdict a b t u result other (RecordFailed text schedule end both same wrote taped) two three four is = absurd (four (sym same ∙ is))
end_told verdict a b t u result other (RecordStopped text schedule end both same wrote taped) two three four is = absurd (three (sym same ∙ is))

-- that of an ending is the ending's
ending_told : (went : Ran) (end : Ending) (other : Status) → ((one : Ending) → status_of one ≡ other → one ≡ end) → status.NotRecordable ≢ other → status.Memory ≢ other → (of_ran went).status ≡ other → ending_of_run went ≡ end
ending_told ran.NotRecordable end other by none out is = absurd (none is)
ending_told (ran.Unrecorded r) end other by none out is = by r.ending is
ending_told (ran.Recorded r (Ok schedule)) end other by none out is = by r.ending is
ending_told (ran.Recorded r (Err e)) end other by none out is = absurd (out is)

heard_all : {a b : LoopCounts} (n most : ℕ) → most ≤ n → EventsTaken n a b → EventsTaken most a b
heard_all n most least heard = record { happenings = let x = heard.happenings in grind arith; greatest = heard.greatest; endless = heard.endless }

pub heard_none : (a : LoopCounts) → EventsTaken 0 a a
heard_none a = record { happenings = omega arith; greatest = omega arith; endless = refl }

spent_unrun : (turns : ℕ) (result : Status) → spent_by result false turns ≡ 0
spent_unrun turns status.TurnsSpent = refl
spent_unrun turns result = refl

turns_spent : (end : Ending) → status_of end ≡ status.TurnsSpent → end ≡ ending.TurnsSpent
turns_spent ending.TurnsSpent is = refl
turns_spent end is = absurd (cc is)

half_least : (n : ℕ) (keyed : Bool) → half n ≤ (if keyed then (n + 1) / 2 else n)
half_least n true = omega arith
half_least n false = omega arith

half_below : (s : AllSettings) (n : ℕ) → half n ≤ events_below s n
half_below s n = half_least n (has_keys (keys_of s))

-- a run whose turns were spent ended so
ended_spent : (went : Ran) (a b t u : SinkLog) (result : Status) → WritesVerdict a b t u (of_ran went) result → result ≡ status.TurnsSpent → ending_of_run went ≡ ending.TurnsSpent
ended_spent went a b t u result tells spends = ending_told went ending.TurnsSpent status.TurnsSpent turns_spent (λ x. cc x) (λ x. cc x) (end_told (of_ran went) a b t u result status.TurnsSpent tells (λ x. cc x) (λ x. cc x) (λ x. cc x) spends)

module _ {Y : Type 0} (words : List (String Y)) (turns : ℕ) (before after : LoopCounts) where
  abbrev runs : Bool
  runs = is_run (command_of (map string_bytes words))

  unspent : (n : ℕ) (result : Status) → spent_by result runs turns ≡ 0 → EventsTaken n before after → EventsTaken (half (spent words turns result)) before after
  unspent n result is heard = rw is (heard_all n (half 0) (omega arith) heard)

  -- after TurnsSpent so many events were returned, and nothing is claimed after another status
  heard_by : (result : Status) (n : ℕ) → (result ≡ status.TurnsSpent → n ≡ turns) → EventsTaken (half n) before after → EventsTaken (half (spent_by result true turns)) before after
  heard_by status.TurnsSpent n all heard = subst (λ (m : ℕ). EventsTaken (half m) before after) (all refl) heard
  heard_by result n all heard = heard_all (half n) (half 0) (omega arith) heard

  ran_heard : (went : Ran) (a b t u : SinkLog) (result : Status) → runs ≡ true → WritesVerdict a b t u (of_ran went) result → EventsTaken (half (heard_in turns (ending_of_run went))) before after → EventsTaken (half (spent words turns result)) before after
  ran_heard went a b t u result run tells heard =
      let all : result ≡ status.TurnsSpent → heard_in turns (ending_of_run went) ≡ turns = λ is. ap (heard_in turns) (ended_spent went a b t u result tells is) in
      rw run (heard_by result (heard_in turns (ending_of_run went)) all heard)

  -- the outcome of a job was written
  pub done_heard : (j : Job) (went : Ran) (a b t u : SinkLog) (result : Status) → runs ≡ is_to_run j → WritesVerdict a b t u (of_ran went) result → EventsTaken (given_by j turns went) before after → EventsTaken (half (spent words turns result)) before after
  done_heard (job.Run s ticks) went a b t u result run tells heard = ran_heard went a b t u result run tells (heard_all (events_below s (heard_in turns (ending_of_run went))) (half (heard_in turns (ending_of_run went))) (half_below s (heard_in turns (ending_of_run went))) heard)
  done_heard (job.Record s ticks) went a b t u result run tells heard = ran_heard went a b t u result run tells (heard_all (events_below s (heard_in turns (ending_of_run went))) (half (heard_in turns (ending_of_run went))) (half_below s (heard_in turns (ending_of_run went))) heard)
  done_heard (job.Replay s schedule) went a b t u result run tells heard = unspent 0 result (rw run (spent_unrun turns result)) heard
  done_heard (job.Generate s schedule) went a b t u result run tells heard = unspent 0 result (rw run (spent_unrun turns result)) heard
  done_heard (job.List folder) went a b t u result run tells heard = unspent 0 result (rw run (spent_unrun turns result)) heard

  -- the loop of a job whose turns were spent
  pub done_spent : (j : Job) (went : Ran) (a b t u : SinkLog) (result : Status) → WritesVerdict a b t u (of_ran went) result → EventsTaken (given_by j turns went) before after → result ≡ status.TurnsSpent → EventsTaken (least_heard (of_job j) turns) before after
  done_spent (job.Run s ticks) went a b t u result tells heard spends =
      subst (λ (e : Ending). EventsTaken (events_below s (heard_in turns e)) before after) (ended_spent went a b t u result tells spends) heard
  done_spent (job.Record s ticks) went a b t u result tells heard spends =
      subst (λ (e : Ending). EventsTaken (events_below s (heard_in turns e)) before after) (ended_spent went a b t u result tells spends) heard
  done_spent (job.Replay s schedule) went a b t u result tells heard spends = heard
  done_spent (job.Generate s schedule) went a b t u result tells heard spends = heard
  done_spent (job.List folder) went a b t u result tells heard spends = heard

-- a replay whose turns were spent had too few
pub done_few : ((turns : ℕ) (case : Case) (old new : Platform) (r : Reported) → Produces turns case old new r → r.ending ≡ ending.TurnsSpent → HasFewTurns case turns)
    → (turns : ℕ) (j : Job) (old new : Platform) (went : Ran) (a b t u : SinkLog) (result : Status) → JobProduces turns (of_job j) old new went → WritesVerdict a b t u (of_ran went) result → result ≡ status.TurnsSpent
    → HasFewTurns (of_job j) turns
done_few few turns (job.Run s ticks) old new went a b t u result comes tells spends = tt
done_few few turns (job.Record s ticks) old new went a b t u result comes tells spends = tt
done_few few turns (job.Replay s schedule) old new (ran.Unrecorded reported) a b t u result comes tells spends =
    few turns (Replays s schedule.lives) old new reported comes (ended_spent (ran.Unrecorded reported) a b t u result tells spends)
done_few few turns (job.Replay s schedule) old new ran.NotRecordable a b t u result comes tells spends = absurd comes
done_few few turns (job.Replay s schedule) old new (ran.Recorded reported made) a b t u result comes tells spends = absurd comes
done_few few turns (job.Generate s schedule) old new (ran.Unrecorded reported) a b t u result comes tells spends =
    few turns (Generates s schedule.lives) old new reported comes (ended_spent (ran.Unrecorded reported) a b t u result tells spends)
done_few few turns (job.Generate s schedule) old new ran.NotRecordable a b t u result comes tells spends = absurd comes
done_few few turns (job.Generate s schedule) old new (ran.Recorded reported made) a b t u result comes tells spends = absurd comes
done_few few turns (job.List folder) old new went a b t u result comes tells spends = tt

pub refused_spent : (result : Status) → IsRefusal result → result ≡ status.TurnsSpent → ⊥
refused_spent status.TurnsSpent is same = is
refused_spent result is same = absurd (cc same)

-- there was nothing to do
pub refused_heard : {Y : Type 0} (words : List (String Y)) (turns : ℕ) (a : LoopCounts) (result : Status) → IsRefusal result → EventsTaken (half (spent words turns result)) a a
refused_heard words turns a status.TurnsSpent is = absurd is
refused_heard words turns a result is = heard_none a

-- ---- causes

pub no_cause : {F : Type 0} (n : ℕ) → (F → ⊥) → HasCause n n F
no_cause n none = record { later = omega arith; cause = λ failed. absurd (none failed) }

-- a job with this status ended this way
loop_failed : (end : Ending) → status_of end ≡ status.LoopFault → end ≡ ending.LoopFailed
loop_failed ending.LoopFailed is = refl
loop_failed end is = absurd (cc is)

keeper_failed : (end : Ending) → status_of end ≡ status.KeeperFault → end ≡ ending.KeeperFailed
keeper_failed ending.KeeperFailed is = refl
keeper_failed end is = absurd (cc is)

disk_failed : (end : Ending) → status_of end ≡ status.DiskFault → end ≡ ending.DiskFailed
disk_failed ending.DiskFailed is = refl
disk_failed end is = absurd (cc is)

no_file_failed : (end : Ending) → status_of end ≢ status.FileFault
no_file_failed ending.Over is = absurd (cc is)
no_file_failed end is = absurd (cc is)

module _ {Y : Type 0} (words : List (String Y)) (before after : ℕ) (a b t u : SinkLog) (result : Status) where
  -- a run whose loop, keeper or disk failed ended so
  loop_ended : (went : Ran) → WritesVerdict a b t u (of_ran went) result → IsLoopFault words result → ending_of_run went ≡ ending.LoopFailed
  loop_ended went tells fault = ending_told went ending.LoopFailed status.LoopFault loop_failed (λ x. cc x) (λ x. cc x) (end_told (of_ran went) a b t u result status.LoopFault tells (λ x. cc x) (λ x. cc x) (λ x. cc x) fault.1)

  keeper_ended : (went : Ran) → WritesVerdict a b t u (of_ran went) result → IsKeeperFault words result → ending_of_run went ≡ ending.KeeperFailed
  keeper_ended went tells fault = ending_told went ending.KeeperFailed status.KeeperFault keeper_failed (λ x. cc x) (λ x. cc x) (end_told (of_ran went) a b t u result status.KeeperFault tells (λ x. cc x) (λ x. cc x) (λ x. cc x) fault.1)

  disk_ended : (went : Ran) → WritesVerdict a b t u (of_ran went) result → IsDiskFault words result → ending_of_run went ≡ ending.DiskFailed
  disk_ended went tells fault = ending_told went ending.DiskFailed status.DiskFault disk_failed (λ x. cc x) (λ x. cc x) (end_told (of_ran went) a b t u result status.DiskFault tells (λ x. cc x) (λ x. cc x) (λ x. cc x) fault.1)

  pub done_loop_cause : (j : Job) (went : Ran) → is_run (command_of (map string_bytes words)) ≡ is_to_run j → WritesVerdict a b t u (of_ran went) result → HasCause before after (HasLoopFailed j went) → HasCause before after (IsLoopFault words result)
  done_loop_cause (job.Run s ticks) went run tells cause = record { later = cause.later; cause = λ fault. cause.cause (loop_ended went tells fault) }
  done_loop_cause (job.Record s ticks) went run tells cause = record { later = cause.later; cause = λ fault. cause.cause (loop_ended went tells fault) }
  done_loop_cause (job.Replay s schedule) went run tells cause = record { later = cause.later; cause = λ fault. absurd (cc (sym run ∙ fault.0)) }
  done_loop_cause (job.Generate s schedule) went run tells cause = record { later = cause.later; cause = λ fault. absurd (cc (sym run ∙ fault.0)) }
  done_loop_cause (job.List folder) went run tells cause = record { later = cause.later; cause = λ fault. absurd (cc (sym run ∙ fault.0)) }

  pub done_keeper_cause : (j : Job) (went : Ran) → is_run (command_of (map string_bytes words)) ≡ is_to_run j → WritesVerdict a b t u (of_ran went) result → HasCause before after (HasKeeperFailed j went) → HasCause before after (IsKeeperFault words result)
  done_keeper_cause (job.Run s ticks) went run tells cause = record { later = cause.later; cause = λ fault. cause.cause (keeper_ended went tells fault) }
  done_keeper_cause (job.Record s ticks) went run tells cause = record { later = cause.later; cause = λ fault. cause.cause (keeper_ended went tells fault) }
  done_keeper_cause (job.Replay s schedule) went run tells cause = record { later = cause.later; cause = λ fault. absurd (cc (sym run ∙ fault.0)) }
  done_keeper_cause (job.Generate s schedule) went run tells cause = record { later = cause.later; cause = λ fault. absurd (cc (sym run ∙ fault.0)) }
  done_keeper_cause (job.List folder) went run tells cause = record { later = cause.later; cause = λ fault. absurd (cc (sym run ∙ fault.0)) }

  pub done_disk_cause : (j : Job) (went : Ran) → is_over_disk (command_of (map string_bytes words)) ≡ takes_disk j → WritesVerdict a b t u (of_ran went) result → HasCause before after (HasDiskFailed j went) → HasCause before after (IsDiskFault words result)
  done_disk_cause (job.Run s ticks) went over tells cause = record { later = cause.later; cause = λ fault. cause.cause (disk_ended went tells fault) }
  done_disk_cause (job.Record s ticks) went over tells cause = record { later = cause.later; cause = λ fault. cause.cause (disk_ended went tells fault) }
  done_disk_cause (job.Replay s schedule) went over tells cause = record { later = cause.later; cause = λ fault. absurd (cc (sym over ∙ fault.0)) }
  done_disk_cause (job.Generate s schedule) went over tells cause = record { later = cause.later; cause = λ fault. absurd (cc (sym over ∙ fault.0)) }
  done_disk_cause (job.List folder) went over tells cause = record { later = cause.later; cause = λ fault. cause.cause (disk_ended went tells fault) }

-- a written outcome isn't a fault of a file
no_file_status : (went : Ran) → (of_ran went).status ≢ status.FileFault
no_file_status ran.NotRecordable is = cc is
no_file_status (ran.Unrecorded r) is = no_file_failed r.ending is
no_file_status (ran.Recorded r (Ok schedule)) is = no_file_failed r.ending is
no_file_status (ran.Recorded r (Err e)) is = cc is

pub no_file_fault : (went : Ran) (a b t u : SinkLog) (result : Status) → WritesVerdict a b t u (of_ran went) result → result ≢ status.FileFault
no_file_fault went a b t u result tells = told_by_one (of_ran went) a b t u result status.FileFault tells (no_file_status went) (λ is. cc is) (λ is. cc is) (λ is. cc is)

-- a refusal isn't a fault of the loop, the keeper, the disk, the sink or the tape
module _ {Y : Type 0} (words : List (String Y)) where
  pub refused_loop : (result : Status) → IsRefusal result → IsLoopFault words result → ⊥
  refused_loop status.LoopFault is fault = is
  refused_loop result is fault = absurd (cc fault.1)

  pub refused_keeper : (result : Status) → IsRefusal result → IsKeeperFault words result → ⊥
  refused_keeper status.KeeperFault is fault = is
  refused_keeper result is fault = absurd (cc fault.1)

  pub refused_disk : (result : Status) → IsRefusal result → IsDiskFault words result → ⊥
  refused_disk status.DiskFault is fault = is
  refused_disk result is fault = absurd (cc fault.1)

pub refused_out : (result : Status) → IsRefusal result → result ≢ status.OutFault
refused_out status.OutFault is same = is
refused_out result is same = absurd (cc same)

pub refused_tape : (result : Status) → IsRefusal result → result ≢ status.RecordFault
refused_tape status.RecordFault is same = is
refused_tape result is same = absurd (cc same)

-- a count that rose twice, without a failure
pub goes_later : {F : Type 0} {a b c : ℕ} → a ≤ b → b ≤ c → (F → ⊥) → HasCause a c F
goes_later first second none = record { later = omega arith; cause = λ failed. absurd (none failed) }
