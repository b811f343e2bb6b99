-- What is written to the tape.
use Rattle.std.specs.Prelude.{◌≢◌}
use Rattle.std.proofs.Common.{◌≡◌, ◌⊎◌, ℕ, Bool, true, false, List, [], map, String, string_bytes, Option, Some, None, Result, Ok, Err, inl, inr, refl, sym, ap, subst, ◌∙◌}
use Rattle.fwd_outside.specs.Log.{LogGrew}
use Rattle.fwd_outside.specs.Files.{FilesLog}
use Rattle.fwd_outside.specs.Sink.{SinkLog}
use Rattle.fwd_settings.specs.declared.settings_types.AllSettings.{AllSettings}
use Rattle.fwd_script.specs.Text.{text_of}
use Rattle.fwd_script.specs.declared.schedule.Schedule.{Schedule}
use Rattle.fwd_script.proofs.RoundTrip.{written_reads}
use Rattle.fwd_model.specs.Run.{End, Over, DiskFailed, KeeperFailed, LoopFailed, TurnsSpent}
use Rattle.fwd_replay.specs.RecordedRun.{RanSo, Failed, RanOutOfMemory}
use Rattle.fwd_replay.specs.Text.{report, reported_by}
use Rattle.fwd_replay.specs.declared.recorded_run.Ran.{Ran}
use Rattle.fwd_replay.specs.declared.recorded_run.Ran.TheVariants as ran
use Rattle.fwd_replay.specs.declared.report.Ending.{Ending}
use Rattle.fwd_replay.specs.declared.report.Ending.TheVariants as ending
use Rattle.fwd_replay.specs.declared.report.Reported.{Reported}
use Rattle.fwd_top.specs.Words.{command_of}
use Rattle.fwd_top.specs.Outcomes.{Platform, world}
use Rattle.fwd_top.specs.Answers.{Verdict, Devices, platform, status_of, of_ran, of_reported, WroteAtMostAPrefix, WroteSchedule}
use Rattle.fwd_top.specs.Results.{IsRefusal, JobProduces, WritesVerdict, AllWritten, TextFailed, TextStopped, RecordFailed, RecordStopped, is_to_record, of_job}
use Rattle.fwd_top.specs.Taped.{IsTextOfRun, IsTaped, TapedBy, TapedIf, is_record}
use Rattle.fwd_top.specs.declared.job.Job.{Job}
use Rattle.fwd_top.specs.declared.job.Job.TheVariants as job
use Rattle.fwd_top.specs.declared.status.Status.{Status}
use Rattle.fwd_top.specs.declared.status.Status.TheVariants as status
use Rattle.fwd_top.proofs.Writing.{IsReport, is_report}

-- ---- without a schedule

no_schedule : (verdict : Verdict) (text schedule : List ℕ) (end : Status) → verdict.schedule ≡ None → verdict ≡ record { text = text; status = end; schedule = Some schedule } → ⊥
no_schedule verdict text schedule end none both = cc (sym none ∙ ap (λ (v : Verdict). v.schedule) both)

unwritten : (a b t u : SinkLog) (verdict : Verdict) (result : Status) → verdict.schedule ≡ None → WritesVerdict a b t u verdict result → LogGrew t u []
unwritten a b t u verdict result none (AllWritten same wrote taped) = subst (λ (schedule : Option (List ℕ)). WroteSchedule t u schedule) none taped
unwritten a b t u verdict result none (TextFailed same wrote taped) = taped
unwritten a b t u verdict result none (TextStopped same wrote taped) = taped
unwritten a b t u verdict result none (RecordFailed text schedule end both same wrote taped) = absurd (no_schedule verdict text schedule end none both)
unwritten a b t u verdict result none (RecordStopped text schedule end both same wrote taped) = absurd (no_schedule verdict text schedule end none both)

-- ---- by the status

-- after a status that isn't one of a whole schedule, or of a failed one
module _ (IsText : List ℕ → Type 0) (t u : SinkLog) where
  abbrev IsQuiet : Status → Type 0
  IsQuiet status.Done = ⊥
  IsQuiet status.TurnsSpent = ⊥
  IsQuiet status.RecordFault = ⊥
  IsQuiet other = Unit {0}

  quiet : (result : Status) → IsQuiet result → LogGrew t u [] → TapedBy IsText t u result
  quiet status.Done is none = absurd is
  quiet status.TurnsSpent is none = absurd is
  quiet status.RecordFault is none = absurd is
  quiet status.Memory is none = inl none
  quiet other is none = none

  quiet_told : (a b : SinkLog) (verdict : Verdict) (result : Status) → verdict.schedule ≡ None → IsQuiet verdict.status → WritesVerdict a b t u verdict result → IsQuiet result
  quiet_told a b verdict result none is (AllWritten same wrote taped) = subst IsQuiet (sym same) is
  quiet_told a b verdict result none is (TextFailed same wrote taped) = rw same tt
  quiet_told a b verdict result none is (TextStopped same wrote taped) = rw same tt
  quiet_told a b verdict result none is (RecordFailed text schedule end both same wrote taped) = absurd (no_schedule verdict text schedule end none both)
  quiet_told a b verdict result none is (RecordStopped text schedule end both same wrote taped) = rw same tt

  without : (a b : SinkLog) (verdict : Verdict) (result : Status) → verdict.schedule ≡ None → IsQuiet verdict.status → WritesVerdict a b t u verdict result → TapedBy IsText t u result
  without a b verdict result none is tells = quiet result (quiet_told a b verdict result none is tells) (unwritten a b t u verdict result none tells)

  -- a run that isn't recorded ended without a report
  quiet_end : (end : Ending) → end ≢ ending.Over → end ≢ ending.TurnsSpent → IsQuiet (status_of end)
  quiet_end ending.Over over spent = over refl
  quiet_end ending.TurnsSpent over spent = spent refl
  quiet_end ending.DiskFailed over spent = tt
  quiet_end ending.KeeperFailed over spent = tt
  quiet_end ending.LoopFailed over spent = tt
  quiet_end ending.Memory over spent = tt

  module _ (text : List ℕ) (is_text : IsText text) where
    prefix : WroteAtMostAPrefix t u text → TapedBy IsText t u status.Memory
    prefix (inl none) = inl none
    prefix (inr some) = inr (text, is_text, some)

    whole : (end : Ending) (result : Status) → (end ≡ ending.Over) ⊎ (end ≡ ending.TurnsSpent) → result ≡ status_of end → WroteSchedule t u (Some text) → TapedBy IsText t u result
    whole end result (inl over) same taped = rw (same, over) (text, is_text, taped)
    whole end result (inr spent) same taped = rw (same, spent) (text, is_text, taped)

ending_is : (text : List ℕ) (end : End) (one : Ending) → (reported_by text end).ending ≡ one → (one ≡ ending.Over) ⊎ (one ≡ ending.TurnsSpent) → (end ≡ Over) ⊎ (end ≡ TurnsSpent)
ending_is text Over one is either = inl refl
ending_is text TurnsSpent one is either = inr refl
ending_is text DiskFailed one is (inl over) = absurd (cc (is ∙ over))
ending_is text DiskFailed one is (inr spent) = absurd (cc (is ∙ spent))
ending_is text KeeperFailed one is (inl over) = absurd (cc (is ∙ over))
ending_is text KeeperFailed one is (inr spent) = absurd (cc (is ∙ spent))
ending_is text LoopFailed one is (inl over) = absurd (cc (is ∙ over))
ending_is text LoopFailed one is (inr spent) = absurd (cc (is ∙ spent))

module _ (turns : ℕ) (s : AllSettings) (ticks : Option ℕ) (old new : Devices) (read : FilesLog) where
  abbrev IsText : List ℕ → Type 0
  IsText = IsTextOfRun turns old new

  abbrev Went : Ran → Type 0
  Went went = RanSo s ticks turns (world (platform old read)) (world (platform new new.files)) old.endless went

  no_report : (reported : Reported) → Went (ran.Unrecorded reported) → (reported.ending ≡ ending.Over) ⊎ (reported.ending ≡ ending.TurnsSpent) → ⊥
  no_report reported (Failed runs none) either = none (ending_is (report s runs.lived.history) runs.lived.end reported.ending (sym (ap (λ (r : Reported). r.ending) runs.reports)) either)
  no_report reported (RanOutOfMemory begun out) (inl over) = cc (sym (ap (λ (r : Reported). r.ending) out) ∙ over)
  no_report reported (RanOutOfMemory begun out) (inr spent) = cc (sym (ap (λ (r : Reported). r.ending) out) ∙ spent)

  text_is : (reported : Reported) (schedule : Schedule) → Went (ran.Recorded reported (Ok schedule)) → IsText (text_of schedule)
  text_is reported schedule comes = record {
    s = s;
    ticks = ticks;
    read = read;
    reported = reported;
    schedule = schedule;
    recorded = comes;
    writes = refl;
    reads = written_reads schedule comes.writable;
  }

  recorded_so : (reported : Reported) (schedule : Schedule) (result : Status) → IsText (text_of schedule) → IsReport (ran.Recorded reported (Ok schedule))
      → WritesVerdict old.sink new.sink old.tape new.tape (of_ran (ran.Recorded reported (Ok schedule))) result → TapedBy IsText old.tape new.tape result
  recorded_so reported schedule result is_text ends (AllWritten same wrote taped) = whole IsText old.tape new.tape (text_of schedule) is_text reported.ending result ends same taped
  recorded_so reported schedule result is_text ends (TextFailed same wrote taped) = rw same taped
  recorded_so reported schedule result is_text ends (TextStopped same wrote taped) = rw same (inl taped)
  recorded_so reported schedule result is_text ends (RecordFailed text made end both same wrote taped) =
      let is : text_of schedule ≡ made = cc (ap (λ (v : Verdict). v.schedule) both) in
      rw same (made, subst IsText is is_text, taped)
  recorded_so reported schedule result is_text ends (RecordStopped text made end both same wrote taped) =
      let is : text_of schedule ≡ made = cc (ap (λ (v : Verdict). v.schedule) both) in
      rw same (prefix IsText old.tape new.tape made (subst IsText is is_text) taped)

  taped_so : (went : Ran) (result : Status) → Went went → IsReport went → WritesVerdict old.sink new.sink old.tape new.tape (of_ran went) result → TapedBy IsText old.tape new.tape result
  taped_so ran.NotRecordable result comes ends tells = without IsText old.tape new.tape old.sink new.sink (of_ran ran.NotRecordable) result refl tt tells
  taped_so (ran.Unrecorded reported) result comes ends tells =
      without IsText old.tape new.tape old.sink new.sink (of_reported reported) result refl
      (quiet_end IsText old.tape new.tape reported.ending (λ over. no_report reported comes (inl over)) (λ spent. no_report reported comes (inr spent))) tells
  taped_so (ran.Recorded reported (Ok schedule)) result comes ends tells = recorded_so reported schedule result (text_is reported schedule comes) ends tells
  taped_so (ran.Recorded reported (Err none)) result comes ends tells = without IsText old.tape new.tape old.sink new.sink (of_ran (ran.Recorded reported (Err none))) result refl tt tells

-- ---- the outcome of a job was written

unrecorded : (turns : ℕ) (j : Job) (old new : Platform) (went : Ran) → is_to_record j ≡ false → JobProduces turns (of_job j) old new went → (of_ran went).schedule ≡ None
unrecorded turns (job.Record s ticks) old new went is comes = absurd (cc is)
unrecorded turns j old new ran.NotRecordable is comes = refl
unrecorded turns j old new (ran.Unrecorded reported) is comes = refl
unrecorded turns j old new (ran.Recorded reported schedule) is comes = absurd comes

module _ {Y : Type 0} (words : List (String Y)) (turns : ℕ) (old new : Devices) where
  pub done_taped : (j : Job) (read : FilesLog) (went : Ran) (result : Status) → is_record (command_of (map string_bytes words)) ≡ is_to_record j → JobProduces turns (of_job j) (platform old read) (platform new new.files) went
      → WritesVerdict old.sink new.sink old.tape new.tape (of_ran went) result → IsTaped words turns old new result
  done_taped (job.Record s ticks) read went result is comes tells = rw is (taped_so turns s ticks old new read went result comes (is_report turns (of_job (job.Record s ticks)) (platform old read) (platform new new.files) went comes) tells)
  done_taped j read went result is comes tells = rw is (unwritten old.sink new.sink old.tape new.tape (of_ran went) result (unrecorded turns j (platform old read) (platform new new.files) went refl comes) tells)

  refused_by : (recorded : Bool) (result : Status) → IsRefusal result → LogGrew old.tape new.tape [] → TapedIf recorded turns old new result
  refused_by false result is none = none
  refused_by true status.Done is none = absurd is
  refused_by true status.TurnsSpent is none = absurd is
  refused_by true status.RecordFault is none = absurd is
  refused_by true status.Memory is none = inl none
  refused_by true other is none = none

  -- there was nothing to do
  pub refused_taped : (result : Status) → IsRefusal result → LogGrew old.tape new.tape [] → IsTaped words turns old new result
  refused_taped result is none = refused_by (is_record (command_of (map string_bytes words))) result is none
