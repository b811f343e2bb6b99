-- Each run over a disk in memory sends the records of its chunks.
use Rattle.std.proofs.Common.{◌≡◌, ℕ, ◌-◌, List, [], ◌∷◌, ◌++◌, None, sym, ◌∙◌, subst}
use Rattle.fwd_outside.specs.Program.{Return, Execution}
use Rattle.fwd_outside.specs.AtCrashPoints.{Ends}
use Rattle.fwd_outside.specs.LoopAnswers.{AreLoopAnswers}
use Rattle.fwd_outside.specs.Disk.{DiskEntry}
use Rattle.fwd_outside.specs.DiskStates.{Files, DiskTransition}
use Rattle.fwd_disk_mem.specs.declared.entry.MemEntry.{MemEntry}
use Rattle.fwd_disk_mem.specs.Entry.{files_of}
use Rattle.fwd_settings.specs.Endpoints.{ends_of}
use Rattle.fwd_settings.specs.Requirements.{MeetsRequirements}
use Rattle.fwd_settings.specs.declared.settings_types.AllSettings.{AllSettings}
use Rattle.fwd_script.specs.declared.schedule.Life.{Life}
use Rattle.fwd_model.specs.Trace.{Action, TraceEntry, loop_part, disk_part, history_after}
use Rattle.fwd_model.specs.Run.{RunResult, life}
use Rattle.fwd_theorem_trace.specs.Past.{past_after}
use Rattle.fwd_theorem_trace.specs.Waits.{waits_in}
use Rattle.fwd_theorem_crash.specs.CrashPoint.{crash_point}
use Rattle.fwd_theorem_records.specs.Records.{FlushesSendTheirRecords}
use Rattle.fwd_theorem_records.proofs.SentRecords.{sent_by_then}
use Rattle.fwd_secure.specs.Handshakes.{no_handshakes}
use Rattle.fwd_replay.proofs.TurnCalls.{disk_same}
use Rattle.fwd_replay.specs.Runs.{Start, first, disk_of, IsAnswered, IsReplayed, Ended, WasCut, OutOfMemory}
use Rattle.fwd_replay.specs.declared.report.Reported.{Reported}
use Rattle.fwd_replay.specs.declared.report.Shown.{Shown}
use Rattle.fwd_theorem_replay.specs.SentRecords.{EachSendsRecords}
use Rattle.fwd_theorem_replay.proofs.Entries.{AreNaming, played_naming}
use Rattle.fwd_theorem_replay.proofs.PresetDisk.{AreSettings, set_presets, fresh_files, disk_ends}
use Rattle.fwd_theorem_replay.proofs.DiskPoints.{passes_along}
use Rattle.fwd_theorem_replay.proofs.CutRun.{set_disk, cut_life, same_disk}

module _ (s : AllSettings) (settings : MeetsRequirements s) where
  run_sends : (start : Start) (planned : Life) (trace below : List TraceEntry) (asked : List MemEntry) (turns : ℕ) (left : Action RunResult) → AreSettings start.disk → IsAnswered start planned below asked
      → disk_part below ≡ disk_part trace → AreLoopAnswers (loop_part trace) → Execution (life s (ends_of s) None turns) trace left → FlushesSendTheirRecords (history_after trace [])
  run_sends start planned trace below asked turns left set answered same answers way =
      let are_calls = answered.are ∙ same in
      let calls : List MemEntry = disk_of start planned in
      let are : AreSettings calls = set_disk start planned set in
      let image : Files = files_of calls in
      let last : Files = files_of (calls ++ asked) in
      let naming : AreNaming (disk_part trace) = subst AreNaming are_calls (played_naming calls asked answered.disk) in
      let ends : Ends DiskTransition image (disk_part trace) last = subst (λ (es : List DiskEntry). Ends DiskTransition image es last) are_calls (disk_ends calls asked are answered.disk) in
      sent_by_then s settings image (ends_of s) None turns trace left (crash_point (past_after [] trace) last) (fresh_files calls are) way (passes_along [] image last trace naming ends) answers.bytes

  each_sends_from : (shown : Shown) (turns : ℕ) (start : Start) → AreSettings start.disk → (lives : List Life) (reported : Reported) (is : IsReplayed shown s turns start lives reported) → EachSendsRecords shown s turns start lives reported is
  each_sends_from shown turns start set [] reported is = tt
  each_sends_from shown turns start set (planned ∷ lives) reported (Ended ends) =
      run_sends start planned ends.trace ends.is.below ends.is.asked turns (Return ends.comes) set ends.is.answered (disk_same s no_handshakes ends.is.handshakes ends.trace ends.is.below ends.is.secured) ends.is.answers ends.is.way
  each_sends_from shown turns start set (planned ∷ lives) reported (WasCut c cut rest more joins) =
      let begun = cut_life s turns start planned c cut in (
        run_sends start planned (c.before ++ c.turn) (c.below ++ c.below_in) (c.asked ++ c.asked_in) begun.turns begun.left set cut.answered (same_disk s turns start planned c cut) cut.answers begun.way,
        each_sends_from shown (turns - waits_in (c.before ++ c.turn)) c.next (subst AreSettings (sym cut.disk_is) (set_presets cut.files)) lives rest more,
      )
  each_sends_from shown turns start set (planned ∷ lives) reported (OutOfMemory none) = tt

  pub each_sends : (shown : Shown) (turns : ℕ) (lives : List Life) (reported : Reported) (is : IsReplayed shown s turns first lives reported) → EachSendsRecords shown s turns first lives reported is
  each_sends shown turns lives reported is = each_sends_from shown turns first tt lives reported is
