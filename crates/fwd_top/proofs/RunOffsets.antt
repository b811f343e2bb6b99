-- Each run keeps its offsets.
use Rattle.std.proofs.Common.{◌≡◌, ◌≤◌, ℕ, ◌-◌, ◌^◌, false, List, [], ◌∷◌, ◌++◌, Option, Some, None, subst}
use Rattle.std.specs.Prelude.{Contains}
use Rattle.fwd_outside.specs.Program.{entry, Execution}
use Rattle.fwd_outside.specs.Loop.{Wait}
use Rattle.fwd_outside.specs.declared.ends.Ends.{Ends}
use Rattle.fwd_outside.specs.declared.happening.Happening.{Happening}
use Rattle.fwd_settings.specs.Endpoints.{ends_of}
use Rattle.fwd_settings.specs.declared.settings_types.AllSettings.{AllSettings}
use Rattle.fwd_script.specs.declared.schedule.Life.{Life}
use Rattle.fwd_model.specs.Trace.{Action, TraceEntry, OnLoop, history_after}
use Rattle.fwd_model.specs.FollowedFiles.{file_at}
use Rattle.fwd_model.specs.KeptOffsets.{Tracked, tracked, kept_at}
use Rattle.fwd_model.specs.Run.{RunResult, life}
use Rattle.fwd_theorem_trace.specs.Past.{past_after}
use Rattle.fwd_theorem_trace.specs.Waits.{waits_in}
use Rattle.fwd_theorem_offsets.specs.Passed.{ArePassed}
use Rattle.fwd_theorem_offsets.specs.KeptFiles.{IsAlone, SplitsAt, begun_at, last_given, was_cut}
use Rattle.fwd_replay.specs.Runs.{CutRun, IsCut, IsCutIn, InTurn, WasOver, IsReplayed, Ended, WasCut, OutOfMemory, Start, course_of}
use Rattle.fwd_replay.specs.FileChanges.{course_after}
use Rattle.fwd_replay.specs.declared.report.Reported.{Reported}
use Rattle.fwd_replay.specs.declared.report.Shown.{Shown}
use Rattle.fwd_top.specs.Offsets.{EachKeepsOffsets, KeepsOffsets}

abbrev pub PassedLaw : Type 0
PassedLaw = (s : AllSettings) (ends : Ends) (ticks : Option ℕ) (turns : ℕ) (entries : List TraceEntry) (left : Action RunResult) → Execution (life s ends ticks turns) entries left → ArePassed s (past_after [] entries)

abbrev pub SplitsLaw : Type 0
SplitsLaw =
    (s : AllSettings) (ends : Ends) (ticks : Option ℕ) (turns : ℕ) (entries : List TraceEntry) (left : Action RunResult) (input index place : ℕ)
    → Execution (life s ends ticks turns) entries left → IsAlone s input index → kept_at (history_after entries []) input index ≡ Some place → place ≤ 2 ^ 64 - 1 → was_cut s (history_after entries []) input index ≡ false
    → SplitsAt (file_at s (history_after entries []) input index) place

abbrev pub ResumesLaw : Type 0
ResumesLaw =
    (s : AllSettings) (ends : Ends) (ticks : Option ℕ) (turns : ℕ) (before after : List TraceEntry) (left : Action RunResult) (until mask : ℕ) (brought : Happening) (file : Tracked)
    → Execution (life s ends ticks turns) (before ++ entry (OnLoop (Wait until mask)) brought ∷ after) left → waits_in before ≡ 0 → Contains (tracked s) file → IsAlone s file.input file.index
    → file_at s (history_after before []) file.input file.index ≡ begun_at (last_given (past_after [] before) file.db file.path)

module _ (passed : PassedLaw) (splits : SplitsLaw) (resumes : ResumesLaw) where
  pub keeps_offsets : (s : AllSettings) (ends : Ends) (ticks : Option ℕ) (turns : ℕ) (entries : List TraceEntry) (left : Action RunResult) → Execution (life s ends ticks turns) entries left → KeepsOffsets s entries
  keeps_offsets s ends ticks turns entries left way = record {
    passed = passed s ends ticks turns entries left way;
    splits = λ input index place alone kept small uncut. splits s ends ticks turns entries left input index place way alone kept small uncut;
    resumes = λ before after until mask brought file is none among alone.
        resumes s ends ticks turns before after left until mask brought file (subst (λ (es : List TraceEntry). Execution (life s ends ticks turns) es left) is way) none among alone;
  }

  cut_keeps : (s : AllSettings) (turns : ℕ) (start : Start) (planned : Life) (c : CutRun) → IsCut s turns start planned c → KeepsOffsets s c.before
  cut_keeps s turns start planned c is = by is.cut_in
    where
      by : IsCutIn s turns c.before c.history c.handshakes (course_after (course_of start planned) c.below) c.turn → KeepsOffsets s c.before
      by (InTurn waits way asks last end own) = keeps_offsets s (ends_of s) None (waits_in c.before) c.before _ way
      by (WasOver way none) = keeps_offsets s (ends_of s) None turns c.before _ way

  pub each_keeps_offsets : (shown : Shown) (s : AllSettings) (turns : ℕ) (start : Start) (lives : List Life) (reported : Reported) (is : IsReplayed shown s turns start lives reported) → EachKeepsOffsets shown s turns start lives reported is
  each_keeps_offsets shown s turns start [] reported is = tt
  each_keeps_offsets shown s turns start (planned ∷ lives) reported (Ended ends) = keeps_offsets s (ends_of s) None turns ends.trace _ ends.is.way
  each_keeps_offsets shown s turns start (planned ∷ lives) reported (WasCut c is rest more joins) =
      (cut_keeps s turns start planned c is, each_keeps_offsets shown s (turns - waits_in (c.before ++ c.turn)) c.next lives rest more)
  each_keeps_offsets shown s turns start (planned ∷ lives) reported (OutOfMemory none) = tt
