-- The point at which a run is cut is safe.
use Rattle.std.proofs.Common.{◌≡◌, ℕ, ◌+◌, true, List, [], ◌++◌, map, take, drop, None, refl, sym, ◌∙◌, ap, subst, append_assoc}
use Rattle.std.proofs.lemmas.List.{append-nil, take-append-drop}
use Rattle.fwd_outside.specs.Program.{Return, Execution}
use Rattle.fwd_outside.specs.AtCrashPoints.{Ends}
use Rattle.fwd_outside.proofs.Executions.{way_trans}
use Rattle.fwd_outside.specs.Disk.{DiskEntry}
use Rattle.fwd_outside.specs.DiskStates.{Files}
use Rattle.fwd_outside.specs.DiskStates as disk
use Rattle.fwd_disk_mem.specs.declared.entry.MemEntry.{MemEntry}
use Rattle.fwd_disk_mem.specs.declared.entry.MemEntry.TheVariants.{Preset, FailAt}
use Rattle.fwd_disk_mem.specs.Entry.{entries_of, files_of, IsPlayed}
use Rattle.fwd_disk_mem.specs.Images.{reach}
use Rattle.fwd_disk_mem.proofs.CallTrace.{played_first}
use Rattle.fwd_settings.specs.Endpoints.{ends_of}
use Rattle.fwd_settings.specs.Requirements.{MeetsRequirements}
use Rattle.fwd_settings.specs.declared.settings_types.AllSettings.{AllSettings}
use Rattle.fwd_script.specs.declared.schedule.Life.{Life}
use Rattle.fwd_script.specs.declared.schedule.Stored.{Stored}
use Rattle.fwd_model.specs.Trace.{Action, TraceEntry, disk_part}
use Rattle.fwd_model.specs.Run.{Over, RunResult, lived, run, life}
use Rattle.fwd_theorem_trace.specs.Past.{past_after}
use Rattle.fwd_theorem_trace.specs.Waits.{waits_in}
use Rattle.fwd_theorem_crash.specs.CrashPoint.{crash_point}
use Rattle.fwd_theorem_crash.specs.Safety.{IsSafe}
use Rattle.fwd_theorem_crash.proofs.RunSafety.{all_safe}
use Rattle.fwd_replay.specs.FileChanges.{Course}
use Rattle.fwd_replay.specs.Runs.{Start, disk_of, CutRun, IsCutIn, InTurn, WasOver, IsCut, first_calls}
use Rattle.fwd_theorem_crash.proofs.MoreTurns.{life_on, turn_runs}
use Rattle.fwd_secure.specs.Handshakes.{no_handshakes}
use Rattle.fwd_secure_settings.specs.Keys.{keys_of}
use Rattle.fwd_secure_trace.proofs.Secured.{secured_append}
use Rattle.fwd_replay.proofs.TurnCalls.{disk_same}
use Rattle.fwd_theorem_replay.specs.Crashes.{CrashedAfter}
use Rattle.fwd_theorem_replay.proofs.Entries.{AreNaming, played_naming}
use Rattle.fwd_theorem_replay.proofs.PresetDisk.{AreSettings, set_both, set_each, fresh_files, disk_ends}
use Rattle.fwd_theorem_replay.proofs.DiskPoints.{passes_along, at_last, way_first}

pub set_disk : (start : Start) (planned : Life) → AreSettings start.disk → AreSettings (disk_of start planned)
set_disk start planned set =
    set_both (start.disk ++ map (λ (file : Stored). Preset file.name file.bytes) planned.store) (map (λ (number : ℕ). FailAt number) planned.disk_fails)
    (set_both start.disk (map (λ (file : Stored). Preset file.name file.bytes) planned.store) set (set_each (λ (file : Stored). Preset file.name file.bytes) (λ file. tt) planned.store))
    (set_each (λ (number : ℕ). FailAt number) (λ number. tt) planned.disk_fails)

-- a run that was cut is the beginning of a run
pub record IsBeginning (s : AllSettings) (es : List TraceEntry) : Type 0 where
  pub turns : ℕ
  pub left : Action RunResult
  pub way : Execution (life s (ends_of s) None turns) es left

module _ (s : AllSettings) (turns : ℕ) (start : Start) (planned : Life) (c : CutRun) (cut : IsCut s turns start planned c) where
  pub cut_life : IsBeginning s (c.before ++ c.turn)
  cut_life = by cut.cut_in
    where
      by : {at : Course} → IsCutIn s turns c.before c.history c.handshakes at c.turn → IsBeginning s (c.before ++ c.turn)
      by (InTurn waits way asks last_event end own) =
          let runs = turn_runs s c.history end c.turn own in
          record {
            turns = waits_in c.before + 1;
            left = runs.0;
            way =
                way_trans (life s (ends_of s) None (waits_in c.before + 1)) (run s None 1 c.history) runs.0 c.before c.turn
                (life_on s c.history 1 (ends_of s) (waits_in c.before) (waits_in c.before + 1) refl c.before way) runs.1;
          }
      by (WasOver way none) = record {
        turns = turns;
        left = Return (lived c.history Over);
        way = subst (λ (es : List TraceEntry). Execution (life s (ends_of s) None turns) es (Return (lived c.history Over))) (sym (ap (λ (es : List TraceEntry). c.before ++ es) none ∙ append-nil c.before)) way;
      }

  -- the engine and the devices have the same calls on the disk
  pub same_disk : disk_part (c.below ++ c.below_in) ≡ disk_part (c.before ++ c.turn)
  same_disk =
      disk_same s no_handshakes c.handshakes_last (c.before ++ c.turn) (c.below ++ c.below_in)
      (secured_append (keys_of s) no_handshakes c.handshakes c.handshakes_last c.before c.turn c.below c.below_in cut.secured cut.secured_in)

  beginning : (gone : List TraceEntry) → CrashedAfter c gone → IsBeginning s gone
  beginning gone came =
      let first = way_first (life s (ends_of s) None cut_life.turns) cut_life.left gone came.rest (subst (λ (es : List TraceEntry). Execution (life s (ends_of s) None cut_life.turns) es cut_life.left) came.is cut_life.way) in
      record { turns = cut_life.turns; left = first.0; way = first.1 }

  -- the calls on the disk until the crash
  abbrev asked_then : List MemEntry
  asked_then = c.asked ++ first_calls c.cut.calls c.asked_in

  abbrev pub told_then : List MemEntry
  told_then = (disk_of start planned ++ c.asked) ++ first_calls c.cut.calls c.asked_in

  played_then : IsPlayed (disk_of start planned) asked_then
  played_then =
      let n = reach c.cut.calls c.asked_in in
      let parts : c.asked ++ c.asked_in ≡ asked_then ++ drop n c.asked_in =
      ap (λ (calls : List MemEntry). c.asked ++ calls) (sym (take-append-drop n c.asked_in)) ∙ sym (append_assoc c.asked (take n c.asked_in) (drop n c.asked_in)) in
      played_first (disk_of start planned) asked_then (drop n c.asked_in) (subst (λ (calls : List MemEntry). IsPlayed (disk_of start planned) calls) parts cut.answered.disk)

  module _ (set : AreSettings start.disk) where
    ends_then : Ends disk.DiskTransition (files_of (disk_of start planned)) (entries_of asked_then) (files_of told_then)
    ends_then =
        subst (λ (calls : List MemEntry). Ends disk.DiskTransition (files_of (disk_of start planned)) (entries_of asked_then) (files_of calls)) (sym (append_assoc (disk_of start planned) c.asked (first_calls c.cut.calls c.asked_in)))
        (disk_ends (disk_of start planned) asked_then (set_disk start planned set) played_then)

    pub safe_then : MeetsRequirements s → s.service.full ≡ true → (gone : List TraceEntry) → CrashedAfter c gone → IsSafe s (files_of (disk_of start planned)) (crash_point (past_after [] gone) (files_of told_then))
    safe_then settings full gone came =
        let first = files_of (disk_of start planned) in
        let begun = beginning gone came in
        let naming = subst AreNaming (sym came.answered) (played_naming (disk_of start planned) asked_then played_then) in
        let ends = subst (λ (es : List DiskEntry). Ends disk.DiskTransition first es (files_of told_then)) (sym came.answered) ends_then in
        at_last (IsSafe s first) (crash_point [] first) (crash_point (past_after [] gone) (files_of told_then)) gone
        (all_safe s settings full first (ends_of s) None begun.turns gone begun.left (fresh_files (disk_of start planned) (set_disk start planned set)) begun.way)
        (passes_along [] first (files_of told_then) gone naming ends)
