-- The run after a crash recovers all that the one before had.
use Rattle.std.proofs.Common.{◌≡◌, ℕ, ◌-◌, ◌%◌, true, List, [], ◌∷◌, ◌++◌, map, Option, sym, ◌∙◌, ap, subst}
use Rattle.std.specs.Prelude.{All}
use Rattle.std.proofs.lemmas.List.{append-nil}
use Rattle.std.proofs.lemmas.List.Elements.{All-head, All-tail}
use Rattle.fwd_outside.specs.AtCrashPoints.{Ends}
use Rattle.fwd_outside.specs.Disk.{DiskEntry}
use Rattle.fwd_outside.specs.File.{IsPostCrash, content}
use Rattle.fwd_outside.specs.DiskStates.{Files}
use Rattle.fwd_outside.specs.DiskStates as disk
use Rattle.fwd_disk_mem.specs.declared.entry.MemEntry.{MemEntry}
use Rattle.fwd_disk_mem.specs.declared.entry.MemEntry.TheVariants.{Preset, FailAt}
use Rattle.fwd_disk_mem.specs.Entry.{entries_of, files_of}
use Rattle.fwd_disk_mem.specs.Images.{picked}
use Rattle.fwd_disk_mem.proofs.Picks.{picked_is_image}
use Rattle.fwd_settings.specs.Requirements.{MeetsRequirements}
use Rattle.fwd_settings.specs.declared.settings_types.AllSettings.{AllSettings}
use Rattle.fwd_script.specs.declared.schedule.Life.{Life}
use Rattle.fwd_script.specs.declared.schedule.Stored.{Stored}
use Rattle.fwd_model.specs.Fact.{History}
use Rattle.fwd_model.specs.Trace.{TraceEntry, disk_part}
use Rattle.fwd_model.proofs.CallLogs.{disk_append}
use Rattle.fwd_theorem_trace.specs.Past.{past_after}
use Rattle.fwd_theorem_trace.specs.Waits.{waits_in}
use Rattle.fwd_theorem_trace.proofs.Traversal.{noted_since}
use Rattle.fwd_theorem_crash.specs.CrashPoint.{crash_point, LeadsTo}
use Rattle.fwd_theorem_crash.proofs.Recovery.{found_again}
use Rattle.fwd_replay.specs.Runs.{Start, first, disk_of, IsAnswered, CutRun, IsCut, IsReplayed, Ended, WasCut, OutOfMemory}
use Rattle.fwd_replay.specs.declared.report.Reported.{Reported}
use Rattle.fwd_replay.specs.declared.report.Shown.{Shown}
use Rattle.fwd_secure.specs.Handshakes.{no_handshakes}
use Rattle.fwd_replay.proofs.TurnCalls.{disk_same}
use Rattle.fwd_theorem_replay.specs.Crashes.{RecoversAll, LosesNothing, NextLosesNothing, NothingIsLost}
use Rattle.fwd_theorem_replay.specs.PresetFiles.{OnlyFirstHasFiles}
use Rattle.fwd_theorem_replay.proofs.Entries.{AreNaming, played_naming, naming_first, ends_between}
use Rattle.fwd_theorem_replay.proofs.PresetDisk.{AreSettings, set_presets, fresh_files, run_both, fails_change_nothing, disk_ends}
use Rattle.fwd_theorem_replay.proofs.DiskPoints.{passes_along}
use Rattle.fwd_theorem_replay.proofs.CutRun.{same_disk, set_disk, told_then, safe_then}

-- a run that puts no file on its disk
abbrev Bare : Life → Type 0
Bare planned = planned.store ≡ []

-- if none of these runs puts files on its disk, none but the first does
later_bare : (lives : List Life) → All Bare lives → OnlyFirstHasFiles lives
later_bare [] bare = tt
later_bare (one ∷ more) bare = All-tail Bare one more bare

-- if no file is put on the disk, a run begins with the existing files
same_files : (start : Start) (planned : Life) → planned.store ≡ [] → (name : List ℕ) → files_of (disk_of start planned) name ≡ files_of start.disk name
same_files start planned none name =
    let fails = map (λ (number : ℕ). FailAt number) planned.disk_fails in
    ap (λ (store : List Stored). files_of ((start.disk ++ map (λ (file : Stored). Preset file.name file.bytes) store) ++ fails) name) none
    ∙ ap (λ (calls : List MemEntry). files_of (calls ++ fails) name) (append-nil start.disk)
    ∙ run_both start.disk fails name _
    ∙ fails_change_nothing planned.disk_fails name (files_of start.disk name)

-- the loading, as a sequence of crash points
record Loads (first : Files) (loading : List TraceEntry) : Type 0 where
  pub last : Files
  pub ends : Ends LeadsTo (crash_point [] first) loading (crash_point (past_after [] loading) last)

-- the calls of the engine, and those on the devices
module _ (start : Start) (planned : Life) (trace below loading rest : List TraceEntry) (asked : List MemEntry) (set : AreSettings start.disk) (answered : IsAnswered start planned below asked) (same : disk_part below ≡ disk_part trace) (is : trace ≡ loading ++ rest) where
  loads_first : Loads (files_of (disk_of start planned)) loading
  loads_first =
      let image = files_of (disk_of start planned) in
      let last = files_of (disk_of start planned ++ asked) in
      let parts : entries_of asked ≡ disk_part loading ++ disk_part rest = answered.are ∙ same ∙ ap disk_part is ∙ disk_append loading rest in
      let naming = naming_first (disk_part loading) (disk_part rest) (subst AreNaming parts (played_naming (disk_of start planned) asked answered.disk)) in
      let ends = subst (λ (es : List DiskEntry). Ends disk.DiskTransition image es last) parts (disk_ends (disk_of start planned) asked (set_disk start planned set) answered.disk) in
      let between = ends_between (disk_part loading) (disk_part rest) image last ends in
      record { last = between.0; ends = passes_along [] image between.0 loading naming between.1 }

module _ (s : AllSettings) (settings : MeetsRequirements s) (full : s.service.full ≡ true) where
  module _ (turns : ℕ) (start : Start) (planned : Life) (c : CutRun) (cut : IsCut s turns start planned c) (set : AreSettings start.disk) where
    set_next : AreSettings c.next.disk
    set_next = subst AreSettings (sym cut.disk_is) (set_presets cut.files)

    -- the files then are a post-crash state of the earlier ones
    left_there : (next : Life) → next.store ≡ [] → (name : List ℕ)
        → IsPostCrash (files_of (told_then s turns start planned c cut) name) (content (files_of (disk_of c.next next) name))
    left_there next none name =
        let then = told_then s turns start planned c cut in
        let is : content (files_of (disk_of c.next next) name) ≡ picked (c.cut.pick % 4) then name = ap content (same_files c.next next none name) ∙ cut.image name in
        subst (λ (image : Option (List ℕ)). IsPostCrash (files_of then name) image) (sym is) (picked_is_image (c.cut.pick % 4) then name)

    finds : (next : Life) (trace below : List TraceEntry) (asked : List MemEntry) → IsAnswered c.next next below asked → disk_part below ≡ disk_part trace → next.store ≡ [] → LosesNothing s c trace
    finds next trace below asked answered same none gone h came loaded =
        let image = files_of (disk_of c.next next) in
        let now = crash_point (past_after [] gone) (files_of (told_then s turns start planned c cut)) in
        let safe = safe_then s turns start planned c cut set settings full gone came in
        let loads = loads_first c.next next trace below loaded.loading loaded.rest asked set_next answered same loaded.is in
        subst (λ (before : History). RecoversAll s before h) (noted_since [] gone)
        (λ chunk has owes home.
        found_again s now (crash_point (past_after [] loaded.loading) loads.last) image loaded.loading h chunk safe.owed
        (fresh_files (disk_of c.next next) (set_disk c.next next set_next)) (left_there next none) loaded.way loads.ends has owes home)

    next_loses : (shown : Shown) (turns_left : ℕ) (lives : List Life) (reported : Reported) → All Bare lives → (is : IsReplayed shown s turns_left c.next lives reported) → NextLosesNothing shown s turns_left c lives reported is
    next_loses shown turns_left [] reported bare is = tt
    next_loses shown turns_left (next ∷ lives) reported bare (Ended ends) =
        finds next ends.trace ends.is.below ends.is.asked ends.is.answered (disk_same s no_handshakes ends.is.handshakes ends.trace ends.is.below ends.is.secured) (All-head Bare next lives bare)
    next_loses shown turns_left (next ∷ lives) reported bare (WasCut again cut_again rest more joins) =
        finds next (again.before ++ again.turn) (again.below ++ again.below_in) (again.asked ++ again.asked_in) cut_again.answered (same_disk s turns_left c.next next again cut_again) (All-head Bare next lives bare)
    next_loses shown turns_left (next ∷ lives) reported bare (OutOfMemory none) = tt

  none_lost_from : (shown : Shown) (turns : ℕ) (start : Start) → AreSettings start.disk → (lives : List Life) (reported : Reported) → OnlyFirstHasFiles lives → (is : IsReplayed shown s turns start lives reported) → NothingIsLost shown s turns start lives reported is
  none_lost_from shown turns start set [] reported later is = tt
  none_lost_from shown turns start set (planned ∷ lives) reported later (Ended ends) = tt
  none_lost_from shown turns start set (planned ∷ lives) reported later (WasCut c cut rest more joins) =
      let left = turns - waits_in (c.before ++ c.turn) in (
        next_loses turns start planned c cut set shown left lives rest later more,
        none_lost_from shown left c.next (set_next turns start planned c cut set) lives rest (later_bare lives later) more,
      )
  none_lost_from shown turns start set (planned ∷ lives) reported later (OutOfMemory none) = tt

  pub none_lost : (shown : Shown) (turns : ℕ) (lives : List Life) (reported : Reported) → OnlyFirstHasFiles lives → (is : IsReplayed shown s turns first lives reported) → NothingIsLost shown s turns first lives reported is
  none_lost shown turns lives reported later is = none_lost_from shown turns first tt lives reported later is
