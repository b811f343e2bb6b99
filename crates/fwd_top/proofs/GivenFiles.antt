-- Over files whose calls return the existing bytes, the case is that of these bytes.
use Rattle.std.specs.Prelude.{◌≢◌}
use Rattle.std.proofs.Common.{◌≡◌, ◌⊎◌, ℕ, Bool, List, [], ◌∷◌, ◌++◌, inl, inr, Option, Some, None, Result, Ok, Err, String, map, string_bytes, refl, sym, subst, ap, ◌∙◌}
use Rattle.fwd_outside.specs.Program.{entry, Return, Ask, bind, Execution}
use Rattle.fwd_outside.specs.Log.{LogGrew}
use Rattle.fwd_outside.proofs.LogGrowth.{grew_none, grew_trans}
use Rattle.fwd_outside.specs.Files.{FilesLog, FilesGiven, FilesEntry, IsConsistentLog, found, files_after_all, read_whole_program}
use Rattle.fwd_outside.proofs.ConsistentFiles.{whole_read_is_content}
use Rattle.fwd_config.specs.Variables.{Values}
use Rattle.fwd_config.specs.Sections.{Reading, load_program, reads_files, given}
use Rattle.fwd_config.specs.declared.section.Section.{Section}
use Rattle.fwd_config.specs.declared.fault.ConfigFault.{ConfigFault}
use Rattle.fwd_config.specs.declared.fault.ConfigKind.{ConfigKind}
use Rattle.fwd_config.specs.declared.fault.ConfigKind.TheVariants.{FileFault}
use Rattle.fwd_config.proofs.StableFiles.{Ends, ends_loads, way_parts, honest_parts, ended, log_growth}
use Rattle.fwd_settings.specs.Reading.{Checked}
use Rattle.fwd_settings.specs.declared.settings_types.AllSettings.{AllSettings}
use Rattle.fwd_outside.specs.Loop.{Wait}
use Rattle.fwd_outside.specs.declared.happening.Happening.{Happening}
use Rattle.fwd_model.specs.Trace.{files_part}
use Rattle.fwd_model.specs.CallLogs.{CallLogs, LogsGrew}
use Rattle.fwd_secure_trace.specs.Secured.{on_loop}
use Rattle.fwd_replay.specs.LiveRun.{IsRunLive, RanToEnd, RanOutOfMemory}
use Rattle.fwd_replay.specs.RecordedRun.{RanSo, BeginsRecorded, Failed, RanOutOfMemory as Stopped}
use Rattle.fwd_replay.specs.declared.recorded_run.Ran.{Ran}
use Rattle.fwd_replay.specs.declared.recorded_run.Ran.TheVariants as ran
use Rattle.fwd_top.specs.Words.{Command, Run, Record, Replay, ListFolder, Generate, command_of}
use Rattle.fwd_top.specs.Cases.{Case, Replays, Generates, Runs, Records, Lists, Refuses, Wanted, ToRun, ToRecord, ToReplay, Asked, asked, refused_by, refused_config, wanted_by, with_settings, with_sections, of_config, of_command}
use Rattle.fwd_top.specs.Outcomes.{Platform, world}
use Rattle.fwd_top.specs.Answers.{Verdict, says, of_ran, IsVerdict, Devices, platform, AreConsistent, Asks, IsVerdictOf, IsOfTheFiles}
use Rattle.fwd_top.specs.Results.{IsRefusal, WritesVerdict, of_job, unless_memory}
use Rattle.fwd_top.specs.declared.job.Job.{Job}
use Rattle.fwd_top.specs.declared.job.Job.TheVariants as job
use Rattle.fwd_top.specs.declared.status.Status.{Status}
use Rattle.fwd_top.specs.declared.status.Status.TheVariants as status
use Rattle.fwd_top.proofs.Writing.{written}

-- it ends this way if a file can't be read
abbrev EndsThere : Reading Asked → Type 0
EndsThere (Return x) = Unit {0}
EndsThere (Ask path go) = ((loaded : Option (List Section)) × (go None ≡ Return (asked loaded (Refuses status.FileFault)))) × ((bytes : List ℕ) → EndsThere (go (Some bytes)))

-- why there is no run if a file of the configuration can't be read
fault_is : (fault : ConfigFault) → fault.kind ≡ FileFault → refused_config fault ≡ status.FileFault
fault_is fault is = ap (λ (k : ConfigKind). refused_by k fault.place) is

module _ (checked : Checked AllSettings) (wanted : Wanted) where
  behind : (p : Reading (Result (List Section) ConfigFault)) → Ends p → ((sections : List Section) → EndsThere (with_sections checked wanted (Ok sections))) → EndsThere (bind p (with_sections checked wanted))
  behind (Return (Ok sections)) ends next = next sections
  behind (Return (Err fault)) ends next = tt
  behind (Ask path go) ends next = (
    (None, ap (λ (q : Reading (Result (List Section) ConfigFault)). bind q (with_sections checked wanted)) ends.0.2 ∙ ap (λ (r : Status). Return (asked None (Refuses r))) (fault_is ends.0.0 ends.0.1)),
    λ bytes. behind (go (Some bytes)) (ends.1 bytes) next,
  )

by_wanted : (loaded : Option (List Section)) (s : AllSettings) (wanted : Wanted) → EndsThere (wanted_by loaded s wanted)
by_wanted loaded s (ToRun ticks) = tt
by_wanted loaded s (ToRecord ticks) = tt
by_wanted loaded s (ToReplay schedule) = ((loaded, refl), λ bytes. tt)

by_settings : (loaded : Option (List Section)) (wanted : Wanted) (checked : Checked AllSettings) → EndsThere (with_settings loaded wanted checked)
by_settings loaded wanted (Err fault) = tt
by_settings loaded wanted (Ok s) = by_wanted loaded s wanted

by_config : (checked : Checked AllSettings) (config : List ℕ) (wanted : Wanted) (env : Values) → EndsThere (of_config checked config wanted env)
by_config checked config wanted env = behind checked wanted (load_program env config) (ends_loads env config) (λ sections. by_settings (Some sections) wanted checked)

ends_there : (checked : Checked AllSettings) (command : Option Command) (env : Values) → EndsThere (of_command checked command env)
ends_there checked None env = tt
ends_there checked (Some (Run config ticks)) env = by_config checked config (ToRun ticks) env
ends_there checked (Some (Record config ticks tape)) env = by_config checked config (ToRecord ticks) env
ends_there checked (Some (Replay config schedule)) env = by_config checked config (ToReplay schedule) env
ends_there checked (Some (ListFolder folder)) env = tt
ends_there checked (Some (Generate count)) env = tt

abbrev IsRead : Asked → Type 0
IsRead x = x.case ≢ Refuses status.FileFault

module _ (files : FilesGiven) where
  abbrev SaysSo : Reading Asked → Type 0
  SaysSo p = (es : List FilesEntry) (x : Asked) → IsRead x → IsConsistentLog files es → Execution (reads_files p) es (Return x) → given (found files) p ≡ x

  read_then : (path : List ℕ) (go : Option (List ℕ) → Reading Asked) → EndsThere (Ask path go) → ((bytes : List ℕ) → SaysSo (go (Some bytes)))
      → (first second : List FilesEntry) (content : Option (List ℕ)) (x : Asked) → IsRead x → IsConsistentLog files first → IsConsistentLog (files_after_all files first) second
      → Execution (read_whole_program path) first (Return content) → Execution (reads_files (go content)) second (Return x) → given (found files) (Ask path go) ≡ x
  read_then path go ends says first second None x read honest honest2 way way2 =
      let is : x ≡ asked ends.0.0 (Refuses status.FileFault) = ended second (subst (λ (q : Reading Asked). Execution (reads_files q) second (Return x)) ends.0.1 way2) in
      absurd (read (ap (λ (y : Asked). y.case) is))
  read_then path go ends says first second (Some bytes) x read honest honest2 way way2 =
      let same = whole_read_is_content files path bytes first honest way in
      let stands = subst (λ (f : FilesGiven). IsConsistentLog f second) same.1 honest2 in
      ap (λ (content : Option (List ℕ)). given (found files) (go content)) same.0 ∙ says bytes second x read stands way2

  gives : (p : Reading Asked) → EndsThere p → SaysSo p
  gives (Return y) ends es x read honest way = sym (ended es way)
  gives (Ask path go) ends es x read honest way =
      let parts = way_parts (read_whole_program path) (λ content. reads_files (go content)) es x way in
      let both = honest_parts files parts.0 parts.1 (subst (λ (l : List FilesEntry). IsConsistentLog files l) parts.3 honest) in
      read_then path go ends (λ bytes. gives (go (Some bytes)) (ends.1 bytes)) parts.0 parts.1 parts.2 x read both.0 both.1 parts.4 parts.5

-- ---- the calls after those for the configuration

-- the calls on the files of a run that is to be recorded
abbrev FilesGrew : CallLogs → CallLogs → Type 0
FilesGrew old new = (entries : List FilesEntry) × LogGrew old.files new.files entries

begun_for : (s : AllSettings) (ticks : Option ℕ) (turns : ℕ) (old new : CallLogs) → BeginsRecorded s ticks turns old new → FilesGrew old new
begun_for s ticks turns old new begun =
    let first = files_part (begun.begins.below ++ map on_loop begun.begins.begun) in
    (first ++ [], grew_trans old.files begun.before.files new.files first [] begun.begins.asked.files (still begun.wait))
  where
    still : LogsGrew begun.before new [] ⊎ ((until paused : ℕ) × (brought : Happening) × LogsGrew begun.before new (on_loop (entry (Wait until paused) brought) ∷ [])) → LogGrew begun.before.files new.files []
    still (inl none) = none.files
    still (inr wait) = wait.3.files

recorded_for : (s : AllSettings) (ticks : Option ℕ) (turns : ℕ) (old new : CallLogs) (endless : Bool) (went : Ran) → RanSo s ticks turns old new endless went → FilesGrew old new
recorded_for s ticks turns old new endless ran.NotRecordable found = (files_part found.did.entries, found.did.asked.files)
recorded_for s ticks turns old new endless (ran.Unrecorded reported) (Failed runs none) = (files_part runs.below, runs.asked.files)
recorded_for s ticks turns old new endless (ran.Unrecorded reported) (Stopped begun none) = begun_for s ticks turns old new begun
recorded_for s ticks turns old new endless (ran.Recorded reported schedule) is = (files_part (is.recovery ++ is.below), is.asked.files)

-- the calls on the files for a case
asked_for : (turns : ℕ) (case : Case) (old new : Platform) (verdict : Verdict) → IsVerdict turns case old new verdict → (entries : List FilesEntry) × LogGrew old.files new.files entries
asked_for turns (Replays s lives) old new verdict is = ([], is.1.comes.uncalled.files)
asked_for turns (Generates s lives) old new verdict is = ([], is.1.comes.uncalled.files)
asked_for turns (Runs s ticks) old new verdict is = run is.1.comes
  where
    run : IsRunLive s ticks turns (world old) (world new) is.0 → (entries : List FilesEntry) × LogGrew old.files new.files entries
    run (RanToEnd lived) = (files_part lived.below, lived.asked.files)
    run (RanOutOfMemory begun none) = (files_part (begun.below ++ map on_loop begun.begun), begun.asked.files)
asked_for turns (Records s ticks) old new verdict is = recorded_for s ticks turns (world old) (world new) old.endless is.0 is.1.comes
asked_for turns (Lists root) old new verdict is = ([], is.1.comes.files)
asked_for turns (Refuses other) old new verdict is = ([], is.1.files)

-- of calls that found the existing bytes, the first ones did too
first_found : (old read new : FilesLog) (existing : FilesGiven) (first second : List FilesEntry) → LogGrew old read first → LogGrew read new second → AreConsistent old new existing → IsConsistentLog existing first
first_found old read new existing first second grew more honest =
    let is = log_growth old new honest.first honest.before honest.made (first ++ second) honest.old_is honest.new_is (grew_trans old read new first second grew more) in
    (honest_parts existing first second (subst (λ (l : List FilesEntry). IsConsistentLog existing l) is honest.consistent)).0

module _ {Y : Type 0} (words : List (String Y)) (env : Values) (turns : ℕ) (old new : Devices) where
  verdict_of : (case : Case) (read : FilesLog) (verdict : Verdict) → Asks words env old.files read (Some case) → IsVerdict turns case (platform old read) (platform new new.files) verdict
      → case ≢ Refuses status.FileFault
      → (existing : FilesGiven) → AreConsistent old.files new.files existing → IsVerdictOf words env turns existing old new verdict
  verdict_of case read verdict asks is other existing honest = record {
    checked = asks.checked;
    loaded = asks.loaded;
    are = asks.are;
    case = case;
    given =
        let did = asks.makes in
        let more = asked_for turns case (platform old read) (platform new new.files) verdict is in
        gives existing (of_command asks.checked (command_of (map string_bytes words)) env) (ends_there asks.checked (command_of (map string_bytes words)) env) did.entries (asked asks.loaded case) other
        (first_found old.files read new.files existing did.entries more.0 did.grew more.1 honest) did.way;
    read = read;
    is = is;
  }

  -- a job was done, and its outcome written
  pub done_files : (case : Case) (read : FilesLog) (went : Ran) (result : Status) → case ≢ Refuses status.FileFault → Asks words env old.files read (Some case)
      → IsVerdict turns case (platform old read) (platform new new.files) (of_ran went) → WritesVerdict old.sink new.sink old.tape new.tape (of_ran went) result → IsOfTheFiles words env turns old new result
  done_files case read went result other asks is tells existing honest known =
      written (IsVerdictOf words env turns existing old new) old new went result (verdict_of case read (of_ran went) asks is other existing honest) tells

  -- there was nothing to do
  pub refused_files : (result : Status) → IsRefusal result → Asks words env old.files new.files (unless_memory result) → LogGrew old.disk new.disk [] → LogGrew old.loop new.loop [] → LogGrew old.keeper new.keeper [] → LogGrew old.sink new.sink [] → LogGrew old.tape new.tape []
      → IsOfTheFiles words env turns old new result
  refused_files status.Done is asks disk loop keeper sink tape existing honest known = absurd is
  refused_files status.TurnsSpent is asks disk loop keeper sink tape existing honest known = absurd is
  refused_files status.OutFault is asks disk loop keeper sink tape existing honest known = absurd is
  refused_files status.LoopFault is asks disk loop keeper sink tape existing honest known = absurd is
  refused_files status.KeeperFault is asks disk loop keeper sink tape existing honest known = absurd is
  refused_files status.DiskFault is asks disk loop keeper sink tape existing honest known = absurd is
  refused_files status.NotRecordable is asks disk loop keeper sink tape existing honest known = absurd is
  refused_files status.RecordFault is asks disk loop keeper sink tape existing honest known = absurd is
  refused_files status.FileFault is asks disk loop keeper sink tape existing honest known = absurd (known refl)
  refused_files status.Memory is asks disk loop keeper sink tape existing honest known = tt
  refused_files other is asks disk loop keeper sink tape existing honest known =
      (says [] other, verdict_of (Refuses other) new.files (says [] other) asks (refl, record { disk = disk; files = grew_none new.files; loop = loop; keeper = keeper }) (λ same. cc same) existing honest, refl, sink, tape)

-- a job refuses nothing
pub no_refusal : (j : Job) → of_job j ≢ Refuses status.FileFault
no_refusal (job.Run s ticks) is = absurd (cc is)
no_refusal (job.Record s ticks) is = absurd (cc is)
no_refusal (job.Replay s schedule) is = absurd (cc is)
no_refusal (job.Generate s schedule) is = absurd (cc is)
no_refusal (job.List folder) is = absurd (cc is)
