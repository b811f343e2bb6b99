-- Of the runs that a case replays, only the first puts files on its disk: each schedule is read from a text.
use Rattle.std.proofs.Common.{◌≡◌, ℕ, List, [], ◌∷◌, Option, Some, None, Result, Ok, Err, String, map, string_bytes, refl, sym, subst}
use Rattle.fwd_outside.specs.Program.{Entry, Program, Return, Ask, bind, Execution}
use Rattle.fwd_outside.specs.Files.{FilesLog, found, read_whole_program}
use Rattle.fwd_config.specs.Variables.{Values}
use Rattle.fwd_config.specs.Sections.{Reading, load_program, reads_files, given}
use Rattle.fwd_config.specs.declared.section.Section.{Section}
use Rattle.fwd_config.specs.declared.fault.ConfigFault.{ConfigFault}
use Rattle.fwd_settings.specs.Reading.{Checked}
use Rattle.fwd_settings.specs.declared.settings_types.AllSettings.{AllSettings}
use Rattle.fwd_script.specs.declared.schedule.Schedule.{Schedule}
use Rattle.fwd_script.specs.declared.refusal.ScheduleRefused.{ScheduleRefused}
use Rattle.fwd_script.specs.Schedule.{schedule_of}
use Rattle.fwd_theorem_replay.specs.PresetFiles.{OnlyFirstHasFiles}
use Rattle.fwd_theorem_replay.proofs.PresetFiles.{first_stores}
use Rattle.fwd_top.specs.Words.{Command, Run, Record, Replay, ListFolder, Generate, command_of}
use Rattle.fwd_top.specs.Cases.{Case, Replays, Generates, Runs, Records, Lists, Refuses, lives_of, Wanted, ToRun, ToRecord, ToReplay, Asked, asked, of_schedule, of_file, wanted_by, with_settings, with_sections, of_config, of_command, of_load, reports_of, load_config, load_schedule, load_files, no_values, asks}
use Rattle.fwd_top.specs.Answers.{Asks}

-- whatever a program is answered, each of its results has the property
abbrev Gives : {C R : Type 0} {A : C → Type 0} → (R → Type 0) → Program C A R → Type 0
Gives P (Return x) = P x
Gives {A = A} P (Ask call go) = (answer : A call) → Gives P (go answer)

gives_bind : {C R S : Type 0} {A : C → Type 0} (P : S → Type 0) (p : Program C A R) (next : R → Program C A S) → ((x : R) → Gives P (next x)) → Gives P (bind p next)
gives_bind P (Return x) next each = each x
gives_bind P (Ask call go) next each = λ answer. gives_bind P (go answer) next each

gives_result : {C R : Type 0} {A : C → Type 0} (P : R → Type 0) (p : Program C A R) (es : List (Entry C A)) (x : R) → Gives P p → Execution p es (Return x) → P x
gives_result P (Return y) [] x gives way = let same : x ≡ y = cc way in subst P (sym same) gives
gives_result P (Return y) (e ∷ es) x gives way = absurd way
gives_result P (Ask call go) [] x gives way = absurd (cc way)
gives_result P (Ask call go) (e ∷ es) x gives way = gives_result P (go way.0) es x (gives way.0) way.2

module _ (P : Asked → Type 0) where
  gives_over_files : (p : Reading Asked) → Gives P p → Gives P (reads_files p)
  gives_over_files (Return x) gives = gives
  gives_over_files (Ask path go) gives = gives_bind P (read_whole_program path) (λ content. reads_files (go content)) (λ content. gives_over_files (go content) (gives content))

  gives_given : (files : List ℕ → Option (List ℕ)) (p : Reading Asked) → Gives P p → P (given files p)
  gives_given files (Return x) gives = gives
  gives_given files (Ask path go) gives = gives_given files (go (files path)) (gives (files path))

abbrev FirstHasFiles : Asked → Type 0
FirstHasFiles x = OnlyFirstHasFiles (lives_of x.case)

read_schedules : (s : AllSettings) (bytes : List ℕ) → OnlyFirstHasFiles (lives_of (of_schedule s (schedule_of bytes)))
read_schedules s bytes = by (schedule_of bytes) refl
  where
    by : (read : Result Schedule ScheduleRefused) → schedule_of bytes ≡ read → OnlyFirstHasFiles (lives_of (of_schedule s read))
    by (Ok schedule) is = first_stores bytes schedule is
    by (Err refused) is = tt

schedule_files : (s : AllSettings) (loaded : Option (List Section)) (content : Option (List ℕ)) → FirstHasFiles (asked loaded (of_file s content))
schedule_files s loaded (Some bytes) = read_schedules s bytes
schedule_files s loaded None = tt

after_settings : (loaded : Option (List Section)) (s : AllSettings) (wanted : Wanted) → Gives FirstHasFiles (wanted_by loaded s wanted)
after_settings loaded s (ToRun ticks) = tt
after_settings loaded s (ToRecord ticks) = tt
after_settings loaded s (ToReplay schedule) = λ content. schedule_files s loaded content

after_checks : (loaded : Option (List Section)) (wanted : Wanted) (checked : Checked AllSettings) → Gives FirstHasFiles (with_settings loaded wanted checked)
after_checks loaded wanted (Ok s) = after_settings loaded s wanted
after_checks loaded wanted (Err fault) = tt

module _ (checked : Checked AllSettings) where
  after_sections : (wanted : Wanted) (read : Result (List Section) ConfigFault) → Gives FirstHasFiles (with_sections checked wanted read)
  after_sections wanted (Ok sections) = after_checks (Some sections) wanted checked
  after_sections wanted (Err fault) = tt

  after_config : (config : List ℕ) (wanted : Wanted) (env : Values) → Gives FirstHasFiles (of_config checked config wanted env)
  after_config config wanted env = gives_bind FirstHasFiles (load_program env config) (with_sections checked wanted) (after_sections wanted)

  reports_replay : (case : Case) → OnlyFirstHasFiles (lives_of case) → OnlyFirstHasFiles (lives_of (reports_of case))
  reports_replay (Replays s lives) is = is
  reports_replay (Generates s lives) is = is
  reports_replay (Runs s ticks) is = is
  reports_replay (Records s ticks) is = is
  reports_replay (Lists root) is = is
  reports_replay (Refuses other) is = is

  generated : (count : ℕ) → FirstHasFiles (of_load checked count)
  unfolding of_load
  generated count =
      let texts = gives_given FirstHasFiles (found (load_files count)) (of_config checked load_config (ToReplay load_schedule) no_values) (after_config load_config (ToReplay load_schedule) no_values) in
      reports_replay (given (found (load_files count)) (of_config checked load_config (ToReplay load_schedule) no_values)).case texts

  by_command : (command : Option Command) (env : Values) → Gives FirstHasFiles (of_command checked command env)
  by_command None env = tt
  by_command (Some (Run config ticks)) env = after_config config (ToRun ticks) env
  by_command (Some (Record config ticks tape)) env = after_config config (ToRecord ticks) env
  by_command (Some (Replay config schedule)) env = after_config config (ToReplay schedule) env
  by_command (Some (ListFolder folder)) env = tt
  by_command (Some (Generate count)) env = generated count

-- the runs of a case that was asked for
pub asked_runs : {Y : Type 0} (words : List (String Y)) (env : Values) (old new : FilesLog) (case : Case) → Asks words env old new (Some case) → OnlyFirstHasFiles (lives_of case)
asked_runs words env old new case is =
    gives_result FirstHasFiles (reads_files (asks is.checked words env)) is.makes.entries (asked is.loaded case)
    (gives_over_files FirstHasFiles (asks is.checked words env) (by_command is.checked (command_of (map string_bytes words)) env)) is.makes.way
