-- From the calls of the parts to those of the whole.
use Rattle.std.proofs.Common.{◌≡◌, ℕ, List, [], Option, Some, None, Result, Ok, Err, String, map, string_bytes, inl, inr, refl, subst}
use Rattle.std.specs.Prelude.{option_map, IfOk, IfErr}
use Rattle.fwd_outside.specs.Program.{Program, Return, Ask, bind}
use Rattle.fwd_outside.specs.Log.{Completes, RunsProgram, RunsFallible}
use Rattle.fwd_outside.proofs.Executions.{no_call_made, leads_inside, began_inside, makes_bind}
use Rattle.fwd_outside.specs.Files.{FilesLog, FilesProgram, read_whole_program}
use Rattle.fwd_config.specs.Variables.{Values}
use Rattle.fwd_config.specs.Sections.{load_program, reads_files}
use Rattle.fwd_config.specs.LoadResult.{unless_kind, outcome as loaded_by}
use Rattle.fwd_config.specs.declared.section.Place.{Place}
use Rattle.fwd_config.specs.declared.section.Section.{Section}
use Rattle.fwd_config.specs.declared.fault.ConfigFault.{ConfigFault}
use Rattle.fwd_config.specs.declared.fault.ConfigKind.{ConfigKind}
use Rattle.fwd_config.specs.declared.fault.ConfigKind.TheVariants as config_kind
use Rattle.fwd_config.proofs.Steps.{reads_bind}
use Rattle.fwd_settings_schema.specs.declared.error_kind.SettingKind.{SettingKind}
use Rattle.fwd_settings_schema.specs.declared.error_kind.SettingKind.TheVariants as setting_kind
use Rattle.fwd_settings.specs.Reading.{Checked, IsResult}
use Rattle.fwd_settings.specs.Settings.{AreSettingsOf, settings_of}
use Rattle.fwd_settings_schema.specs.declared.fault.SettingFault.{SettingFault}
use Rattle.fwd_settings.specs.declared.settings_types.AllSettings.{AllSettings}
use Rattle.fwd_top.specs.Cases.{Case, Runs, Lists, Refuses, Wanted, ToRun, ToReplay, Asked, asked, of_file, of_load, wanted_by, of_config, of_command, with_sections}
use Rattle.fwd_top.specs.Answers.{Asks}
use Rattle.fwd_top.specs.Words.{Command, Generate, ListFolder, command_of}
use Rattle.fwd_top.specs.Results.{case_of, unless_memory, IsCaseOf, AreSettings, AsksFor, AsksAfter, ComesOfLoad, config_status, setting_status}
use Rattle.fwd_top.specs.declared.job.Job.{Job}
use Rattle.fwd_top.specs.declared.job.Job.TheVariants as job
use Rattle.fwd_top.specs.declared.status.Status.{Status}
use Rattle.fwd_top.specs.declared.status.Status.TheVariants as status

-- a program with a result, which is the case that was answered unless memory ran out
judged : (a b : FilesLog) (p : FilesProgram Case) (case : Case) (result : Result Job Status) → Completes a b p case → IsCaseOf case result → RunsProgram a b p (case_of result)
judged a b p case (Ok job) did is = subst (λ (c : Case). Completes a b p c) is did
judged a b p case (Err status.Memory) did is = (Return case, did)
judged a b p case (Err _) did is = subst (λ (c : Case). Completes a b p c) is did

-- the schedule's file was read
pub file_read : (a b : FilesLog) (s : AllSettings) (path bytes : List ℕ) (result : Result Job Status) → Completes a b (read_whole_program path) (Some bytes) → IsCaseOf (of_file s (Some bytes)) result
    → RunsProgram a b (bind (read_whole_program path) (λ content. Return (of_file s content))) (case_of result)
file_read a b s path bytes result did is = judged a b (bind (read_whole_program path) (λ content. Return (of_file s content))) (of_file s (Some bytes)) result (leads_inside (λ content. Return (of_file s content)) did) is

-- it can't be read, or memory ran out
pub file_failed : (a b : FilesLog) (s : AllSettings) (path : List ℕ) → RunsFallible a b (read_whole_program path) (Some None) → RunsProgram a b (bind (read_whole_program path) (λ content. Return (of_file s content))) (Some (Refuses status.FileFault))
file_failed a b s path did = leads_inside (λ content. Return (of_file s content)) did

pub file_wanting : (a b : FilesLog) (s : AllSettings) (path : List ℕ) → RunsFallible a b (read_whole_program path) None → RunsProgram a b (bind (read_whole_program path) (λ content. Return (of_file s content))) None
file_wanting a b s path began = began_inside (λ content. Return (of_file s content)) (began.0, began.1)

-- ---- after settings

-- the result of a program is returned with the sections
tagged : (a b : FilesLog) (s : AllSettings) (loaded : Option (List Section)) (p : FilesProgram (Option (List ℕ))) (case : Option Case) → RunsProgram a b (bind p (λ content. Return (of_file s content))) case
    → RunsProgram a b (bind (bind p (λ content. Return (of_file s content))) (λ c. Return (asked loaded c))) (option_map (asked loaded) case)
tagged a b s loaded p (Some c) did = leads_inside (λ x. Return (asked loaded x)) did
tagged a b s loaded p None began = began_inside (λ x. Return (asked loaded x)) began

bind_twice : {X Y Z : Type 0} {C : Type 0} {A : C → Type 0} (p : Program C A X) (f : X → Y) (g : Y → Z) → bind (bind p (λ x. Return (f x))) (λ y. Return (g y)) ≡ bind p (λ x. Return (g (f x)))
bind_twice (Return x) f g = refl
bind_twice (Ask call go) f g = λ i. Ask call (λ answer. bind_twice (go answer) f g i)

-- they are to be run: no more calls
pub run_asks_none : (a : FilesLog) (loaded : Option (List Section)) (s : AllSettings) (ticks : Option ℕ) → RunsProgram a a (reads_files (wanted_by loaded s (ToRun ticks))) (Some (asked loaded (Runs s ticks)))
run_asks_none a loaded s ticks = no_call_made a (Return (asked loaded (Runs s ticks)))

-- a schedule is to be replayed: its file is read
pub schedule_asked : (a b : FilesLog) (loaded : Option (List Section)) (s : AllSettings) (path : List ℕ) (case : Option Case) → RunsProgram a b (bind (read_whole_program path) (λ content. Return (of_file s content))) case
    → RunsProgram a b (reads_files (wanted_by loaded s (ToReplay path))) (option_map (asked loaded) case)
schedule_asked a b loaded s path case makes =
    subst (λ (p : FilesProgram Asked). RunsProgram a b p (option_map (asked loaded) case)) (bind_twice (read_whole_program path) (of_file s) (asked loaded)) (tagged a b s loaded (read_whole_program path) case makes)

module _ (a b : FilesLog) (sections : List Section) (wanted : Wanted) where
  abbrev loaded : Option (List Section)
  loaded = Some sections

  -- there are settings
  pub settings_run : (s : AllSettings) (case : Option Case) → AreSettings sections (Ok s) case → RunsProgram a b (reads_files (wanted_by loaded s wanted)) (option_map (asked loaded) case) → AsksAfter sections wanted a b case
  settings_run s case are makes = record { checked = Ok s; are = are; makes = makes }

  -- there are none
  refused_so : (kind : SettingKind) (place : Place) → AreSettingsOf sections (Err (record { kind = kind; place = place })) → AsksAfter sections wanted a a (unless_memory (setting_status kind place))
  refused_so setting_kind.Memory place are = record { checked = Err (record { kind = setting_kind.Memory; place = place }); are = tt; makes = (_, no_call_made a _) }
  refused_so kind place (inl memory) = absurd (cc memory)
  refused_so kind place (inr comes) = record { checked = Err (record { kind = kind; place = place }); are = comes; makes = no_call_made a _ }

  pub refused_settings_so : (fault : SettingFault) (answer : Status) → answer ≡ setting_status fault.kind fault.place → AreSettingsOf sections (Err fault) → AsksAfter sections wanted a a (unless_memory answer)
  refused_settings_so fault answer is are = rw is (refused_so fault.kind fault.place are)

-- settings of sections are those of the definitions
pub come : (sections : List Section) (s : AllSettings) → AreSettingsOf sections (Ok s) → IsResult (settings_of sections) (Ok s)
come sections s (inl none) = absurd none
come sections s (inr comes) = comes

pub are_so : (sections : List Section) (s : AllSettings) (case : Option Case) → IsResult (settings_of sections) (Ok s) → AreSettings sections (Ok s) case
are_so sections s (Some case) comes = comes
are_so sections s None comes = tt

-- ---- from the words on

nothing_checked : Checked AllSettings
nothing_checked = Err (record { kind = setting_kind.Missing; place = record { file = []; line = 0 } })

module _ (config : List ℕ) (wanted : Wanted) (env : Values) (a b : FilesLog) where
  parts : (checked : Checked AllSettings) → reads_files (of_config checked config wanted env) ≡ bind (reads_files (load_program env config)) (λ sections. reads_files (with_sections checked wanted sections))
  parts checked = reads_bind (load_program env config) (with_sections checked wanted)

  -- the sections were loaded
  pub goes_behind : (c : FilesLog) (sections : List Section) (case : Option Case) → Completes a b (reads_files (load_program env config)) (Ok sections) → AsksAfter sections wanted b c case → AsksFor config wanted env a c case
  goes_behind c sections (Some case) did behind = record {
    checked = behind.checked;
    loaded = Some sections;
    are = behind.are;
    makes = rw (parts behind.checked) (makes_bind a b c (reads_files (load_program env config)) (Ok sections) (λ s. reads_files (with_sections behind.checked wanted s)) (Some (asked (Some sections) case)) did behind.makes);
  }
  goes_behind c sections None did behind = record {
    checked = behind.checked;
    loaded = None;
    are = tt;
    makes = rw (parts behind.checked) (makes_bind a b c (reads_files (load_program env config)) (Ok sections) (λ s. reads_files (with_sections behind.checked wanted s)) None did behind.makes);
  }

  config_refused : (kind : ConfigKind) (place : Place) → RunsProgram a b (reads_files (load_program env config)) (unless_kind {T = Result (List Section) ConfigFault} kind (Err (record { kind = kind; place = place })))
      → AsksFor config wanted env a b (unless_memory (config_status kind place))
  config_refused config_kind.Memory place began = record { checked = nothing_checked; loaded = None; are = tt; makes = rw (parts nothing_checked) (began_inside (λ s. reads_files (with_sections nothing_checked wanted s)) began) }
  config_refused config_kind.FileFault place did = record { checked = nothing_checked; loaded = None; are = tt; makes = rw (parts nothing_checked) (leads_inside (λ s. reads_files (with_sections nothing_checked wanted s)) did) }
  config_refused _ place did = record { checked = nothing_checked; loaded = None; are = tt; makes = rw (parts nothing_checked) (leads_inside (λ s. reads_files (with_sections nothing_checked wanted s)) did) }

  -- the configuration is refused, or can't be read, or memory ran out
  pub refused_config : (fault : ConfigFault) (answer : Status) → answer ≡ config_status fault.kind fault.place → RunsProgram a b (reads_files (load_program env config)) (loaded_by {T = List Section} (Err fault))
      → AsksFor config wanted env a b (unless_memory answer)
  refused_config fault answer same makes = rw same (config_refused fault.kind fault.place makes)

module _ {Y : Type 0} (words : List (String Y)) (env : Values) (a b : FilesLog) where
  -- the words ask for nothing
  pub other_words : (command : Option Command) (why : Status) → command_of (map string_bytes words) ≡ command → ((checked : Checked AllSettings) → of_command checked command env ≡ Return (asked None (Refuses why))) → Asks words env a a (Some (Refuses why))
  other_words command why is none = record {
    checked = nothing_checked;
    loaded = None;
    are = tt;
    makes = rw (is, none nothing_checked) (no_call_made a (Return (asked None (Refuses why))));
  }

  -- they ask for a listing
  pub folder_words : (folder : List ℕ) (result : Result Job Status) → IfOk result (λ made. made ≡ job.List folder) → IfErr result (λ other. other ≡ status.Memory) → command_of (map string_bytes words) ≡ Some (ListFolder folder)
      → Asks words env a a (case_of result)
  folder_words folder (Ok made) is_made wanting is = record {
    checked = nothing_checked;
    loaded = None;
    are = tt;
    makes = rw (is, is_made) (no_call_made a (Return (asked None (Lists folder))));
  }
  folder_words folder (Err other) is_made wanting is = rw wanting (record {
    checked = nothing_checked;
    loaded = None;
    are = tt;
    makes = rw is (_, no_call_made a (Return (asked None (Lists folder))));
  })

  -- they ask for a generated load
  load_case : (count : ℕ) (case : Option Case) → command_of (map string_bytes words) ≡ Some (Generate count) → ComesOfLoad count case → Asks words env a a case
  load_case count None is comes = record {
    checked = nothing_checked;
    loaded = None;
    are = tt;
    makes = rw is (_, no_call_made a (Return (of_load nothing_checked count)));
  }
  load_case count (Some case) is comes = record {
    checked = comes.0;
    loaded = comes.1;
    are = comes.2;
    makes = rw (is, comes.3) (no_call_made a (Return (asked comes.1 case)));
  }

  pub load_words : (count : ℕ) (result : Result Job Status) → command_of (map string_bytes words) ≡ Some (Generate count) → ComesOfLoad count (case_of result) → Asks words env a a (case_of result)
  load_words count result is comes = load_case count (case_of result) is comes

  -- they ask for a configuration
  pub asks_of : (command : Command) (config : List ℕ) (wanted : Wanted) (case : Option Case) → command_of (map string_bytes words) ≡ Some command
      → ((checked : Checked AllSettings) → of_command checked (Some command) env ≡ of_config checked config wanted env) → AsksFor config wanted env a b case → Asks words env a b case
  asks_of command config wanted case is for asks = record {
    checked = asks.checked;
    loaded = asks.loaded;
    are = asks.are;
    makes = rw (is, for asks.checked) asks.makes;
  }
