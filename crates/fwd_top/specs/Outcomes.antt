-- What came of a case: the calls on the devices, and the text.
use Rattle.std.specs.Prelude.{◌≡◌, ℕ, Bool, List, [], Some, None}
use Rattle.fwd_outside.specs.Log.{LogGrew, Completes, IsBegunUnfailed}
use Rattle.fwd_outside.specs.Disk.{DiskLog}
use Rattle.fwd_outside.specs.Files.{FilesLog}
use Rattle.fwd_outside.specs.Loop.{LoopLog}
use Rattle.fwd_keeper.specs.Keeper.{KeeperLog}
use Rattle.fwd_backlog.specs.declared.file_read.FileRead.{FileRead}
use Rattle.fwd_backlog.specs.declared.load.Backlog.{Backlog}
use Rattle.fwd_backlog.specs.LoadProgram.{IsBacklog, load_program}
use Rattle.fwd_report.specs.Listing.{IsListing}
use Rattle.fwd_settings.specs.declared.settings_types.AllSettings.{AllSettings}
use Rattle.fwd_script.specs.declared.schedule.Life.{Life}
use Rattle.fwd_model.specs.CallLogs.{CallLogs}
use Rattle.fwd_replay.specs.LiveRun.{IsRunLive}
use Rattle.fwd_replay.specs.Runs.{IsReplayed, first}
use Rattle.fwd_replay.specs.declared.report.Ending.{Ending}
use Rattle.fwd_replay.specs.declared.report.Ending.TheVariants as ending
use Rattle.fwd_replay.specs.declared.report.Reported.{Reported}
use Rattle.fwd_replay.specs.declared.report.Shown.{Shown}
use Rattle.fwd_replay.specs.declared.report.Shown.TheVariants.{All, Report}
use Rattle.fwd_top.specs.Cases.{Case, Replays, Generates, Runs, Records, Lists, Refuses}

-- the call logs of the devices of a run, and whether the loop never ends
pub record Platform : Type 0 where
  pub disk : DiskLog
  pub files : FilesLog
  pub loop : LoopLog
  pub keeper : KeeperLog
  pub endless : Bool

abbrev pub platform_of : DiskLog → FilesLog → LoopLog → KeeperLog → Bool → Platform
platform_of disk files loop keeper endless =
    record { disk = disk; files = files; loop = loop; keeper = keeper; endless = endless }

-- the same, as the logs of the model's devices
abbrev pub world : Platform → CallLogs
world o = record { loop = o.loop; disk = o.disk; files = o.files; keeper = o.keeper }

-- none of them was called
pub record AreNotCalled (old new : Platform) : Type 0 where
  pub disk : LogGrew old.disk new.disk []
  pub files : LogGrew old.files new.files []
  pub loop : LogGrew old.loop new.loop []
  pub keeper : LogGrew old.keeper new.keeper []

-- The outcome of a listing, by its ending: the calls of loading, and the lines of what was recovered.
-- Without a text, the calls up to one that failed, or, if memory ran out, the first ones, of which none
-- failed.
abbrev pub IsListed : List ℕ → DiskLog → DiskLog → List ℕ → Ending → Type 0
IsListed root old new text ending.Over =
    (files : List FileRead) × (backlog : Backlog) × Completes old new (load_program root) (Some files)
    × IsBacklog files backlog × IsListing backlog.found text
IsListed root old new text ending.DiskFailed = Completes old new (load_program root) None × (text ≡ [])
IsListed root old new text ending.Memory = IsBegunUnfailed old new (load_program root) × (text ≡ [])
IsListed root old new text ending.TurnsSpent = ⊥
IsListed root old new text ending.KeeperFailed = ⊥
IsListed root old new text ending.LoopFailed = ⊥

-- a schedule was replayed, without a device
pub record ReplaysAlone (shown : Shown) (s : AllSettings) (turns : ℕ) (lives : List Life) (old new : Platform)
    (reported : Reported) : Type 0 where
  pub replayed : IsReplayed shown s turns first lives reported
  pub uncalled : AreNotCalled old new

-- a folder was listed, with calls on the disk alone
pub record ListsAlone (root : List ℕ) (old new : Platform) (reported : Reported) : Type 0 where
  pub listed : IsListed root old.disk new.disk reported.text reported.ending
  pub files : LogGrew old.files new.files []
  pub loop : LogGrew old.loop new.loop []
  pub keeper : LogGrew old.keeper new.keeper []

-- The outcome of a case. That of a run that is to be recorded is `RecordedOutcome`.
abbrev pub Produces : ℕ → Case → Platform → Platform → Reported → Type 0
Produces turns (Replays s lives) old new reported = ReplaysAlone All s turns lives old new reported
Produces turns (Generates s lives) old new reported = ReplaysAlone Report s turns lives old new reported
Produces turns (Runs s ticks) old new reported = IsRunLive s ticks turns (world old) (world new) reported
Produces turns (Records s ticks) old new reported = ⊥
Produces turns (Lists root) old new reported = ListsAlone root old new reported
Produces turns (Refuses other) old new reported = ⊥
