-- The offsets that a run keeps of followed files, and the calls by which it gets and puts them.
use Rattle.std.specs.Prelude.{◌≡◌, ℕ, length, slice_get, Some, Result, Ok, Err}
use Rattle.fwd_keeper.specs.Keeper.{KeeperLog}
use Rattle.fwd_outside.specs.declared.happening.Happening.{Happening}
use Rattle.fwd_settings.specs.declared.settings_types.AllSettings.{AllSettings}
use Rattle.fwd_model.specs.Fact.{History}
use Rattle.fwd_model.specs.Trace.{Action}
use Rattle.fwd_model.specs.CallLogs.{CallLogs, Leads, IsBegun}
use Rattle.fwd_model.specs.KeptOffsets.{Tracked, tracked, kept_at}
use Rattle.fwd_model.specs.Run.{RunResult, is_over}
use Rattle.fwd_engine.specs.EngineSteps.{IsAt}
use Rattle.fwd_engine.specs.declared.engine.Engine.{Engine}
use Rattle.fwd_engine_run.specs.declared.kept_offsets.KeptOffset.{KeptOffset}
use Rattle.fwd_engine_run.specs.declared.kept_offsets.KeptOffsets.{KeptOffsets}
use Rattle.fwd_engine_run.specs.declared.kept_offsets.Got.{Got}
use Rattle.fwd_engine_run.specs.declared.kept_offsets.Got.TheVariants as got

abbrev pub with_keeper : KeeperLog → CallLogs → CallLogs
with_keeper log others = record others { keeper = log }

-- a row is of this file, and has the offset that the database has of it
pub record IsRow (h : History) (row : KeptOffset) (t : Tracked) : Type 0 where
  pub input : row.input.0 ≡ t.input
  pub index : row.index ≡ t.index
  pub db : row.db ≡ t.db
  pub path : row.path ≡ t.path
  pub kept : row.kept ≡ kept_at h t.input t.index

-- the rows are those of all files whose offsets are kept
pub record Keeps (s : AllSettings) (offsets : KeptOffsets) (h : History) : Type 0 where
  pub count : length offsets.rows.items ≡ length (tracked s)
  pub each : (k : ℕ) (row : KeptOffset) (t : Tracked)
      → slice_get offsets.rows.items k ≡ Some row → slice_get (tracked s) k ≡ Some t → IsRow h row t

-- a run is over after one of these histories exactly if it is after the other
abbrev pub IsOverAlike : AllSettings → History → History → Type 0
IsOverAlike s h now = (brought : Happening) → is_over s brought now ≡ is_over s brought h

-- By the result: the calls led to what follows the gets; a get failed, and they led to what follows that; or
-- memory ran out after the first ones.
abbrev pub GetsOutcome : {E : Type 0} → CallLogs → CallLogs → AllSettings
    → (failed next : History → Action RunResult) → Action RunResult → Engine → KeptOffsets → Result Got E
    → Type 0
GetsOutcome a b s failed next act engine offsets (Ok got.All) =
    (now : History) × IsAt engine s now × Keeps s offsets now × Leads a b act (next now)
GetsOutcome a b s failed next act engine offsets (Ok got.Failed) =
    (now : History) × Leads a b act (failed now)
GetsOutcome a b s failed next act engine offsets (Err e) = IsBegun a b act

-- By the result: the calls led to what follows the puts; or memory ran out after the first ones.
abbrev pub PutsOutcome : {E : Type 0} → CallLogs → CallLogs → AllSettings → History
    → (History → Action RunResult) → Action RunResult → Engine → KeptOffsets → Result (Unit {0}) E → Type 0
PutsOutcome a b s h next act engine offsets (Ok done) =
    (now : History) × IsAt engine s now × Keeps s offsets now × IsOverAlike s h now × Leads a b act (next now)
PutsOutcome a b s h next act engine offsets (Err e) = IsBegun a b act
