-- What it is to get and to put the offset of one file.
use Rattle.std.specs.Prelude.{◌≡◌, ◌⊎◌, ℕ, List, ◌∷◌, slice_get, Some, None, Result, Ok, Err}
use Rattle.fwd_keeper.specs.Keeper.{Get}
use Rattle.fwd_outside.specs.Program.{Ask}
use Rattle.fwd_settings.specs.declared.settings_types.AllSettings.{AllSettings}
use Rattle.fwd_model.specs.Fact.{History, Saved}
use Rattle.fwd_model.specs.Trace.{Action, OnKeeper}
use Rattle.fwd_model.specs.Settings.{paths_at}
use Rattle.fwd_model.specs.CallLogs.{CallLogs, Leads, IsBegun}
use Rattle.fwd_model.specs.KeptOffsets.{Tracked, got}
use Rattle.fwd_model.specs.Run.{RunResult}
use Rattle.fwd_theorem_trace.specs.Allowed.{IsStart}
use Rattle.fwd_engine.specs.EngineSteps.{IsAt}
use Rattle.fwd_engine.specs.declared.engine.Engine.{Engine}
use Rattle.fwd_engine_run.specs.OffsetRows.{IsRow}
use Rattle.fwd_engine_run.specs.declared.kept_offsets.KeptOffset.{KeptOffset}
use Rattle.fwd_engine_run.specs.declared.kept_offsets.Got.{Got}
use Rattle.fwd_engine_run.specs.declared.kept_offsets.Got.TheVariants as outcome

abbrev pub tracked_file : ℕ → ℕ → List ℕ → List ℕ → Tracked
tracked_file input index db path = record { input = input; index = index; db = db; path = path }

-- the row of a file, without an offset
abbrev pub new_row : Tracked → KeptOffset
new_row t = record { input = record { 0 = t.input }; index = t.index; db = t.db; path = t.path; kept = None }

-- the input has this path at this index
abbrev pub IsPath : AllSettings → Tracked → Type 0
IsPath s t = slice_get (paths_at s t.input) t.index ≡ Some t.path

-- ---- gets

-- get the offset of a file
abbrev pub gets_one : AllSettings → Tracked → (failed next : History → Action RunResult) → History
    → Action RunResult
gets_one s t failed next h = Ask (OnKeeper (Get t.db t.path)) (got s t failed next h)

-- By the result: the calls led to what follows the gets, and besides recovered files only resumed offsets are
-- logged; a get failed, and they led to what follows that; or memory ran out after the first ones.
abbrev pub OffsetsGot : {E : Type 0} → CallLogs → CallLogs → AllSettings
    → (failed next : History → Action RunResult) → Action RunResult → Engine → Result Got E → Type 0
OffsetsGot a b s failed next act engine (Ok outcome.All) =
    (now : History) × IsAt engine s now × IsStart now × Leads a b act (next now)
OffsetsGot a b s failed next act engine (Ok outcome.Failed) = (now : History) × Leads a b act (failed now)
OffsetsGot a b s failed next act engine (Err e) = IsBegun a b act

-- ---- puts

-- nothing was logged, or that the database took an offset of this file
abbrev pub IsPutLogged : Tracked → History → History → Type 0
IsPutLogged t h now = (now ≡ h) ⊎ ((place : ℕ) × (now ≡ Saved t.input t.index place ∷ h))

-- the calls led to what follows the put of one file
pub record RowPut (a b : CallLogs) (s : AllSettings) (h : History) (t : Tracked)
    (next : History → Action RunResult) (act : Action RunResult) (engine : Engine)
    (row : KeptOffset) : Type 0 where
  pub now : History
  pub logged : IsPutLogged t h now
  pub at : IsAt engine s now
  pub shows : IsRow now row t
  pub leads : Leads a b act (next now)

-- By the result: the calls led to what follows the put; or memory ran out, and none was logged.
abbrev pub OffsetPut : {E : Type 0} → CallLogs → CallLogs → AllSettings → History → Tracked
    → (History → Action RunResult) → Action RunResult → Engine → KeptOffset → Result (Unit {0}) E → Type 0
OffsetPut a b s h t next act engine row (Ok done) = RowPut a b s h t next act engine row
OffsetPut a b s h t next act engine row (Err e) = IsBegun a b act
