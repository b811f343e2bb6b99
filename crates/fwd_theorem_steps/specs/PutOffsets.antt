-- The offsets of followed files that a turn puts.
use Rattle.std.specs.Prelude.{◌≡◌, ◌⊎◌, ℕ, List, ◌∷◌, ◌++◌, Contains, Some, None}
use Rattle.fwd_outside.specs.Program.{entry, Return, Execution}
use Rattle.fwd_outside.specs.Loop.{Wait}
use Rattle.fwd_outside.specs.declared.happening.Happening.{Happening}
use Rattle.fwd_keeper.specs.Keeper.{Put}
use Rattle.fwd_settings.specs.declared.settings_types.AllSettings.{AllSettings}
use Rattle.fwd_model.specs.Fact.{History}
use Rattle.fwd_model.specs.Trace.{TraceEntry, OnLoop, OnKeeper, history_after}
use Rattle.fwd_model.specs.FollowedFiles.{settled}
use Rattle.fwd_model.specs.KeptOffsets.{Tracked, tracked, kept_at}
use Rattle.fwd_model.specs.StepActions.{step}

-- after these calls the database has the settled offset of a followed file, unless a put of it failed among them
abbrev pub IsPut : AllSettings → Tracked → History → List TraceEntry → Type 0
IsPut s t h put =
    (place : ℕ) → settled s h t.input t.index ≡ Some place
    → (kept_at (history_after put h) t.input t.index ≡ Some place)
    ⊎ Contains put (entry (OnKeeper (Put t.db t.path place)) None)

-- The calls of a turn: the wait, the step of the event that it returned, the puts of offsets, and the rest.
pub record PutsOffsets (s : AllSettings) (h : History) (entries : List TraceEntry) : Type 0 where
  pub until : ℕ
  pub paused : ℕ
  pub brought : Happening
  pub steps : List TraceEntry
  pub after : History
  pub put : List TraceEntry
  pub rest : List TraceEntry
  pub is : entries ≡ entry (OnLoop (Wait until paused)) brought ∷ (steps ++ (put ++ rest))
  pub step : Execution (step s brought h) steps (Return after)
  pub kept : (t : Tracked) → Contains (tracked s) t → IsPut s t after put
