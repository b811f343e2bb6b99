-- Offsets in followed files that are kept across runs: a run gets them at its start, and puts the settled
-- ones after each turn. A file is read on from the offset that the database had for its path.
use Rattle.std.specs.Prelude.{ℕ, ◌+◌, ◌==◌, ◌&&◌, Bool, true, false, if◌then◌else◌, List, [], ◌∷◌, length, Option, Some, None}
use Rattle.std.specs.List.{flat_map, range_with_len}
use Rattle.std.specs.Str.{bytes_eq}
use Rattle.fwd_outside.specs.Program.{Ask}
use Rattle.fwd_keeper.specs.Keeper.{Get, Put}
use Rattle.fwd_settings.specs.declared.settings_types.AllSettings.{AllSettings}
use Rattle.fwd_model.specs.Fact.{History, Resumed, Saved}
use Rattle.fwd_model.specs.Trace.{Action, OnKeeper}
use Rattle.fwd_model.specs.Settings.{paths_at, db_at}
use Rattle.fwd_model.specs.FollowedFiles.{settled}
use Rattle.fwd_model.specs.Notes.{note_then}

-- a followed file whose offset is kept: its input, the index of its path among those of the input, its
-- database and its path
pub record Tracked : Type 0 where
  pub input : ℕ
  pub index : ℕ
  pub db : List ℕ
  pub path : List ℕ

abbrev pub tracked_from : ℕ → ℕ → List ℕ → List (List ℕ) → List Tracked
tracked_from input index db [] = []
tracked_from input index db (path ∷ paths) =
    record { input = input; index = index; db = db; path = path } ∷ tracked_from input (index + 1) db paths

abbrev pub tracked_by : ℕ → Option (List ℕ) → List (List ℕ) → List Tracked
tracked_by input None paths = []
tracked_by input (Some db) paths = tracked_from input 0 db paths

-- the files of all inputs with a database, by input and path
unfoldable pub tracked : AllSettings → List Tracked
tracked s =
    flat_map (λ input. tracked_by input (db_at s input) (paths_at s input))
    (range_with_len 0 (length s.inputs))

abbrev pub kept_by : Bool → ℕ → Option ℕ → Option ℕ
kept_by true place before = Some place
kept_by false place before = before

-- the offset that the database has of a followed file: what it gave at the start, or what it took last
abbrev pub kept_at : History → ℕ → ℕ → Option ℕ
kept_at [] input index = None
kept_at (Resumed i k place ∷ h) input index = kept_by (i == input && k == index) place (kept_at h input index)
kept_at (Saved i k place ∷ h) input index = kept_by (i == input && k == index) place (kept_at h input index)
kept_at (_ ∷ h) input index = kept_at h input index

-- what is to be put: the settled offset, unless it is the one that is kept
abbrev pub to_put : Option ℕ → Option ℕ → Option ℕ
to_put None kept = None
to_put (Some place) None = Some place
to_put (Some place) (Some kept) = if place == kept then None else Some place

-- ---- at the start of a run

-- the indexes of a path among the paths of an input
abbrev pub indexes_from : ℕ → List ℕ → List (List ℕ) → List ℕ
indexes_from index path [] = []
indexes_from index path (other ∷ paths) =
    if bytes_eq other path then index ∷ indexes_from (index + 1) path paths
    else indexes_from (index + 1) path paths

-- reading resumes at an offset, at each of these indexes
abbrev pub resumes : {R : Type 0} → ℕ → ℕ → List ℕ → (History → Action R) → History → Action R
resumes input place [] next h = next h
resumes input place (index ∷ more) next h =
    note_then (Resumed input index place) h (resumes input place more next)

-- after the answer to a get
abbrev pub got : {R : Type 0} → AllSettings → Tracked → (failed next : History → Action R) → History
    → Option (Option ℕ) → Action R
got s t failed next h None = failed h
got s t failed next h (Some None) = next h
got s t failed next h (Some (Some place)) =
    resumes t.input place (indexes_from 0 t.path (paths_at s t.input)) next h

-- get an offset for each file; the first call that fails ends it
abbrev pub gets : {R : Type 0} → AllSettings → List Tracked → (failed next : History → Action R) → History
    → Action R
gets s [] failed next h = next h
gets s (t ∷ ts) failed next h = Ask (OnKeeper (Get t.db t.path)) (got s t failed (gets s ts failed next) h)

-- ---- after a turn

-- after the answer to a put; one that failed is tried again after the next turn
abbrev pub after_put : {R : Type 0} → Tracked → ℕ → (History → Action R) → History → Option (Unit {0})
    → Action R
after_put t place next h None = next h
after_put t place next h (Some done) = note_then (Saved t.input t.index place) h next

abbrev pub puts_by : {R : Type 0} → Tracked → Option ℕ → (History → Action R) → History → Action R
puts_by t None next h = next h
puts_by t (Some place) next h = Ask (OnKeeper (Put t.db t.path place)) (after_put t place next h)

-- put the settled offset of each file, unless it is the one that is kept
abbrev pub puts : {R : Type 0} → AllSettings → List Tracked → (History → Action R) → History → Action R
puts s [] next h = next h
puts s (t ∷ ts) next h =
    puts_by t (to_put (settled s h t.input t.index) (kept_at h t.input t.index)) (puts s ts next) h
