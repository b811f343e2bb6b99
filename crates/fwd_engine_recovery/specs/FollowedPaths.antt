-- The files that an input follows.
use Rattle.std.specs.Prelude.{ℕ, Bool, List}
use Rattle.fwd_settings.specs.declared.settings_types.InputSet.{InputSet}
use Rattle.fwd_model.specs.Settings.{followed_paths, starts_at_head}

-- their paths, and whether they are read from their start
pub record FollowedPaths : Type 0 where
  pub paths : List (List ℕ)
  pub from_head : Bool

abbrev pub followed_paths_of : InputSet → FollowedPaths
followed_paths_of set = record { paths = followed_paths set.kind; from_head = starts_at_head set.kind }
