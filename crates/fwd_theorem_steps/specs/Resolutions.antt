-- What a run does once a route is resolved.
use Rattle.std.specs.Prelude.{◌≡◌, ◌⊎◌, ℕ, true, false, [], ◌∷◌, Contains, Some}
use Rattle.fwd_settings.specs.declared.settings_types.AllSettings.{AllSettings}
use Rattle.fwd_model.specs.Fact.{Fact, History, Route, OnRoute, MarkStarted, Marked, Removed, FileLeft, IoFailed}
use Rattle.fwd_model.specs.Settings.{output_name}
use Rattle.fwd_model.specs.ChunkStorage.{kept_of, mark_position}
use Rattle.fwd_model.specs.Routes.{resolves, owes}

-- A route was resolved, and these facts were logged since. If its chunk was pending for another output, and its file
-- has a place for the output's mark: the mark was written, or a call on the disk failed. If the chunk was pending for
-- no output: it was removed, or its file couldn't be.
pub record IsSettled (s : AllSettings) (since : History) (r : Route) (h : History) : Type 0 where
  pub begun : owes s h r.chunk ≡ true → (place : ℕ)
      → mark_position (output_name s r.output) (kept_of s h r.chunk) ≡ Some place → Contains since (MarkStarted r)
  pub marked : owes s h r.chunk ≡ true → (place : ℕ)
      → mark_position (output_name s r.output) (kept_of s h r.chunk) ≡ Some place
      → Contains since (Marked r) ⊎ Contains since IoFailed
  pub removed : owes s h r.chunk ≡ false → Contains since (Removed r.chunk) ⊎ Contains since (FileLeft r.chunk)

-- for a fact that resolves a route, given the facts since and those before it
abbrev pub IsSettledSince : AllSettings → History → Fact → History → Type 0
IsSettledSince s since (OnRoute r outcome) before =
    resolves outcome ≡ true → IsSettled s since r (OnRoute r outcome ∷ before)
IsSettledSince s since fact before = Unit {0}

-- for each fact of a history, given the facts logged after it
abbrev pub AreSettled : AllSettings → History → History → Type 0
AreSettled s since [] = Unit {0}
AreSettled s since (fact ∷ before) = IsSettledSince s since fact before × AreSettled s (fact ∷ since) before
