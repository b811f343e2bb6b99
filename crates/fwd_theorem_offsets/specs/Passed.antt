-- Offsets that a run puts, and the lines before them.
use Rattle.std.specs.Prelude.{◌≡◌, ℕ, List, [], ◌∷◌, ◌++◌, Contains}
use Rattle.fwd_frames.specs.declared.line.Line.{Line}
use Rattle.fwd_in_tail.specs.Followed.{completed, polled}
use Rattle.fwd_keeper.specs.Keeper.{Put}
use Rattle.fwd_settings.specs.declared.settings_types.AllSettings.{AllSettings}
use Rattle.fwd_model.specs.Fact.{History, Polled}
use Rattle.fwd_model.specs.Trace.{Call, OnKeeper}
use Rattle.fwd_model.specs.FollowedFiles.{file_at}
use Rattle.fwd_theorem_trace.specs.Past.{Past, logged}
use Rattle.fwd_theorem_trace.specs.Allowed.{PutAllowed}
use Rattle.fwd_theorem_delivery.specs.BatchOutcomes.{AllBatchOutcomes}

-- An offset is put after this history. It is the one after the last whole line that was read of a followed
-- file, and something became of each batch that was complete by then: it was accepted, or refused and
-- counted, or has no events, or followed the drop of its connection.
pub record OffsetPassed (s : AllSettings) (db path : List ℕ) (place : ℕ) (h : History) : Type 0 where
  pub allowed : PutAllowed s db path place h
  pub decided : AllBatchOutcomes s [] h

abbrev pub IsPassedBy : AllSettings → Call → Past → Type 0
IsPassedBy s (OnKeeper (Put db path place)) past = OffsetPassed s db path place (logged past)
IsPassedBy s call past = Unit {0}

-- each offset that is put among these calls
abbrev pub ArePassed : AllSettings → Past → Type 0
ArePassed s [] = Unit {0}
ArePassed s (e ∷ past) = IsPassedBy s e.call past × ArePassed s past

-- a poll of a followed file completed a line
pub record CameIn (s : AllSettings) (h : History) (input index : ℕ) (line : Line) : Type 0 where
  pub before : History
  pub after : History
  pub long : ℕ
  pub bytes : List ℕ
  pub is : h ≡ after ++ Polled input index long bytes ∷ before
  pub among : Contains (completed (file_at s before input index) (polled long bytes)) line
