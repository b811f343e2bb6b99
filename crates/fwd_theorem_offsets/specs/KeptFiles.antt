-- Followed files whose offsets are kept, and where a run reads on in them.
use Rattle.std.specs.Prelude.{◌≡◌, ℕ, ◌+◌, ◌-◌, ◌^◌, ◌==◌, ◌&&◌, ◌||◌, min, Bool, false, if◌then◌else◌, List, [], ◌∷◌, ◌++◌, length, Contains, Option, Some, None}
use Rattle.fwd_frames.specs.Lines.{rest}
use Rattle.fwd_in_tail.specs.Followed.{Followed, is_cut}
use Rattle.fwd_keeper.specs.Keeper.{Get, is_of}
use Rattle.fwd_settings.specs.declared.settings_types.AllSettings.{AllSettings}
use Rattle.fwd_model.specs.Fact.{History, Resumed, Saved, Polled}
use Rattle.fwd_model.specs.Trace.{Call, Answer, OnKeeper}
use Rattle.fwd_model.specs.FollowedFiles.{unread, file_at}
use Rattle.fwd_model.specs.KeptOffsets.{Tracked, tracked}
use Rattle.fwd_theorem_trace.specs.Past.{Past}

-- no other followed file has the database and the path of this one
abbrev pub IsAlone : AllSettings → ℕ → ℕ → Type 0
IsAlone s input index =
    (one other : Tracked) → Contains (tracked s) one → Contains (tracked s) other
    → (one.input ≡ input) × (one.index ≡ index) → (other.db ≡ one.db) × (other.path ≡ one.path)
    → (other.input ≡ input) × (other.index ≡ index)

-- whether a poll found the file truncated since its offset was got or taken last
abbrev pub was_cut : AllSettings → History → ℕ → ℕ → Bool
was_cut s [] input index = false
was_cut s (Resumed i k place ∷ h) input index =
    if i == input && k == index then false else was_cut s h input index
was_cut s (Saved i k place ∷ h) input index =
    if i == input && k == index then false else was_cut s h input index
was_cut s (Polled i k long bytes ∷ h) input index =
    ((i == input && k == index) && is_cut long (file_at s h input index).place) || was_cut s h input index
was_cut s (_ ∷ h) input index = was_cut s h input index

-- What was read of a file, since it was truncated or reading resumed, is whole lines up to an offset, and
-- then all bytes from there on.
pub record SplitsAt (f : Followed) (place : ℕ) : Type 0 where
  pub passed : List ℕ
  pub further : List ℕ
  pub said : f.said ≡ passed ++ further
  pub whole : rest passed ≡ []
  pub at : f.place ≡ Some (min (place + length further) (2 ^ 64 - 1))

-- ---- the start of a run

-- the offset that a keeper gave last for a path
abbrev pub given_by : (call : Call) → Answer call → List ℕ → List ℕ → Option ℕ → Option ℕ
given_by (OnKeeper (Get other_db other_path)) (Some (Some place)) db path before =
    if is_of db path other_db other_path then Some place else before
given_by call answer db path before = before

abbrev pub last_given : Past → List ℕ → List ℕ → Option ℕ
last_given [] db path = None
last_given (e ∷ past) db path = given_by e.call e.answer db path (last_given past db path)

-- the file before the first poll: unread, or resumed at an offset
abbrev pub begun_at : Option ℕ → Followed
begun_at None = unread
begun_at (Some place) = record { place = Some place; said = [] }
