-- What a poll of a followed file calls and logs.
use Rattle.std.specs.Prelude.{◌≡◌, ◌⊎◌, ℕ, true, List, ◌∷◌, ◌++◌, Option, Some, None}
use Rattle.fwd_base.specs.Limits.{longest_read}
use Rattle.fwd_in_tail.specs.Followed.{from_place}
use Rattle.fwd_outside.specs.Program.{entry}
use Rattle.fwd_outside.specs.Files.{Length, ReadAt}
use Rattle.fwd_settings.specs.declared.settings_types.AllSettings.{AllSettings}
use Rattle.fwd_model.specs.Fact.{History, Polled, IoFailed}
use Rattle.fwd_model.specs.Trace.{TraceEntry, OnFiles, Note, history_after}
use Rattle.fwd_model.specs.Settings.{from_head_at}
use Rattle.fwd_model.specs.FollowedFiles.{file_at}
use Rattle.fwd_model.specs.Limits.{is_paused}

-- a failed call is logged
abbrev pub LogsFailure : List TraceEntry → Type 0
LogsFailure entries = (more : List TraceEntry) × (entries ≡ entry (Note IoFailed) tt ∷ more)

-- the bytes that were read are logged, or that they couldn't be read
abbrev pub LogsRead : ℕ → ℕ → ℕ → Option (List ℕ) → List TraceEntry → Type 0
LogsRead input index long None entries = LogsFailure entries
LogsRead input index long (Some bytes) entries =
    (more : List TraceEntry) × (entries ≡ entry (Note (Polled input index long bytes)) tt ∷ more)

-- once the file's length is known, the file is read from where reading is to go on
abbrev pub ReadsOn : AllSettings → ℕ → ℕ → List ℕ → History → Option ℕ → List TraceEntry → Type 0
ReadsOn s input index path h None entries = LogsFailure entries
ReadsOn s input index path h (Some long) entries =
    let at = from_place (from_head_at s input) long (file_at s h input index).place in
    (read : Option (List ℕ)) × (more : List TraceEntry)
    × (entries ≡ entry (OnFiles (ReadAt path at longest_read)) read ∷ more) × LogsRead input index long read more

-- these calls begin with a poll of this path
pub record BeginsWithPoll (s : AllSettings) (input index : ℕ) (path : List ℕ) (h : History)
    (entries : List TraceEntry) : Type 0 where
  pub long : Option ℕ
  pub rest : List TraceEntry
  pub is : entries ≡ entry (OnFiles (Length path)) long ∷ rest
  pub reads : ReadsOn s input index path h long rest

-- among the calls after this history, the file of a path is polled, unless the input is paused then
pub record HasTurn (s : AllSettings) (input index : ℕ) (path : List ℕ) (h : History)
    (entries : List TraceEntry) : Type 0 where
  pub before : List TraceEntry
  pub after : List TraceEntry
  pub is : entries ≡ before ++ after
  pub turn : (is_paused s (history_after before h) input ≡ true)
      ⊎ BeginsWithPoll s input index path (history_after before h) after
