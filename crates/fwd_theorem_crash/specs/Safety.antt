-- What a crash at some point leaves: the file of each pending file-backed chunk, whole; and no file that
-- nothing accounts for.
use Rattle.std.specs.Prelude.{◌≡◌, ℕ, true, List, ◌∷◌, ◌++◌, Contains, Some, None}
use Rattle.fwd_outside.specs.declared.home.Home.TheVariants.{Disk}
use Rattle.fwd_outside.specs.File.{IsPostCrash, whole}
use Rattle.fwd_outside.specs.DiskStates.{Files}
use Rattle.fwd_outside.specs.PostCrash.{AllPostCrash}
use Rattle.fwd_chunk.specs.Layout.{new_file}
use Rattle.fwd_chunk.specs.Kept.{file_of_optional}
use Rattle.fwd_backlog.specs.declared.listed_file.Listed.{Listed}
use Rattle.fwd_backlog.specs.Listing.{path_of, IsNamed}
use Rattle.fwd_settings.specs.declared.settings_types.AllSettings.{AllSettings}
use Rattle.fwd_model.specs.Fact.{History, Batch, Offered, FileLeft}
use Rattle.fwd_model.specs.Settings.{names_for}
use Rattle.fwd_model.specs.Chunks.{ChunkInfo, chunks_of, chunk_at, encoded}
use Rattle.fwd_model.specs.ChunkStorage.{kept_of, name_for}
use Rattle.fwd_model.specs.Routes.{is_owed, home_of}
use Rattle.fwd_theorem_trace.specs.Past.{logged}
use Rattle.fwd_theorem_crash.specs.CrashPoint.{CrashPoint}
use Rattle.fwd_theorem_crash.specs.ChunkFile.{IsIntact}

-- The chunk has a file where the next run looks for it, and whatever a crash leaves of the file
-- represents the chunk.
pub record IsFileSafe (s : AllSettings) (h : History) (c : ChunkInfo) (files : Files) : Type 0 where
  pub root : List ℕ
  pub path : Listed
  pub under : s.service.path ≡ Some root
  pub named : IsNamed path
  pub held : file_of_optional (kept_of s h c.number) ≡ Some (path_of root path)
  pub images : AllPostCrash (path_of root path) (IsIntact s h c) files

-- the file of this name belonged to a chunk that wasn't pending, and couldn't be removed
pub record WasNotRemoved (s : AllSettings) (h : History) (chunk : ℕ) (name : List ℕ) : Type 0 where
  pub after : History
  pub before : History
  pub is : h ≡ after ++ FileLeft chunk ∷ before
  pub held : file_of_optional (kept_of s before chunk) ≡ Some name

-- What accounts for bytes that a crash leaves under a name: a chunk is kept in the file; it belonged to
-- one and couldn't be removed; a batch was being written to it, and no chunk came of that; or it existed
-- when the run began.
pub data AccountsFor (s : AllSettings) (first : Files) (h : History) (name bytes : List ℕ) : Type 0 where
  IsHeld : (chunk : ℕ) → file_of_optional (kept_of s h chunk) ≡ Some name → AccountsFor s first h name bytes
  IsLeft : (chunk : ℕ) → WasNotRemoved s h chunk name → AccountsFor s first h name bytes
  IsPlaced : (chunk : ℕ) (b : Batch) → Contains h (Offered chunk b) → chunk_at h chunk ≡ None
      → name ≡ name_for s b.input chunk → bytes ≡ new_file b.tag (encoded b.events) (names_for s b.tag)
      → AccountsFor s first h name bytes
  StoodThere : first name ≡ whole bytes → AccountsFor s first h name bytes

-- whatever a crash at this point leaves has the file of each pending chunk that is kept in one, whole
abbrev pub PendingAreSafe : AllSettings → CrashPoint → Type 0
PendingAreSafe s m =
    (c : ChunkInfo) → Contains (chunks_of (logged m.past)) c → is_owed s (logged m.past) c ≡ true
    → home_of s c.input ≡ Disk → IsFileSafe s (logged m.past) c m.files

-- a point of a run that began with these files
pub record IsSafe (s : AllSettings) (first : Files) (m : CrashPoint) : Type 0 where
  pub owed : PendingAreSafe s m
  pub others : (name bytes : List ℕ) → IsPostCrash (m.files name) (Some bytes)
      → AccountsFor s first (logged m.past) name bytes
