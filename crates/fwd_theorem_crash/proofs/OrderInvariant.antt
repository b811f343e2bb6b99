-- The order invariant: how history and files are related between the actions of a run. It implies safety.
use Rattle.std.proofs.Common.{◌≡◌, ℕ, ◌<◌, ◌≤◌, true, false, List, Option, Some, None}
use Rattle.std.specs.Prelude.{◌≢◌, Contains}
use Rattle.fwd_base.specs.Limits.{numbers_end, full_chunk}
use Rattle.fwd_outside.specs.declared.home.Home.TheVariants.{Disk}
use Rattle.fwd_event.specs.declared.event.Event.{Event}
use Rattle.fwd_event.specs.Event.{AreEvents}
use Rattle.fwd_outside.specs.File.{IsPostCrash, absent}
use Rattle.fwd_outside.specs.DiskStates.{Files}
use Rattle.fwd_outside.specs.PostCrash.{AllPostCrash}
use Rattle.fwd_outside.proofs.Invariant.{AllInvariant}
use Rattle.fwd_chunk.specs.declared.append.ChunkHead.{ChunkHead}
use Rattle.fwd_chunk.specs.Layout.{meta_length, new_meta}
use Rattle.fwd_chunk.specs.Append.{DurableIn}
use Rattle.fwd_chunk.specs.Outcome.{ImageNamesOutputs}
use Rattle.fwd_chunk.specs.declared.kept.Kept.{Kept}
use Rattle.fwd_chunk.specs.declared.kept.Kept.TheVariants.{InFile, Adopted, InMemory}
use Rattle.fwd_chunk.specs.Kept.{file_of_optional}
use Rattle.fwd_backlog.specs.declared.listed_file.Listed.{Listed}
use Rattle.fwd_backlog.specs.Listing.{path_of, IsNamed}
use Rattle.fwd_settings.specs.declared.settings_types.AllSettings.{AllSettings}
use Rattle.fwd_model.specs.Fact.{History}
use Rattle.fwd_model.specs.Settings.{names_for}
use Rattle.fwd_model.specs.Chunks.{ChunkInfo, chunks_of, open_chunks, next, is_closed, content, size}
use Rattle.fwd_model.specs.ChunkStorage.{kept_of, name_for}
use Rattle.fwd_model.specs.Routes.{is_owed, home_of}
use Rattle.fwd_theorem_crash.specs.Safety.{AccountsFor}
use Rattle.fwd_theorem_crash.specs.ChunkFile.{IsIntact}

-- the head of the file of a chunk that is kept in one
abbrev pub head_in : Kept → Option ChunkHead
head_in (InFile head) = Some head
head_in (Adopted head) = Some head
head_in (InMemory content) = None

abbrev pub head_of : Option Kept → Option ChunkHead
head_of None = None
head_of (Some kept) = head_in kept

-- The metadata of the bytes are as long as the head says, and in a file of mark 2 they name the head's
-- outputs, in order.
pub record FitsHead (head : ChunkHead) (bytes : List ℕ) : Type 0 where
  pub meta : head.meta ≡ meta_length bytes
  pub named : head.mark ≡ 2 → ImageNamesOutputs head (Some bytes)

abbrev pub NamesAll : ChunkHead → Option (List ℕ) → Type 0
NamesAll head None = ⊥
NamesAll head (Some bytes) = FitsHead head bytes

-- The file of an open chunk, which began in this run: it has no unsynced state, and has all that was
-- accepted.
pub record IsOpen (s : AllSettings) (h : History) (c : ChunkInfo) (head : ChunkHead) (files : Files) : Type 0 where
  pub kept : kept_of s h c.number ≡ Some (InFile head)
  pub mark : head.mark ≡ 2
  pub outputs : head.outputs ≡ names_for s c.tag
  pub settled : DurableIn head (new_meta c.tag (names_for s c.tag)) (content h c.number) files
  pub events : List Event
  pub are : AreEvents events (content h c.number)

-- the file of a pending chunk
pub record PendingFile (s : AllSettings) (h : History) (c : ChunkInfo) (files : Files) : Type 0 where
  pub root : List ℕ
  pub path : Listed
  pub under : s.service.path ≡ Some root
  pub named : IsNamed path
  pub head : ChunkHead
  pub held : head_of (kept_of s h c.number) ≡ Some head
  pub name : head.name ≡ path_of root path
  pub sized : head.size ≡ size h c.number
  pub images : AllPostCrash head.name (IsIntact s h c) files
  pub names : AllPostCrash head.name (NamesAll head) files
  pub at_work : is_closed h c.number ≡ false → IsOpen s h c head files

-- a chunk that is kept in a file has the disk as its home
pub record HomeIsDisk (s : AllSettings) (h : History) (chunk : ℕ) : Type 0 where
  pub of : ChunkInfo
  pub among : Contains (chunks_of h) of
  pub is : of.number ≡ chunk
  pub home : home_of s of.input ≡ Disk

-- no file has the name of a chunk to come, and no chunk is kept in it
pub record NameIsFree (s : AllSettings) (h : History) (files : Files) (name : List ℕ) : Type 0 where
  pub none : files name ≡ absent
  pub unheld : (chunk : ℕ) → file_of_optional (kept_of s h chunk) ≢ Some name

-- the invariant between two actions
pub record InOrder (s : AllSettings) (first : Files) (h : History) (files : Files) : Type 0 where
  pub sound : AllInvariant files
  pub owed : (c : ChunkInfo) → Contains (chunks_of h) c → is_owed s h c ≡ true → home_of s c.input ≡ Disk → PendingFile s h c files
  pub home : (chunk : ℕ) (head : ChunkHead) → head_of (kept_of s h chunk) ≡ Some head → HomeIsDisk s h chunk
  pub differ : (one other : ℕ) (name : List ℕ) → file_of_optional (kept_of s h one) ≡ Some name → file_of_optional (kept_of s h other) ≡ Some name → one ≡ other
  pub free : (root : List ℕ) → s.service.path ≡ Some root → (input chunk : ℕ) → next h ≤ chunk → chunk < numbers_end → NameIsFree s h files (name_for s input chunk)
  pub others : (name bytes : List ℕ) → IsPostCrash (files name) (Some bytes) → AccountsFor s first h name bytes

-- each open chunk has room for a batch
abbrev pub HaveRoom : History → Type 0
HaveRoom h = (c : ChunkInfo) → Contains (open_chunks h) c → size h c.number < full_chunk
