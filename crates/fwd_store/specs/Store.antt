-- The disk program of `accept`, and the store after it.
use Rattle.std.specs.Prelude.{◌≡◌, ◌≢◌, ◌⊎◌, ℕ, ◌+◌, ◌^◌, ◌<◌, ◌≤◌, ◌==◌, ◌&&◌, ◌||◌, nat_lt, not, is_some, unwrap_or, Bool, true, false, if◌then◌else◌, List, [], ◌∷◌, ◌++◌, length, All, Option, Some, None, IsSome, Result, Ok, Err}
use Rattle.std.specs.FinMap as map
use Rattle.fwd_base.specs.Limits.{chunk_header, full_chunk, largest_batch, numbers_end}
use Rattle.fwd_outside.specs.Program.{Return, and_then}
use Rattle.fwd_outside.specs.Log.{LogGrew}
use Rattle.fwd_outside.specs.declared.home.Home.{Home}
use Rattle.fwd_outside.specs.declared.home.Home.TheVariants.{Disk, Ram}
use Rattle.fwd_outside.specs.Disk.{DiskLog, DiskProgram}
use Rattle.fwd_outside.specs.declared.errors.DiskErr.{DiskErr}
use Rattle.fwd_outside.specs.declared.errors.DiskErr.TheVariants.{Failed}
use Rattle.fwd_base.specs.declared.ids.ChunkId.{ChunkId}
use Rattle.fwd_chunk.specs.declared.append.ChunkHead.{ChunkHead}
use Rattle.fwd_chunk.specs.Append.{create_program, new_head}
use Rattle.fwd_chunk.specs.Outcome.{FitsNames}
use Rattle.fwd_chunk.specs.declared.kept.Kept.{Kept}
use Rattle.fwd_chunk.specs.declared.kept.Kept.TheVariants.{InFile, Adopted, InMemory}
use Rattle.fwd_store.specs.declared.answer.Accepted.{Accepted}
use Rattle.fwd_store.specs.declared.answer.StoreRefusal.{StoreRefusal}
use Rattle.fwd_store.specs.declared.answer.StoreRefusal.TheVariants.{DiskFailed, BatchTooLarge, Memory, NoNumber}
use Rattle.fwd_chunk.specs.declared.chunk.Found.{Found}
use Rattle.fwd_chunk.specs.declared.chunk.Brief.{Brief}
use Rattle.fwd_chunk.specs.declared.chunk.Seen.TheVariants.{Whole}
use Rattle.fwd_chunk.specs.Name.{file_name, found_name}
use Rattle.fwd_chunk.specs.Kept.{size_of, size_of_optional, end_of, file_of_optional, appends, after_append, remove_program, settle_kept_program, FitsItsNames}
use Rattle.fwd_store.specs.OpenChunk.{open_for, without}
use Rattle.fwd_store.specs.StoreState.{Stored}

-- the open chunk of an input and a tag, or none
abbrev pub chunk_for : Stored → ℕ → List ℕ → Option ℕ
chunk_for s input tag = open_for s.opened input tag

-- the content of the open chunk, if there is one, has less than 2,048,000 bytes
abbrev pub has_room : Stored → Option ℕ → Bool
has_room s (Some n) = nat_lt (size_of_optional (map.get s.chunks n)) full_chunk
has_room s None = true

-- the name of the next new chunk's file
abbrev pub new_name : Stored → List ℕ → List ℕ
new_name s stream = file_name (unwrap_or s.root []) stream s.next

-- the batch needs a new chunk, and no number is left
abbrev pub has_no_number : Stored → ℕ → List ℕ → Bool
has_no_number s input tag = (s.next == numbers_end) && not (is_some (chunk_for s input tag))

-- the new chunk of this name
abbrev pub new_kept : List ℕ → List ℕ → Home → List ℕ → List (List ℕ) → Kept
new_kept name tag Disk batch outputs = InFile (new_head name tag batch outputs)
new_kept name tag Ram batch outputs = InMemory batch

-- a new chunk in a file is created atomically; one in memory makes no disk call
abbrev pub begins_as : List ℕ → List ℕ → Home → List ℕ → List (List ℕ) → DiskProgram (Option (Unit {0}))
begins_as name tag Disk batch outputs =
    and_then (create_program name tag batch outputs) (λ _. Return (Some tt))
begins_as name tag Ram batch outputs = Return (Some tt)

abbrev pub append_to_program : Option Kept → List ℕ → Bool → DiskProgram (Option (Unit {0}))
append_to_program (Some kept) batch full = appends kept batch full
append_to_program None batch full = Return (Some tt)

-- The batch goes to the open chunk, or begins a new chunk. It goes to the open chunk wherever that is kept.
abbrev pub accept_into_program : Stored → Option ℕ → List ℕ → List ℕ → Home → List ℕ → List (List ℕ)
    → DiskProgram (Option (Unit {0}))
accept_into_program s (Some n) stream tag home batch outputs =
    append_to_program (map.get s.chunks n) batch s.full
accept_into_program s None stream tag home batch outputs =
    begins_as (new_name s stream) tag home batch outputs

-- the calls of an `accept`; a batch that is too large or finds no number makes none
abbrev pub accept_program : Stored → ℕ → List ℕ → List ℕ → Home → List ℕ → List (List ℕ)
    → DiskProgram (Option (Unit {0}))
accept_program s input stream tag home batch outputs =
    if nat_lt largest_batch (length batch) || has_no_number s input tag then Return None
    else accept_into_program s (chunk_for s input tag) stream tag home batch outputs

-- the outcome of an `accept`: the batch was accepted, it wasn't, or memory ran out before a call
abbrev pub accept_outcome : Result Accepted StoreRefusal → Option (Option (Unit {0}))
accept_outcome (Ok accepted) = Some (Some tt)
accept_outcome (Err (DiskFailed sealed)) = Some None
accept_outcome (Err BatchTooLarge) = Some None
accept_outcome (Err NoNumber) = Some None
accept_outcome (Err Memory) = None

-- the next number is used up
abbrev pub with_number_used : Stored → Stored
with_number_used s = record s { next = s.next + 1 }

-- a new chunk, which is open
abbrev pub with_new : Stored → ℕ → List ℕ → Kept → Stored
with_new s input tag kept = record s {
  next = s.next + 1;
  chunks = map.insert s.chunks s.next kept;
  opened = s.opened ++ record { input = input; tag = tag; chunk = s.next } ∷ [];
}

-- the chunk of this number is replaced
abbrev pub with_kept : Stored → ℕ → Kept → Stored
with_kept s n kept = record s { chunks = map.insert s.chunks n kept }

-- the chunk takes no more batches
abbrev pub sealed : Stored → ℕ → Stored
sealed s n = record s { opened = without n s.opened }

-- the batch begins a new chunk, with this answer
abbrev pub BeginsChunk : Stored → Stored → ℕ → List ℕ → List ℕ → Home → List ℕ → List (List ℕ) → Accepted
    → Type 0
BeginsChunk old new input stream tag home batch outputs a =
    (a ≡ record { chunk = record { 0 = old.next }; size = length batch; fresh = true })
    × (new ≡ with_new old input tag (new_kept (new_name old stream) tag home batch outputs))

-- the batch is appended to the open chunk, with this answer
abbrev pub GrowsChunk : Stored → Stored → ℕ → List ℕ → Accepted → Type 0
GrowsChunk old new n batch a =
    (kept : Kept) × (map.get old.chunks n ≡ Some kept)
    × (a ≡ record { chunk = record { 0 = n }; size = size_of (after_append kept batch); fresh = false })
    × (new ≡ with_kept old n (after_append kept batch))

-- one of both, by the open chunk
abbrev pub AcceptsBatch : Stored → Stored → Option ℕ → ℕ → List ℕ → List ℕ → Home → List ℕ → List (List ℕ)
    → Accepted → Type 0
AcceptsBatch old new None input stream tag home batch outputs a =
    BeginsChunk old new input stream tag home batch outputs a
AcceptsBatch old new (Some n) input stream tag home batch outputs a = GrowsChunk old new n batch a

abbrev pub has_file : Option Kept → Bool
has_file (Some (InMemory content)) = false
has_file (Some _) = true
has_file None = false

-- A failed append seals a chunk in a file, and leaves one in memory unchanged.
abbrev pub after_failed_append : Stored → ℕ → Option Kept → Stored
after_failed_append s n (Some (InMemory content)) = s
after_failed_append s n (Some _) = sealed s n
after_failed_append s n None = s

-- a number whose file creation failed is used up
abbrev pub after_failure : Stored → Option ℕ → Stored
after_failure s None = with_number_used s
after_failure s (Some n) = after_failed_append s n (map.get s.chunks n)

abbrev pub named : Option ℕ → Option ChunkId
named None = None
named (Some n) = Some (record { 0 = n })

-- The store after a refused batch, by the chunk that was open and the calls so far. Out of memory before the
-- first disk call changes nothing.
abbrev pub AbandonsBatch : DiskLog → DiskLog → Stored → Stored → Option ℕ → StoreRefusal → Type 0
AbandonsBatch before now old new chunk (DiskFailed failed) =
    (failed ≡ named chunk) × (new ≡ after_failure old chunk)
AbandonsBatch before now old new chunk Memory =
    (LogGrew before now [] × (new ≡ old)) ⊎ (new ≡ after_failure old chunk)
AbandonsBatch before now old new chunk _ = ⊥

-- The store after a refusal. A batch that is too large, or finds no number, changes nothing.
abbrev pub RefusesBatch : DiskLog → DiskLog → Stored → Stored → Option ℕ → StoreRefusal → Type 0
RefusesBatch before now old new chunk BatchTooLarge = LogGrew before now [] × (new ≡ old)
RefusesBatch before now old new chunk NoNumber = LogGrew before now [] × (new ≡ old)
RefusesBatch before now old new chunk refusal = AbandonsBatch before now old new chunk refusal

-- the calls of a removal: one for a chunk in a file
abbrev pub drops : Option Kept → DiskProgram (Option (Unit {0}))
drops (Some kept) = remove_program kept
drops None = Return (Some tt)

-- The store without the chunk. It isn't held any more, also if the removal failed.
abbrev pub without_chunk : Stored → ℕ → Stored
without_chunk s n = record s { chunks = map.remove s.chunks n; opened = without n s.opened }

-- A chunk that can grow: its metadata are those of a new file, which bounds their length.
abbrev pub CanGrow : Option Kept → Type 0
CanGrow (Some (InFile head)) = head.meta ≤ 17479
CanGrow (Some (Adopted head)) = ⊥
CanGrow (Some (InMemory content)) = Unit {0}
CanGrow None = ⊥

-- The offsets of its file fit 64 bits, and its metadata hold its outputs. A file that this run created has
-- its number in the name.
abbrev pub IsValidEntry : Option (List ℕ) → ℕ → Option Kept → Type 0
IsValidEntry root n (Some (InFile head)) =
    (end_of (InFile head) < 2 ^ 64) × FitsNames head × (stream : List ℕ)
    × (head.name ≡ file_name (unwrap_or root []) stream n)
IsValidEntry root n (Some kept) = (end_of kept < 2 ^ 64) × FitsItsNames kept
IsValidEntry root n None = Unit {0}

-- no chunk to come, from this number on, has a file of this name
abbrev pub IsNoLater : Option (List ℕ) → ℕ → List ℕ → Type 0
IsNoLater root next name =
    (stream : List ℕ) (n : ℕ) → next ≤ n → n < numbers_end → name ≢ file_name (unwrap_or root []) stream n

-- Each open chunk is in the store and can grow, and the next number is above that of each chunk of the
-- store. No two chunks have one file, and none has the file of a chunk to come.
pub record IsSound (s : Stored) : Type 0 where
  pub each : All (λ o. CanGrow (map.get s.chunks o.chunk)) s.opened
  pub held : (n : ℕ) → IsValidEntry s.root n (map.get s.chunks n)
  pub below : (n : ℕ) → IsSome (map.get s.chunks n) → n < s.next
  pub numbers : s.next ≤ numbers_end
  pub differ : (n m : ℕ) (name : List ℕ) → file_of_optional (map.get s.chunks n) ≡ Some name
      → file_of_optional (map.get s.chunks m) ≡ Some name → n ≡ m
  pub free : (n : ℕ) (name : List ℕ) → file_of_optional (map.get s.chunks n) ≡ Some name
      → IsNoLater s.root s.next name

-- the refusal for a failed disk call, or for memory
abbrev pub IsRefusalOf : DiskErr → Option ChunkId → StoreRefusal → Type 0
IsRefusalOf Failed chunk r = r ≡ DiskFailed chunk
IsRefusalOf _ chunk r = r ≡ Memory

-- the outcome of the first batch of a chunk
abbrev pub kept_outcome : Result Kept StoreRefusal → Option (Option (Unit {0}))
kept_outcome (Ok kept) = Some (Some tt)
kept_outcome (Err (DiskFailed chunk)) = Some None
kept_outcome (Err BatchTooLarge) = Some None
kept_outcome (Err NoNumber) = Some None
kept_outcome (Err Memory) = None

-- a disk call failed
abbrev pub HasFailed : Result Accepted StoreRefusal → Type 0
HasFailed (Err (DiskFailed chunk)) = Unit {0}
HasFailed _ = ⊥

-- the head of a recovered file
abbrev pub head_of : List ℕ → Brief → ChunkHead
head_of name brief =
    record {
      name = name;
      meta = brief.meta;
      size = brief.size;
      selector = 0;
      mark = brief.mark;
      outputs = brief.outputs;
    }

-- The recovered file has events. Its offsets fit 64 bits, and its metadata hold its outputs.
abbrev pub IsWhole : Found → Type 0
IsWhole found =
    (brief : Brief) × (found.seen ≡ Whole brief) × (chunk_header + brief.meta + brief.size < 2 ^ 64)
    × FitsNames (head_of [] brief)

-- the path of a recovered file
abbrev pub path_of_recovered : Stored → Found → List ℕ
path_of_recovered s found = found_name (unwrap_or s.root []) found.stream found.name

-- the chunk of a recovered file
abbrev pub adopted : Stored → Found → Brief → Kept
adopted s found brief = Adopted (head_of (path_of_recovered s found) brief)

-- no chunk of the store has a file of this name
abbrev pub IsNew : Stored → List ℕ → Type 0
IsNew s name = (n : ℕ) → file_of_optional (map.get s.chunks n) ≢ Some name

-- the calls that record the outcome of an output for a chunk
abbrev pub settle_for_program : Option Kept → List ℕ → Bool → DiskProgram (Option Bool)
settle_for_program (Some kept) output full = settle_kept_program kept output full
settle_for_program None output full = Return (Some false)
