-- How the store keeps a chunk: in a file of its own, in a recovered file, or in memory.
use Rattle.std.specs.Prelude.{ℕ, ◌==◌, if◌then◌else◌, List, [], ◌∷◌, length, unwrap_or, Option, Some, None}
use Rattle.fwd_chunk.specs.Outcome.{outcome_place}
use Rattle.fwd_chunk.specs.declared.chunk.Chunk.{Chunk}
use Rattle.fwd_chunk.specs.declared.kept.Kept.{Kept}
use Rattle.fwd_chunk.specs.declared.kept.Kept.TheVariants.{InFile, Adopted, InMemory}
use Rattle.fwd_chunk.specs.Kept.{after_append}
use Rattle.fwd_chunk.specs.Name.{file_name, found_name}
use Rattle.fwd_store.specs.Store.{new_kept}
use Rattle.fwd_settings.specs.declared.settings_types.AllSettings.{AllSettings}
use Rattle.fwd_model.specs.Fact.{History, Batch, Placement, NoChunk, NewChunk, AppendedTo, Found, Accepted, Removed, FileLeft}
use Rattle.fwd_model.specs.Settings.{home_at, input_name, names_for}
use Rattle.fwd_model.specs.RecoveredFile.{recovered_chunk}
use Rattle.fwd_model.specs.Chunks.{encoded}

-- the file name of a new chunk of an input
abbrev pub name_for : AllSettings → ℕ → ℕ → List ℕ
name_for s input chunk = file_name (unwrap_or s.service.path []) (input_name s input) chunk

-- a recovered chunk stays in its file
abbrev pub adopted : List ℕ → Option Chunk → Option Kept
adopted name None = None
adopted name (Some chunk) = Some (Adopted (record {
  name = name;
  meta = chunk.meta;
  size = length chunk.content;
  selector = 0;
  mark = chunk.mark;
  outputs = chunk.outputs;
}))

-- how the store keeps a chunk that starts with a batch
abbrev pub created_with : AllSettings → Batch → ℕ → Kept
created_with s b chunk =
    new_kept (name_for s b.input chunk) b.tag (home_at s b.input) (encoded b.events) (names_for s b.tag)

-- the same chunk after a batch was appended
abbrev pub grown_by : List ℕ → Option Kept → Option Kept
grown_by batch None = None
grown_by batch (Some kept) = Some (after_append kept batch)

-- how the store keeps a chunk after a batch was stored there or elsewhere
abbrev pub stored_after : AllSettings → Batch → Placement → ℕ → Option Kept → Option Kept
stored_after s b NoChunk chunk before = before
stored_after s b (NewChunk other) chunk before =
    if other == chunk then Some (created_with s b other) else before
stored_after s b (AppendedTo other) chunk before =
    if other == chunk then grown_by (encoded b.events) before else before

-- how the store keeps a chunk; none if it has no such chunk
abbrev pub kept_of : AllSettings → History → ℕ → Option Kept
kept_of s [] chunk = None
kept_of s (Found other stream name bytes ∷ h) chunk =
    if other == chunk
    then adopted (found_name (unwrap_or s.service.path []) stream name) (recovered_chunk bytes)
    else kept_of s h chunk
kept_of s (Accepted b place ∷ h) chunk = stored_after s b place chunk (kept_of s h chunk)
kept_of s (Removed other ∷ h) chunk = if other == chunk then None else kept_of s h chunk
kept_of s (FileLeft other ∷ h) chunk = if other == chunk then None else kept_of s h chunk
kept_of s (_ ∷ h) chunk = kept_of s h chunk

-- the position in its file of the byte that marks an output of this name as done; none if there is no such
-- byte
abbrev pub mark_position : List ℕ → Option Kept → Option ℕ
mark_position output None = None
mark_position output (Some (InFile head)) = outcome_place head output
mark_position output (Some (Adopted head)) = outcome_place head output
mark_position output (Some (InMemory content)) = None
