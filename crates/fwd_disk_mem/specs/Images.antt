-- The post-crash states of a disk in memory, by a pick from 0 to 3. 0: writes since the last sync are lost,
-- creations that aren't durable are absent, removals that aren't durable didn't happen. 1: all of them took
-- place. 2: as 1, with 5a in each byte that isn't durable. 3: as 1, but each byte that isn't durable at an
-- even offset is as at the last sync, or 0 past that length.
use Rattle.std.specs.Prelude.{◌≡◌, ℕ, suc, ◌+◌, ◌-◌, ◌%◌, ◌==◌, leb, Bool, true, false, not, ◌&&◌, if◌then◌else◌, Option, Some, None, List, [], ◌∷◌, ◌++◌, Vec, unwrap_or, length, slice_index, replicate, take, drop, map}
use Rattle.std.specs.Str.{bytes_eq}
use Rattle.std.specs.Map.{lookup}
use Rattle.fwd_outside.specs.File.{FileState, absent, content, overwritten}
use Rattle.fwd_disk_mem.specs.FileTable.{MemFile}
use Rattle.fwd_disk_mem.specs.declared.image.ImageFile.{ImageFile}
use Rattle.fwd_disk_mem.specs.declared.entry.MemEntry.{MemEntry}
use Rattle.fwd_disk_mem.specs.declared.entry.MemEntry.TheVariants.{Place, WriteAt, Sync, Remove, Preset}
use Rattle.fwd_disk_mem.specs.Entry.{is_call, can_write, is_on, step, written_over}

-- a file and its post-crash state: its bytes at the last sync, and the state
pub record CrashFile : Type 0 where
  pub base : List ℕ
  pub image : Option (List ℕ)

-- each byte at an even offset as it was, or 0
abbrev pub mixed : List ℕ → ℕ → List ℕ → List ℕ
mixed base at [] = []
mixed base at (byte ∷ bytes) = (if at % 2 == 0 then slice_index base at else byte) ∷ mixed base (at + 1) bytes

-- the bytes that the crash leaves of a write that isn't durable
abbrev pub variant : ℕ → List ℕ → ℕ → List ℕ → List ℕ
variant pick base at bytes =
    if pick == 2 then replicate (length bytes) 90 else if pick == 3 then mixed base at bytes else bytes

-- the post-crash state after a call on a file in this state
abbrev pub crash_file_after : ℕ → FileState → CrashFile → MemEntry → CrashFile
crash_file_after pick s m (Place _ bytes ok) =
    if ok then record { base = bytes; image = Some bytes }
    else if s.there then m
    else record { base = bytes; image = if pick == 0 then None else Some bytes }
crash_file_after pick s m (WriteAt _ at bytes _) =
    if can_write s at
    then
    (if pick == 0 then m else record m { image = written_over at (variant pick m.base at bytes) m.image })
    else m
crash_file_after pick s m (Sync _ ok) =
    if ok && s.there then record { base = s.bytes; image = Some s.bytes } else m
crash_file_after pick s m (Remove _ ok) =
    if s.there then record m { image = if ok then None else if pick == 0 then m.image else None } else m
crash_file_after pick s m (Preset _ bytes) = record { base = bytes; image = Some bytes }
crash_file_after pick s m call = m

abbrev pub crash_file_step : ℕ → List ℕ → FileState → CrashFile → MemEntry → CrashFile
crash_file_step pick name s m call = if is_on call name then crash_file_after pick s m call else m

abbrev pub make : ℕ → List ℕ → FileState → CrashFile → List MemEntry → CrashFile
make pick name s m [] = m
make pick name s m (call ∷ calls) =
    make pick name (step name s call) (crash_file_step pick name s m call) calls

-- a file that no call was about
abbrev pub no_call_file : CrashFile
no_call_file = record { base = []; image = None }

-- the post-crash state of a name, after these calls
abbrev pub picked : ℕ → List MemEntry → List ℕ → Option (List ℕ)
picked pick calls name = (make pick name absent no_call_file calls).image

-- the length of the prefix with `n` calls; all if there are fewer
abbrev pub reach : ℕ → List MemEntry → ℕ
reach n [] = 0
reach n (call ∷ calls) =
    if is_call call then (if n == 0 then 0 else suc (reach (n - 1) calls)) else suc (reach n calls)

-- the prefix that ends `n` calls after the mark; all if there are fewer
abbrev pub prefix_after_mark : ℕ → ℕ → List MemEntry → List MemEntry
prefix_after_mark mark n calls = take (mark + reach n (drop mark calls)) calls

-- settings of files, and nothing else
abbrev pub file_settings : List MemFile → List MemEntry
file_settings files = map (λ file. Preset file.name file.bytes) files

-- the code's representation of a file and its post-crash state
pub record FileRepresents (s : FileState) (m : CrashFile) (file : ImageFile) : Type 0 where
  pub read : content s ≡ (if file.there then Some file.bytes else None)
  pub base : m.base ≡ file.base
  pub image : m.image ≡ file.image

abbrev pub fits_in : ImageFile → ℕ → Bool
fits_in file at = file.there && leb at (length file.bytes)

-- the representation after a call
abbrev pub acted_file : ℕ → ImageFile → MemEntry → ImageFile
acted_file pick file (Place _ bytes ok) =
    if ok then record { there = true; bytes = bytes; base = bytes; image = Some bytes }
    else if file.there then file
    else record file { base = bytes; image = if pick == 0 then None else Some bytes }
acted_file pick file (WriteAt _ at bytes ok) =
    if fits_in file at
    then record file {
      bytes = if ok then overwritten file.bytes at bytes
          else file.bytes;
      image =
          if pick == 0 then file.image else written_over at (variant pick file.base at bytes) file.image;
    }
    else file
acted_file pick file (Sync _ ok) =
    if ok && file.there then record file { base = file.bytes; image = Some file.bytes } else file
acted_file pick file (Remove _ ok) =
    if file.there
    then record file { there = not ok; image = if ok then None else if pick == 0 then file.image else None }
    else file
acted_file pick file (Preset _ bytes) =
    record { there = true; bytes = bytes; base = bytes; image = Some bytes }
acted_file pick file call = file

-- the setting for a post-crash state
abbrev pub preset_of : List ℕ → Option (List ℕ) → List MemEntry
preset_of name None = []
preset_of name (Some bytes) = Preset name bytes ∷ []

-- the settings for the post-crash states of these files
abbrev pub presets_of : {Z : Type 0} → List (Vec ℕ Z × ImageFile) → List MemEntry
presets_of [] = []
presets_of (entry ∷ entries) = preset_of entry.0.items entry.1.image ++ presets_of entries

abbrev pub no_file : ImageFile
no_file = record { there = false; bytes = []; base = []; image = None }

-- the representation of the file of this name
abbrev pub file_at : {Z : Type 0} → List (Vec ℕ Z × ImageFile) → List ℕ → ImageFile
file_at entries name = unwrap_or (lookup (λ k. bytes_eq name k.items) entries) no_file
