-- Actions of recovery: a run starts with the chunks in the storage folder.
use Rattle.std.specs.Prelude.{ℕ, ◌+◌, List, [], ◌∷◌, Option, Some, None}
use Rattle.fwd_outside.specs.Program.{Return, bind}
use Rattle.fwd_backlog.specs.declared.file_read.FileRead.{FileRead}
use Rattle.fwd_backlog.specs.LoadProgram.{load_program}
use Rattle.fwd_settings.specs.declared.settings_types.AllSettings.{AllSettings}
use Rattle.fwd_model.specs.Fact.{History, Found}
use Rattle.fwd_model.specs.Trace.{Action}
use Rattle.fwd_model.specs.DeviceActions.{on_disk}
use Rattle.fwd_model.specs.Notes.{note_then}

-- Log each file with its number, which counts from 1. Refused files count too.
abbrev pub notes_files : ℕ → List FileRead → History → Action (Option History)
notes_files number [] h = Return (Some h)
notes_files number (read ∷ reads) h =
    note_then (Found number read.file.stream read.file.name read.bytes) h (notes_files (number + 1) reads)

-- none if a disk call failed
abbrev pub loaded : Option (List FileRead) → Action (Option History)
loaded None = Return None
loaded (Some reads) = notes_files 1 reads []

-- without a storage folder nothing is loaded
abbrev pub loads_from : Option (List ℕ) → Action (Option History)
loads_from None = Return (Some [])
loads_from (Some root) = bind (on_disk (load_program root)) loaded

unfoldable pub recovers : AllSettings → Action (Option History)
recovers s = loads_from s.service.path
