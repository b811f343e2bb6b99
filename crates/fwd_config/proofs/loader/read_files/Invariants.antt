use Rattle.std.proofs.Common.{◌≤◌, drop}
use Rattle.fwd_outside.specs.Log.{Leads}
use Rattle.fwd_config.specs.Variables.{Values}
use Rattle.fwd_config.specs.Text.{Text}
use Rattle.fwd_config.specs.Sections.{reads_files, with_files}
use Rattle.fwd_config.specs.Representation.{OutlineRepresents}
use Rattle.fwd_config.proofs.loader.read_files.Given as goal

-- the files so far are read, and the rest is still to be read
abbrev pub invariant-loop-name : goal.invariant-loop-name
invariant-loop-name g l =
    ((env : Values) (above : Text) → OutlineRepresents env above l.fn.outline
    → (text : Text) × OutlineRepresents env text l.outline
    × Leads (g.F.Files.call_log l.fn.files) (g.F.Files.call_log l.files) (reads_files (with_files env 8 l.names above)) (reads_files (with_files env 8 (drop l.name-index l.names) text)))
    × (g.F.Files.faults l.fn.files ≤ g.F.Files.faults l.files)
