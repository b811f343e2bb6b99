use Rattle.std.proofs.Common.{◌+◌, ◌≤◌, length}
use Rattle.fwd_outside.specs.Log.{Leads}
use Rattle.fwd_config.specs.Line.{lines_of}
use Rattle.fwd_config.specs.Variables.{Values}
use Rattle.fwd_config.specs.Text.{Text}
use Rattle.fwd_config.specs.Sections.{reads_files, with_file, with_lines}
use Rattle.fwd_config.specs.Representation.{OutlineRepresents}
use Rattle.fwd_config.proofs.loader.+read_file.Given as goal

abbrev pub decreases-read_file : goal.decreases-read_file
decreases-read_file g l = l.may_open

-- the lines so far are read, and the rest is still to be read
abbrev pub invariant-lines : goal.invariant-lines
invariant-lines g l =
    ((env : Values) (above : Text) → OutlineRepresents env above l.fn.outline
    → (text : Text) × OutlineRepresents env text l.outline
    × Leads (g.F.Files.call_log l.fn.files) (g.F.Files.call_log l.files) (reads_files (with_file env l.may_open l.file above))
    (reads_files (with_lines env l.includes_left (with_file env l.includes_left) l.file (l.number + 1) (lines_of l.rest) text)))
    × (l.number + length l.rest ≤ length l.initial.rest)
    × (g.F.Files.faults l.fn.files ≤ g.F.Files.faults l.files)

abbrev pub decreases-lines : goal.decreases-lines
decreases-lines g l = length l.rest
