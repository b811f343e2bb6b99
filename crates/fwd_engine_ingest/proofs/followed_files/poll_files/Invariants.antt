use Rattle.std.proofs.Common.{◌≤◌, drop}
use Rattle.fwd_model.specs.Fact.{History}
use Rattle.fwd_model.specs.CallLogs.{CallLogs, Leads}
use Rattle.fwd_model.specs.Settings.{paths_at}
use Rattle.fwd_model.specs.InputActions.{polls_files}
use Rattle.fwd_engine_state.specs.RefinesAction.{with_files}
use Rattle.fwd_engine_state.specs.PartsRepresent.{PartsRepresentIdle}
use Rattle.fwd_engine_ingest.proofs.followed_files.poll_files.Given as goal

abbrev pub invariant-loop-index : goal.invariant-loop-index
invariant-loop-index g l =
    (g.D.Disk.faults l.fn.disk ≤ g.D.Disk.faults l.disk) × (g.F.Files.faults l.fn.files ≤ g.F.Files.faults l.files)
    × ((others : CallLogs) (h : History) → PartsRepresentIdle l.run l.fn.parts h → (now : History) × PartsRepresentIdle l.run l.parts now
    × Leads (with_files (g.D.Disk.call_log l.fn.disk) (g.F.Files.call_log l.fn.files) others) (with_files (g.D.Disk.call_log l.disk) (g.F.Files.call_log l.files) others)
    (polls_files l.run l.input.0 0 (paths_at l.run l.input.0) h) (polls_files l.run l.input.0 l.index (drop l.index (paths_at l.run l.input.0)) now))
