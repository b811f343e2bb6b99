use Rattle.std.proofs.Common.{◌≤◌, ◌-◌, length}
use Rattle.std.specs.List.{range_with_len}
use Rattle.fwd_model.specs.Fact.{History}
use Rattle.fwd_model.specs.CallLogs.{CallLogs, Leads}
use Rattle.fwd_model.specs.InputActions.{polls_all, polls_inputs}
use Rattle.fwd_engine_state.specs.RefinesAction.{with_files}
use Rattle.fwd_engine_state.specs.PartsRepresent.{PartsRepresentIdle}
use Rattle.fwd_engine_ingest.proofs.followed_files.poll_inputs.Given as goal

abbrev pub invariant-loop-input : goal.invariant-loop-input
invariant-loop-input g l =
    (g.D.Disk.faults l.fn.disk ≤ g.D.Disk.faults l.disk) × (g.F.Files.faults l.fn.files ≤ g.F.Files.faults l.files)
    × ((others : CallLogs) (h : History) → PartsRepresentIdle l.run l.fn.parts h → (now : History) × PartsRepresentIdle l.run l.parts now
    × Leads (with_files (g.D.Disk.call_log l.fn.disk) (g.F.Files.call_log l.fn.files) others) (with_files (g.D.Disk.call_log l.disk) (g.F.Files.call_log l.files) others)
    (polls_all l.run h) (polls_inputs l.run (range_with_len l.input (length l.run.inputs - l.input)) now))
