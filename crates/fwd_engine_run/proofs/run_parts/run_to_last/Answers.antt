use Rattle.std.proofs.Common.{Some, None}
use Rattle.fwd_model.specs.CallLogs.{CallLogs}
use Rattle.fwd_model.specs.Run.{after_recovery, starts}
use Rattle.fwd_engine_state.specs.RefinesAction.{with_all}
use Rattle.fwd_engine_run.specs.OffsetRows.{with_keeper}
use Rattle.fwd_engine_run.proofs.OffsetActions.{has_failed, is_done}
use Rattle.fwd_engine_run.proofs.RunParts.{to_last}
use Rattle.fwd_engine_run.proofs.TurnsToLast.{gets_both, gets_fail_both, pause_after}
use Rattle.fwd_engine_run.proofs.run_parts.run_to_last.Goals as goal

pub returns-in-Ok-All-clause-runs : goal.returns-in-Ok-All-clause-runs
returns-in-Ok-All-clause-runs g c others s h at loading keeps =
    let a : CallLogs = with_all (g.L.Loop.call_log c.args.outside.now) (g.D.Disk.call_log c.args.disk.now) (g.F.Files.call_log c.args.files.now) (with_keeper (g.K.Keeper.call_log c.args.keeper.now) others) in
    let others' : CallLogs = with_all (g.L.Loop.call_log c.args.outside.now) (g.D.Disk.call_log c.args.disk.now) (g.F.Files.call_log c.args.files.now) others in
    let ends = c.args.ends.now in
    let ticks = c.args.ticks in
    let most = c.args.most in
    let got = rw c.in-Ok-All.field-0-is at (c.in-Ok-All.ensures.gets others' s h has_failed is_done at loading keeps) in
    to_last a _ s ends ticks most h c.start.new.engine c.start.new.offsets c.start.result
    (pause_after a _ _ s ticks (after_recovery s ends ticks most (Some h)) (after_recovery s ends None most (Some h)) (starts s ends ticks most got.0) (starts s ends None most got.0) c.start.new.engine c.start.new.offsets c.start.result
    (gets_both a _ s (starts s ends ticks most) (starts s ends None most) h got.0 got.3) (c.start.ensures.runs others s got.0 got.1 got.2))

pub returns-in-Ok-Failed-clause-runs : goal.returns-in-Ok-Failed-clause-runs
returns-in-Ok-Failed-clause-runs g c others s h at loading keeps =
    let a : CallLogs = with_all (g.L.Loop.call_log c.args.outside.now) (g.D.Disk.call_log c.args.disk.now) (g.F.Files.call_log c.args.files.now) (with_keeper (g.K.Keeper.call_log c.args.keeper.now) others) in
    let others' : CallLogs = with_all (g.L.Loop.call_log c.args.outside.now) (g.D.Disk.call_log c.args.disk.now) (g.F.Files.call_log c.args.files.now) others in
    let ends = c.args.ends.now in
    let ticks = c.args.ticks in
    let most = c.args.most in
    let got = rw c.in-Ok-Failed.field-0-is at (c.in-Ok-Failed.ensures.gets others' s h has_failed is_done at loading keeps) in
    let both = gets_fail_both a _ s (starts s ends ticks most) (starts s ends None most) h got.0 got.1 in
    record { history = got.0; entries = both.entries; asked = both.asked; with_ticks = both.with_ticks; without = both.without; at = tt }

pub returns-in-Err-clause-runs : goal.returns-in-Err-clause-runs
returns-in-Err-clause-runs g c others s h at loading keeps =
    let others' : CallLogs = with_all (g.L.Loop.call_log c.args.outside.now) (g.D.Disk.call_log c.args.disk.now) (g.F.Files.call_log c.args.files.now) others in
    c.in-Err.ensures.gets others' s h has_failed (starts s c.args.ends.now c.args.ticks c.args.most) at loading keeps
