use Rattle.fwd_model.specs.CallLogs.{CallLogs}
use Rattle.fwd_engine_state.specs.RefinesAction.{with_disk}
use Rattle.fwd_engine.proofs.CrashSafety.{begins_safely}
use Rattle.fwd_engine.proofs.engine.Engine.begin.Goals as goal

pub returns-clause-safe : goal.returns-clause-safe
returns-clause-safe g c others first full fresh =
    let a : CallLogs = with_disk (g.D.Disk.call_log c.args.disk.now) others in
    let b : CallLogs = with_disk (g.D.Disk.call_log c.begin_inner.new.disk) others in
    begins_safely c.args.settings c.requires full first fresh a b c.begin_inner.result (c.begin_inner.ensures.begins others)
