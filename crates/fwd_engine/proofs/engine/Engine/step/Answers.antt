use Rattle.std.proofs.Common.{subst}
use Rattle.fwd_settings.specs.Requirements.{MeetsRequirements}
use Rattle.fwd_model.specs.CallLogs.{CallLogs}
use Rattle.fwd_engine_state.specs.RefinesAction.{with_all}
use Rattle.fwd_theorem_trace.specs.Past.{logged}
use Rattle.fwd_engine.proofs.CrashSafety.{steps_safely}
use Rattle.fwd_engine.proofs.engine.Engine.step.Goals as goal

pub returns-clause-safe : goal.returns-clause-safe
returns-clause-safe g c others s first m full fresh lives due =
    let a : CallLogs = with_all (g.L.Loop.call_log c.args.outside.now) (g.D.Disk.call_log c.args.disk.now) (g.F.Files.call_log c.args.files.now) others in
    let b : CallLogs = with_all (g.L.Loop.call_log c.take.new.outside) (g.D.Disk.call_log c.take.new.disk) (g.F.Files.call_log c.take.new.files) others in
    let settings : MeetsRequirements s = subst MeetsRequirements lives.at.settings c.lemma_settings_are_sound.ensures in
    steps_safely s settings full first fresh a b m lives.come c.args.happening c.take.new.self c.take.result due (c.take.ensures.steps others s (logged m.past) lives.at)
