use Rattle.std.proofs.Common.{Err, inr, subst}
use Rattle.fwd_settings.specs.Requirements.{MeetsRequirements}
use Rattle.fwd_theorem_trace.specs.Past.{logged}
use Rattle.fwd_model.specs.CallLogs.{CallLogs}
use Rattle.fwd_engine_state.specs.RefinesAction.{with_all}
use Rattle.fwd_engine.specs.declared.engine.EngineStop.TheVariants as stop
use Rattle.fwd_engine.proofs.WaitCalls.{turns_of}
use Rattle.fwd_engine.proofs.CrashSafety.{turns_safely}
use Rattle.fwd_engine.proofs.engine.Engine.turn.Goals as goal

pub returns-in-Ok-clause-turns : goal.returns-in-Ok-clause-turns
returns-in-Ok-clause-turns g c others s h at =
    let a : CallLogs = with_all (g.L.Loop.call_log c.args.outside.now) (g.D.Disk.call_log c.args.disk.now) (g.F.Files.call_log c.args.files.now) others in
    let between : CallLogs = with_all (g.L.Loop.call_log c.wait.new.outside) (g.D.Disk.call_log c.args.disk.now) (g.F.Files.call_log c.args.files.now) others in
    turns_of _ _ s h _ c.take.result (record { brought = c.in-Ok.happening; between = between; waited = c.in-Ok.ensures.waits a s h at; steps = c.take.ensures.steps others s h at })

pub returns-in-Err-clause-turns : goal.returns-in-Err-clause-turns
returns-in-Err-clause-turns g c others s h at =
    let a : CallLogs = with_all (g.L.Loop.call_log c.args.outside.now) (g.D.Disk.call_log c.args.disk.now) (g.F.Files.call_log c.args.files.now) others in
    inr (c.in-Err.ensures.waits a s h at)

pub returns-in-Ok-clause-safe : goal.returns-in-Ok-clause-safe
returns-in-Ok-clause-safe g c others s first m full fresh lives =
    let a : CallLogs = with_all (g.L.Loop.call_log c.args.outside.now) (g.D.Disk.call_log c.args.disk.now) (g.F.Files.call_log c.args.files.now) others in
    let b : CallLogs = with_all (g.L.Loop.call_log c.take.new.outside) (g.D.Disk.call_log c.take.new.disk) (g.F.Files.call_log c.take.new.files) others in
    let settings : MeetsRequirements s = subst MeetsRequirements lives.at.settings c.lemma_settings_are_sound.ensures in
    turns_safely s settings full first fresh a b m lives.come c.take.new.self c.take.result (returns-in-Ok-clause-turns g c others s (logged m.past) lives.at)

pub returns-in-Err-clause-safe : goal.returns-in-Err-clause-safe
returns-in-Err-clause-safe g c others s first m full fresh lives =
    let a : CallLogs = with_all (g.L.Loop.call_log c.args.outside.now) (g.D.Disk.call_log c.args.disk.now) (g.F.Files.call_log c.args.files.now) others in
    let b : CallLogs = with_all (g.L.Loop.call_log c.wait.new.outside) (g.D.Disk.call_log c.args.disk.now) (g.F.Files.call_log c.args.files.now) others in
    let settings : MeetsRequirements s = subst MeetsRequirements lives.at.settings c.lemma_settings_are_sound.ensures in
    turns_safely s settings full first fresh a b m lives.come c.args.self.now (Err stop.Memory) (returns-in-Err-clause-turns g c others s (logged m.past) lives.at)
