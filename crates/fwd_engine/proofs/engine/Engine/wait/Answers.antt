use Rattle.std.proofs.Common.{◌≡◌, ℕ, None, ◌∙◌, ap}
use Rattle.fwd_model.specs.Settings.{saturating_plus}
use Rattle.fwd_model.specs.Clock.{clock}
use Rattle.fwd_model.specs.CallLogs.{CallLogs}
use Rattle.fwd_engine.proofs.WaitCalls.{waits_so}
use Rattle.fwd_engine.proofs.engine.Engine.wait.Goals as goal

pub returns-clause-waits : goal.returns-clause-waits
returns-clause-waits g c others s h at =
    let w : CallLogs = record others { loop = g.L.Loop.call_log c.args.outside.now } in
    let until : c.saturating_add-until.result ≡ saturating_plus (clock h) 250 = c.saturating_add-until.ensures ∙ ap (λ (n : ℕ). saturating_plus n 250) (c.clock.ensures s h None at.shows.state) in
    waits_so w _ s h c.saturating_add-until.result c.paused.result c.wait.result until (c.paused.ensures s h at) c.wait.ensures.call_log
