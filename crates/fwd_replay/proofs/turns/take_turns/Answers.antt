use Rattle.std.proofs.Common.{◌≡◌, true, false, Option, None, Ok, Err, subst, refl, ap, ◌∙◌}
use Rattle.fwd_script.specs.declared.schedule.Cut.{Cut}
use Rattle.fwd_engine_run.specs.EngineSteps.{as_turn}
use Rattle.fwd_engine_run.specs.EngineStop.TheVariants as stop
use Rattle.fwd_engine_run.specs.Turn.{Turn}
use Rattle.fwd_engine_run.specs.Turn.TheVariants as turn
use Rattle.fwd_replay.specs.RunState.{HasPut, IsReady, Turned}
use Rattle.fwd_replay.proofs.turns.take_turns.Goals as goal

pub returns-then-is_over-clause-ended : goal.returns-then-is_over-clause-ended
returns-then-is_over-clause-ended g c s start under =
    let life = c.args.life.now in
    let ready : IsReady s start life c.prepare.new.going c.loop.disk c.prepare.new.files c.loop.keeper None =
    subst (λ (cut : Option Cut). IsReady s start life c.prepare.new.going c.loop.disk c.prepare.new.files c.loop.keeper cut) c.in_default.is (c.in_ok-cut.ensures.ready s start c.loop.disk c.loop.keeper (c.loop.invariant.1 s start under))
    in
    let which : c.in-Ok.turn ≡ turn.Over = c.is_over.ensures ∙ ap as_turn c.if-is_over.true in
    subst (λ (w : Turn). HasPut s start life c.put_offsets.new.going c.take.new.disk c.take.new.files c.put_offsets.new.keeper w) which
    (c.in_ok-put_offsets-in-Ok.ensures.put s start life c.take.new.disk c.take.new.files c.in-Ok.turn (c.in-Ok.ensures.turned s start life ready))

pub returns-in-Err-LoopFault-clause-ended : goal.returns-in-Err-LoopFault-clause-ended
returns-in-Err-LoopFault-clause-ended g c s start under =
    let life = c.args.life.now in
    let ready : IsReady s start life c.prepare.new.going c.loop.disk c.prepare.new.files c.loop.keeper None =
    subst (λ (cut : Option Cut). IsReady s start life c.prepare.new.going c.loop.disk c.prepare.new.files c.loop.keeper cut) c.in_default.is (c.in_ok-cut.ensures.ready s start c.loop.disk c.loop.keeper (c.loop.invariant.1 s start under))
    in
    let turned : Turned s start life c.take.new.going c.take.new.disk c.take.new.files c.loop.keeper (Err stop.LoopFault) = rw c.in-Err-LoopFault.field-0-is at (c.in-Err-LoopFault.ensures.turned s start life ready) in
    turned
