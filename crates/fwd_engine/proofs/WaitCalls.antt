-- The result of a wait and of a turn.
use Rattle.std.proofs.Common.{◌≡◌, ℕ, Result, Ok, Err, inl, subst}
use Rattle.fwd_outside.specs.Program.{Return, Ask}
use Rattle.fwd_outside.specs.Log.{LogGrew, log_of_call}
use Rattle.fwd_outside.specs.Loop.{LoopLog, Wait, loop_outcome}
use Rattle.fwd_outside.specs.declared.happening.Happening.{Happening}
use Rattle.fwd_base.specs.declared.memory.Memory.{Memory}
use Rattle.fwd_settings.specs.declared.settings_types.AllSettings.{AllSettings}
use Rattle.fwd_model.specs.Fact.{History}
use Rattle.fwd_model.specs.Trace.{OnLoop}
use Rattle.fwd_model.specs.CallLogs.{CallLogs, Completes}
use Rattle.fwd_model.specs.Settings.{saturating_plus}
use Rattle.fwd_model.specs.Clock.{clock}
use Rattle.fwd_model.specs.Limits.{paused}
use Rattle.fwd_model.proofs.Refinement.{loop_called, loop_uncalled}
use Rattle.fwd_engine.specs.declared.engine.Engine.{Engine}
use Rattle.fwd_engine.specs.declared.engine.EngineStop.{EngineStop}
use Rattle.fwd_engine.specs.declared.engine.EngineStop.TheVariants as stop
use Rattle.fwd_engine.specs.declared.engine.Turn.{Turn}
use Rattle.fwd_engine.specs.EngineSteps.{Turned, TurnOutcome, WaitOutcome, waits}

-- one call, until this clock value and with this mask
pub waits_so : (w : CallLogs) (new : LoopLog) (s : AllSettings) (h : History) (until mask : ℕ) (r : Result Happening Memory) → until ≡ saturating_plus (clock h) 250 → mask ≡ paused s h
    → LogGrew w.loop new (log_of_call (Wait until mask) (loop_outcome r)) → WaitOutcome w (record w { loop = new }) s h r
waits_so w new s h until mask (Ok brought) at is grew =
    let b : CallLogs = record w { loop = new } in
    let called : Completes w b (Ask (OnLoop (Wait until mask)) (λ x. Return x)) brought = loop_called w new (Wait until mask) brought (λ x. Return x) grew in
    let timed : Completes w b (Ask (OnLoop (Wait (saturating_plus (clock h) 250) mask)) (λ x. Return x)) brought = subst (λ (n : ℕ). Completes w b (Ask (OnLoop (Wait n mask)) (λ x. Return x)) brought) at called in
    subst (λ (n : ℕ). Completes w b (Ask (OnLoop (Wait (saturating_plus (clock h) 250) n)) (λ x. Return x)) brought) is timed
waits_so w new s h until mask (Err e) at is grew = (waits s h, loop_uncalled w new (waits s h) grew)

pub turns_of : (a b : CallLogs) (s : AllSettings) (h : History) (after : Engine) (result : Result Turn EngineStop) → Turned a b s h after result → TurnOutcome a b s h after result
turns_of a b s h after (Ok turn) is = is
turns_of a b s h after (Err stop.LoopFault) is = is
turns_of a b s h after (Err stop.Memory) is = inl is
