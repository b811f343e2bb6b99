use Rattle.std.proofs.Common.{true, ap, sym, refl, ◌∙◌, arith}
use Rattle.std.specs.Prelude.{is_some}
use Rattle.fwd_secure.specs.Rules.{waits}
use Rattle.fwd_secure.proofs.KeptLists.{holds-first, first_allowed}
use Rattle.fwd_secure.proofs.MaskBits.{kept_allowed}
use Rattle.fwd_secure.proofs.Waits.{event_allowed, event_fails, no_kept_failure}
use Rattle.fwd_secure.proofs.EventCalls.{readable}
use Rattle.fwd_secure.proofs.AllowedCalls.{kept_runs, came_allowed, none_allowed, cut_allowed}
use Rattle.fwd_secure.proofs.CallCounts.{wait_gives, wait_asks, wait_brings, no_cause, cause_of}
use Rattle.fwd_secure.proofs.rules.wait_keyed.Goals as goal

pub returns-in-Some-clause-calls : goal.returns-in-Some-clause-calls
returns-in-Some-clause-calls g c =
    kept_runs c.args.keys.now c.args.state.now c.args.until c.args.paused _ c.in-Some.bytes _ _ c.in-Some.ensures.first c.into_event.ensures c.in-Some.ensures.rest

pub returns-in-Some-clause-cause : goal.returns-in-Some-clause-cause
returns-in-Some-clause-cause g c = no_cause _ _ _ (omega arith) (λ is. no_kept_failure c.in-Some.bytes (sym c.into_event.ensures ∙ is))

pub returns-in-Some-clause-counted : goal.returns-in-Some-clause-counted
returns-in-Some-clause-counted g c = wait_gives _ _ _ _ (holds-first c.args.paused c.args.state.now.kept ∙ ap is_some (sym c.in-Some.ensures.first)) refl

pub returns-in-Some-clause-allowed : goal.returns-in-Some-clause-allowed
returns-in-Some-clause-allowed g c =
    rw c.into_event.ensures (kept_allowed _ c.args.paused c.in-Some.bytes (first_allowed c.args.paused c.args.state.now.kept c.in-Some.bytes (sym c.in-Some.ensures.first)) c.in-Some.ensures.piece)

pub returns-in_err-brought-in-None-clause-calls : goal.returns-in_err-brought-in-None-clause-calls
returns-in_err-brought-in-None-clause-calls g c =
    cut_allowed _ _ (waits c.args.keys.now c.args.state.now c.args.until c.args.paused) c.from_residual.result _ c.from_residual.ensures.0
    (none_allowed _ _ (waits c.args.keys.now c.args.state.now c.args.until c.args.paused) c.in_err-brought-in-None.ensures.call_log)

pub bring-requires-clause-piece : goal.bring-requires-clause-piece
bring-requires-clause-piece g c = readable _ c.args.paused c.in_ok-brought-in-None.brought c.in_ok-brought-in-None.ensures.allowed

pub returns-in_ok-brought-in-None-clause-calls : goal.returns-in_ok-brought-in-None-clause-calls
returns-in_ok-brought-in-None-clause-calls g c =
    came_allowed c.args.keys.now c.args.state.now c.args.until c.args.paused _ c.in-None.ensures.first _ _ _ c.in_ok-brought-in-None.brought _ c.in_ok-brought-in-None.ensures.call_log
    c.in_ok-brought-in-None.ensures.allowed (rw c.in-None.ensures.none at c.bring.ensures.calls)

pub returns-in_ok-brought-in-None-clause-cause : goal.returns-in_ok-brought-in-None-clause-cause
returns-in_ok-brought-in-None-clause-cause g c =
    cause_of _ _ _ _ _ c.in_ok-brought-in-None.ensures.cause c.bring.ensures.later
    (event_fails true c.args.paused c.args.keys.now _ c.in_ok-brought-in-None.brought _ _ _ c.bring.result c.bring.ensures.calls)

pub returns-in_ok-brought-in-None-clause-counted : goal.returns-in_ok-brought-in-None-clause-counted
returns-in_ok-brought-in-None-clause-counted g c =
    wait_asks _ _ _ _ (holds-first c.args.paused c.args.state.now.kept ∙ ap is_some (sym c.in-None.ensures.first)) (wait_brings _ _ _ c.bring.result c.in_ok-brought-in-None.ensures.counted c.bring.ensures.same)

pub returns-in_ok-brought-in-None-clause-allowed : goal.returns-in_ok-brought-in-None-clause-allowed
returns-in_ok-brought-in-None-clause-allowed g c =
    event_allowed _ c.args.paused c.args.keys.now _ c.in_ok-brought-in-None.brought _ _ _ c.bring.result c.bring.ensures.calls c.in_ok-brought-in-None.ensures.allowed
