use Rattle.std.proofs.Common.{◌≡◌, ◌+◌, ℕ, List, Option, Some, None, true, subst, sym, arith}
use Rattle.std.specs.Prelude.{IfSome}
use Rattle.fwd_outside.specs.Program.{bind}
use Rattle.fwd_retry.specs.declared.timer.Timer.{Timer}
use Rattle.fwd_retry.specs.Timer.{is_after, IsFirst}
use Rattle.fwd_model.specs.Fact.{History}
use Rattle.fwd_model.specs.Dispatch.{route_of}
use Rattle.fwd_model.specs.FlushActions.{walk, starts_if_allowed}
use Rattle.fwd_model.proofs.Actions.{goes_on, leads_bind, stays, begun_bind, begun_trans}
use Rattle.fwd_model.proofs.Refinement.{refines_err}
use Rattle.fwd_engine_state.specs.PartsRepresent.{PartsRepresentIdle}
use Rattle.fwd_engine_state.specs.RefinesAction.{with_both}
use Rattle.fwd_engine_state.proofs.CounterSteps.{as_many, no_event_first, no_event_composed}
use Rattle.fwd_engine_flush.proofs.Turns.{Turned, ended, turned}
use Rattle.fwd_engine_flush.proofs.WalkOrder.{left, candidates, at_first, walk_is, over, next_turn, past_turn, fewer_behind, is_first, is_none}
use Rattle.fwd_engine_flush.proofs.dispatch.walk.Goals as goal

pub dispatch-init : goal.dispatch-init
dispatch-init g c = record {
  unheard = no_event_first (g.L.Loop.counts c.args.outside.now);
  later = as_many (g.L.Loop.faults c.args.outside.now);
  disk_later = as_many (g.D.Disk.faults c.args.disk.now);
  damaged = omega arith;
  walked = λ others h shows. (h, shows, at_first c.args.run.now h, rw (walk_is c.args.run.now h) (stays (with_both (g.L.Loop.call_log c.args.outside.now) (g.D.Disk.call_log c.args.disk.now) others) _));
}

pub returns-in_err-timer-clause-acts : goal.returns-in_err-timer-clause-acts
returns-in_err-timer-clause-acts g c others h shows =
    let so_far = c.dispatch.invariant.walked others h shows in
    refines_err _ (walk c.args.run.now h) c.from_residual.result c.from_residual.ensures.0 (_, so_far.3)

pub returns-in_default-clause-acts : goal.returns-in_default-clause-acts
returns-in_default-clause-acts g c others h shows =
    let s = c.args.run.now in
    let so_far = c.dispatch.invariant.walked others h shows in
    let free = c.free_outputs-free.ensures so_far.0 None so_far.1.state in
    let none = is_none c.in_ok-timer.field-0 (candidates s h c.free_outputs-free.result c.dispatch.last so_far.0 free so_far.2) c.in_default.not-Some (c.in_ok-timer.ensures.next s so_far.0 None so_far.1.state) in
    record {
      result = so_far.0;
      did = rw (over s h c.free_outputs-free.result c.dispatch.last so_far.0 free so_far.2 none) at so_far.3;
      shows = record { state = c.in_ok-timer.ensures.keeps s so_far.0 None so_far.1.state; input_streams = so_far.1.input_streams; followed_files = so_far.1.followed_files; store = so_far.1.store; sound = so_far.1.sound };
    }

pub returns-in_err-start_if_allowed-clause-acts : goal.returns-in_err-start_if_allowed-clause-acts
returns-in_err-start_if_allowed-clause-acts g c others h shows =
    let s = c.args.run.now in
    let t = c.in-Some.timer in
    let so_far = c.dispatch.invariant.walked others h shows in
    let free = c.free_outputs-free.ensures so_far.0 None so_far.1.state in
    let first = is_first c.in_ok-timer.field-0 t (candidates s h c.free_outputs-free.result c.dispatch.last so_far.0 free so_far.2) c.in-Some.is (c.in_ok-timer.ensures.next s so_far.0 None so_far.1.state) in
    let turn = rw (next_turn s h c.free_outputs-free.result c.dispatch.last so_far.0 free so_far.2 t first) at so_far.3 in
    let now : PartsRepresentIdle s _ so_far.0 = record { state = c.in_ok-timer.ensures.keeps s so_far.0 None so_far.1.state; input_streams = so_far.1.input_streams; followed_files = so_far.1.followed_files; store = so_far.1.store; sound = so_far.1.sound } in
    refines_err _ _ c.from_residual-in_err-start_if_allowed.result c.from_residual-in_err-start_if_allowed.ensures.0
    (begun_trans turn (begun_bind (left s h (Some t)) (c.in_err-start_if_allowed.ensures.acts others so_far.0 now)))

pub dispatch-smaller : goal.dispatch-smaller
dispatch-smaller g c =
    let t = c.in-Some.timer in
    let later = subst (λ (o : Option Timer). IfSome o (λ timer. is_after c.dispatch.last timer ≡ true)) c.in-Some.is c.in_ok-timer.ensures.later in
    fewer_behind c.dispatch.last t c.lemma_numbers_fit.ensures later

pub dispatch-preserved : goal.dispatch-preserved
dispatch-preserved g c = record {
  unheard = no_event_composed c.dispatch.invariant.unheard c.in_ok-start_if_allowed.ensures.unheard;
  later = omega (arith, c.dispatch.invariant.later, c.in_ok-start_if_allowed.ensures.later);
  disk_later = omega (arith, c.dispatch.invariant.disk_later, c.in_ok-start_if_allowed.ensures.disk_later);
  damaged = omega (arith, c.dispatch.invariant.damaged, c.in_ok-timer.ensures.damaged, c.in_ok-start_if_allowed.ensures.damaged);
  walked = λ others h shows.
      let s = c.args.run.now in
      let t = c.in-Some.timer in
      let so_far = c.dispatch.invariant.walked others h shows in
      let free = c.free_outputs-free.ensures so_far.0 None so_far.1.state in
      let first = is_first c.in_ok-timer.field-0 t (candidates s h c.free_outputs-free.result c.dispatch.last so_far.0 free so_far.2) c.in-Some.is (c.in_ok-timer.ensures.next s so_far.0 None so_far.1.state) in
      let turn = rw (next_turn s h c.free_outputs-free.result c.dispatch.last so_far.0 free so_far.2 t first) at so_far.3 in
      let now : PartsRepresentIdle s _ so_far.0 = record { state = c.in_ok-timer.ensures.keeps s so_far.0 None so_far.1.state; input_streams = so_far.1.input_streams; followed_files = so_far.1.followed_files; store = so_far.1.store; sound = so_far.1.sound } in
      let acted = c.in_ok-start_if_allowed.ensures.acts others so_far.0 now in
      let base = c.lemma_settings_are_sound.ensures.base in
      let after = ended (Turned s base (route_of t) so_far.0) (starts_if_allowed s (route_of t) so_far.0) acted.did.entries acted.result (turned s base (route_of t) so_far.0) acted.did.way in
      (acted.result, acted.shows, past_turn s h c.free_outputs-free.result c.dispatch.last so_far.0 free so_far.2 t first base acted.result after, goes_on turn (leads_bind (left s h (Some t)) acted.did (stays _ _)));
}
