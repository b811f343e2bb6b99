use Rattle.std.proofs.Common.{ℕ, ◌+◌, List, drop, get_or, map, ap, arith}
use Rattle.std.proofs.lemmas.List.{drop_more, drop_all}
use Rattle.fwd_base.specs.declared.ids.OutputId.{OutputId}
use Rattle.fwd_model.specs.Fact.{History, Route}
use Rattle.fwd_model.specs.Settings.{total_limit_at}
use Rattle.fwd_model.specs.Limits.{evictions_to}
use Rattle.fwd_model.specs.CloseActions.{loses}
use Rattle.fwd_model.proofs.Actions.{stays, goes_on, leads_bind, begun_bind, begun_trans}
use Rattle.fwd_model.proofs.Refinement.{refines_err}
use Rattle.fwd_engine_state.specs.Evictions.{evictions_left}
use Rattle.fwd_engine_state.specs.RefinesAction.{with_disk}
use Rattle.fwd_engine_chunks.proofs.ActionResults.{ended, leads_at}
use Rattle.fwd_engine_chunks.proofs.ResolutionFrame.{loses_both}
use Rattle.fwd_engine_chunks.proofs.EvictionIndependence.{Elsewhere, limit_elsewhere, each_still, left_still}
use Rattle.fwd_engine_chunks.proofs.eviction.enforce_limits.Goals as goal

pub returns-in_err-enforce_limit-clause-acts : goal.returns-in_err-enforce_limit-clause-acts
returns-in_err-enforce_limit-clause-acts g c others h shows waits =
    let s = c.args.run.now in
    let n = c.args.chunk.0 in
    let so_far = c.loop-output.invariant.1 others h shows waits in
    let none : OutputId = record { 0 = 0 } in
    let more = drop_more c.args.outputs.now c.loop-output.output-index none c.loop-output-test.true in
    let o : ℕ = (get_or c.args.outputs.now c.loop-output.output-index none).0 in
    let rest : List Route = evictions_left s so_far.0 n (map (λ (x : OutputId). x.0) (drop (c.loop-output.output-index + 1) c.args.outputs.now)) in
    let left = leads_at (rw more at so_far.3) (loses_both s (evictions_to s so_far.0 n o (total_limit_at s o)) rest so_far.0) in
    let idle = (rw more at so_far.2).0 in
    refines_err _ (loses s (evictions_left s h n (map (λ (x : OutputId). x.0) c.args.outputs.now)) h) c.from_residual.result c.from_residual.ensures.0
    (begun_trans left (begun_bind (loses s rest) (c.in_err-enforce_limit.ensures.acts others so_far.0 so_far.1 idle)))

pub loop-output-preserved : goal.loop-output-preserved
loop-output-preserved g c = (
  let before = c.loop-output.invariant.0 in let later = c.in_ok-enforce_limit.ensures.later in omega (arith, before, later),
  λ others h shows waits.
      let s = c.args.run.now in
      let n = c.args.chunk.0 in
      let so_far = c.loop-output.invariant.1 others h shows waits in
      let now : History = so_far.0 in
      let none : OutputId = record { 0 = 0 } in
      let more = drop_more c.args.outputs.now c.loop-output.output-index none c.loop-output-test.true in
      let o : ℕ = (get_or c.args.outputs.now c.loop-output.output-index none).0 in
      let os : List ℕ = map (λ (x : OutputId). x.0) (drop (c.loop-output.output-index + 1) c.args.outputs.now) in
      let rest : List Route = evictions_left s now n os in
      let left = leads_at (rw more at so_far.3) (loses_both s (evictions_to s now n o (total_limit_at s o)) rest now) in
      let each = rw more at so_far.2 in
      let acted = c.in_ok-enforce_limit.ensures.acts others now so_far.1 each.0 in
      let end : History = acted.result in
      let same : Elsewhere s o n now end = ended (Elsewhere s o n now) (loses s (evictions_to s now n o (total_limit_at s o)) now) end acted.did (limit_elsewhere s o n (total_limit_at s o) now so_far.1.state.numbers) in (
        end,
        acted.shows,
        each_still s o n now end os same each.1 each.2,
        goes_on left (leads_at (leads_bind (loses s rest) acted.did (stays (with_disk (g.D.Disk.call_log c.enforce_limit.new.disk) others) _)) (ap (λ (rs : List Route). loses s rs end) (left_still s o n now end os same each.1 each.2))),
      ),
)

pub returns-clause-acts : goal.returns-clause-acts
returns-clause-acts g c others h shows waits =
    let so_far = c.loop-output.invariant.1 others h shows waits in
    let left = rw (drop_all c.loop-output.output-index c.args.outputs.now (omega arith)) at so_far.3 in
    record { result = so_far.0; did = left; shows = so_far.1 }
