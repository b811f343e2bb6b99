use Rattle.std.proofs.Common.{◌≡◌, ◌+◌, ◌-◌, ◌<◌, length, arith}
use Rattle.std.specs.List.{range_with_len}
use Rattle.fwd_model.specs.InputActions.{polls_inputs}
use Rattle.fwd_model.proofs.Actions.{stays, goes_on, leads_inside, begun_bind, begun_trans}
use Rattle.fwd_engine_state.proofs.CounterSteps.{as_many}
use Rattle.fwd_engine_ingest.proofs.StreamFactSteps.{acts_end}
use Rattle.fwd_engine_ingest.proofs.FilePolls.{all_follow, range_step, range_none}
use Rattle.fwd_engine_ingest.proofs.followed_files.poll_inputs.Goals as goal

pub loop-input-init : goal.loop-input-init
loop-input-init g c = (
  as_many (g.D.Disk.faults c.args.disk.now),
  as_many (g.F.Files.faults c.args.files.now),
  λ others h shows. (h, shows, rw (all_follow c.args.run.now h) (stays _ _)),
)

pub returns-in_err-poll_input-clause-acts : goal.returns-in_err-poll_input-clause-acts
returns-in_err-poll_input-clause-acts g c others h shows =
    let s = c.args.run.now in
    let n = length s.inputs in
    let i = c.loop-input.input in
    let within : i < n = omega arith in
    let so_far = c.loop-input.invariant.2 others h shows in
    let left = rw (range_step i n within) at so_far.2 in
    acts_end s _ _ c.from_residual.result c.from_residual.ensures.0
    (begun_trans left (begun_bind (polls_inputs s (range_with_len (i + 1) (n - (i + 1)))) (c.in_err-poll_input.ensures.acts others so_far.0 so_far.1)))

pub loop-input-preserved : goal.loop-input-preserved
loop-input-preserved g c = (
  omega arith,
  omega arith,
  λ others h shows.
      let s = c.args.run.now in
      let n = length s.inputs in
      let i = c.loop-input.input in
      let within : i < n = omega arith in
      let so_far = c.loop-input.invariant.2 others h shows in
      let left = rw (range_step i n within) at so_far.2 in
      let acted = c.in_ok-poll_input.ensures.acts others so_far.0 so_far.1 in
      (acted.result, acted.shows, goes_on left (leads_inside (polls_inputs s (range_with_len (i + 1) (n - (i + 1)))) acted.did)),
)

pub returns-clause-acts : goal.returns-clause-acts
returns-clause-acts g c others h shows =
    let s = c.args.run.now in
    let n = length s.inputs in
    let i = c.loop-input.input in
    let last : n ≡ i = omega arith in
    let so_far = c.loop-input.invariant.2 others h shows in
    let left = rw (range_none i n last) at so_far.2 in
    record { result = so_far.0; did = left; shows = so_far.1 }
