use Rattle.std.proofs.Common.{◌≡◌, ◌+◌, ◌<◌, [], length, get_or, drop, Some, arith}
use Rattle.std.specs.Prelude.{slice_get}
use Rattle.std.proofs.lemmas.Option.{slice_get-get_or}
use Rattle.std.proofs.lemmas.List.{drop_more, drop_all}
use Rattle.fwd_model.specs.Settings.{paths_at}
use Rattle.fwd_model.specs.InputActions.{polls_files}
use Rattle.fwd_model.proofs.Actions.{stays, goes_on, leads_inside, begun_bind, begun_trans}
use Rattle.fwd_engine_state.proofs.CounterSteps.{as_many}
use Rattle.fwd_engine_ingest.proofs.StreamFactSteps.{acts_end}
use Rattle.fwd_engine_ingest.proofs.followed_files.poll_files.Goals as goal

pub loop-index-init : goal.loop-index-init
loop-index-init g c = (as_many (g.D.Disk.faults c.args.disk.now), as_many (g.F.Files.faults c.args.files.now), λ others h shows. (h, shows, stays _ _))

pub returns-in_err-poll_file-clause-acts : goal.returns-in_err-poll_file-clause-acts
returns-in_err-poll_file-clause-acts g c others h shows =
    let s = c.args.run.now in
    let k = c.args.input.0 in
    let i = c.loop-index.index in
    let paths = paths_at s k in
    let all : c.paths-index-end.result ≡ length paths = c.paths-index-end.ensures s h shows.followed_files in
    let within : i < length paths = omega (arith, all, c.loop-index-test.true) in
    let path = get_or paths i [] in
    let here : slice_get paths i ≡ Some path = slice_get-get_or paths i [] within in
    let so_far = c.loop-index.invariant.2 others h shows in
    let left = rw (drop_more paths i [] within) at so_far.2 in
    acts_end s _ _ c.from_residual.result c.from_residual.ensures.0
    (begun_trans left (begun_bind (polls_files s k (i + 1) (drop (i + 1) paths)) (c.in_err-poll_file.ensures.acts path here others so_far.0 so_far.1)))

pub loop-index-preserved : goal.loop-index-preserved
loop-index-preserved g c = (
  omega arith,
  omega arith,
  λ others h shows.
      let s = c.args.run.now in
      let k = c.args.input.0 in
      let i = c.loop-index.index in
      let paths = paths_at s k in
      let all : c.paths-index-end.result ≡ length paths = c.paths-index-end.ensures s h shows.followed_files in
      let within : i < length paths = omega (arith, all, c.loop-index-test.true) in
      let path = get_or paths i [] in
      let here : slice_get paths i ≡ Some path = slice_get-get_or paths i [] within in
      let so_far = c.loop-index.invariant.2 others h shows in
      let left = rw (drop_more paths i [] within) at so_far.2 in
      let acted = c.in_ok-poll_file.ensures.acts path here others so_far.0 so_far.1 in
      (acted.result, acted.shows, goes_on left (leads_inside (polls_files s k (i + 1) (drop (i + 1) paths)) acted.did)),
)

pub returns-clause-acts : goal.returns-clause-acts
returns-clause-acts g c others h shows =
    let s = c.args.run.now in
    let k = c.args.input.0 in
    let i = c.loop-index.index in
    let paths = paths_at s k in
    let all : c.paths-index-end.result ≡ length paths = c.paths-index-end.ensures s h shows.followed_files in
    let so_far = c.loop-index.invariant.2 others h shows in
    let left = rw (drop_all i paths (omega (arith, all, c.loop-index-test.false))) at so_far.2 in
    record { result = so_far.0; did = left; shows = so_far.1 }
