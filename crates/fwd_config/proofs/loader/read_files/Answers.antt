use Rattle.std.proofs.Common.{◌≡◌, [], drop, arith}
use Rattle.std.proofs.lemmas.Result.{err_from_is_err_and}
use Rattle.std.proofs.lemmas.List.{drop_all}
use Rattle.fwd_config.proofs.Steps.{name_reads, name_refused}
use Rattle.fwd_config.proofs.loader.read_files.Goals as goal

pub returns-in_err-read_file-clause-calls : goal.returns-in_err-read_file-clause-calls
returns-in_err-read_file-clause-calls g c = λ env above shows.
    let so_far = c.loop-name.invariant.0 env above shows in
    let p = err_from_is_err_and c.from_residual.result c.from_residual.ensures.1 in
    rw (p.1, p.2)
    (name_refused _ _ _ env 8 c.args.names.now c.loop-name.name-index c.name-item.result (rw (← c.as_slice-name-items.ensures) c.loop-name-test.true) (rw (← c.as_slice-name-items.ensures) c.name-item.is) so_far.0 so_far.2
    _ c.in_err-read_file.field-0.0 (rw c.as_slice.ensures at (c.in_err-read_file.ensures.calls env so_far.0 so_far.1)))

pub loop-name-preserved : goal.loop-name-preserved
loop-name-preserved g c = (
  (λ env above shows.
      let so_far = c.loop-name.invariant.0 env above shows in
      let read = rw c.as_slice.ensures at (c.in_ok-read_file.ensures.calls env so_far.0 so_far.1) in (
        read.0,
        read.2,
        name_reads _ _ _ env 8 c.args.names.now c.loop-name.name-index c.name-item.result (rw (← c.as_slice-name-items.ensures) c.loop-name-test.true) (rw (← c.as_slice-name-items.ensures) c.name-item.is) so_far.0 so_far.2
            _ read.0 read.1,
      )),
  omega (arith, c.loop-name.invariant.1, c.in_ok-read_file.ensures.cause.later),
)

pub returns-clause-calls : goal.returns-clause-calls
returns-clause-calls g c = λ env above shows.
    let so_far = c.loop-name.invariant.0 env above shows in
    let over : drop c.loop-name.name-index c.args.names.now ≡ [] = drop_all c.loop-name.name-index c.args.names.now (rw (← c.as_slice-name-items.ensures) c.loop-name-test.false) in
    (so_far.0, rw over at so_far.2, so_far.1)
