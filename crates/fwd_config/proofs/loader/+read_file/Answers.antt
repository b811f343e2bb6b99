use Rattle.std.proofs.Common.{◌≡◌, ◌+◌, ◌-◌, [], ◌++◌, arith}
use Rattle.std.proofs.lemmas.Result.{err_from_is_err_and}
use Rattle.fwd_config.specs.Line.{lines_of}
use Rattle.fwd_config.specs.Sections.{with_file}
use Rattle.fwd_config.proofs.Lines.{no_line}
use Rattle.fwd_config.proofs.Steps.{content_refused, content_read, line_adds, line_includes, include_refused, line_refused}
use Rattle.fwd_config.proofs.loader.+read_file.Goals as goal

pub returns-in_err-content-clause-calls : goal.returns-in_err-content-clause-calls
returns-in_err-content-clause-calls g t c = λ env above shows.
    let p = err_from_is_err_and c.from_residual.result c.from_residual.ensures.1 in
    rw (p.1, p.2) (content_refused _ _ env c.args.may_open c.requires c.args.file.now above c.in_err-content.field-0.0 c.in_err-content.ensures.calls)

pub lines-init : goal.lines-init
lines-init g t c = (
  (λ env above shows. (above, shows, rw c.as_slice-rest.ensures (content_read _ _ env c.args.may_open c.requires c.args.file.now above c.in_ok-content.content c.in_ok-content.ensures.calls))),
  omega arith,
  c.in_ok-content.ensures.cause.later,
)

pub lines-preserved-in-Ok-None : goal.lines-preserved-in-Ok-None
lines-preserved-in-Ok-None g t c = (
  (λ env above shows.
      let so_far = c.lines.invariant.0 env above shows in
      let taken = rw c.in-Ok-None.field-0-is at (c.in-Ok-None.ensures.meaning env so_far.0 so_far.1) in (
        so_far.0 ++ taken.0,
        taken.2,
        line_adds _ _ _ env (c.args.may_open - 1) (with_file env (c.args.may_open - 1)) c.args.file.now (c.lines.number + 1) c.first_line.result.0.now (lines_of c.first_line.result.1.now) so_far.0
            (rw c.first_line.ensures.first at so_far.2) taken.0 taken.1,
      )),
  omega (arith, c.lines.invariant.1, c.first_line.ensures.shorter),
  c.lines.invariant.2,
)

pub returns-in_err-read_file-in-Ok-Some-clause-calls : goal.returns-in_err-read_file-in-Ok-Some-clause-calls
returns-in_err-read_file-in-Ok-Some-clause-calls g t c = λ env above shows.
    let so_far = c.lines.invariant.0 env above shows in
    let taken = rw c.in-Ok-Some.field-0-is at (c.in-Ok-Some.ensures.meaning env so_far.0 so_far.1) in
    let p = err_from_is_err_and c.from_residual-in_err-read_file-in-Ok-Some.result c.from_residual-in_err-read_file-in-Ok-Some.ensures.1 in
    rw (p.1, p.2)
    (include_refused _ _ _ env (c.args.may_open - 1) (with_file env (c.args.may_open - 1)) c.args.file.now (c.lines.number + 1) c.first_line.result.0.now (lines_of c.first_line.result.1.now) so_far.0
    (rw c.first_line.ensures.first at so_far.2) _ c.in-Ok-Some.included c.in_err-read_file-in-Ok-Some.field-0.0 taken.0
    (rw c.as_slice.ensures at (c.in_err-read_file-in-Ok-Some.ensures.calls env so_far.0 taken.1)))

pub lines-preserved : goal.lines-preserved
lines-preserved g t c = (
  (λ env above shows.
      let so_far = c.lines.invariant.0 env above shows in
      let taken = rw c.in-Ok-Some.field-0-is at (c.in-Ok-Some.ensures.meaning env so_far.0 so_far.1) in
      let read = rw c.as_slice.ensures at (c.in_ok-read_file-in-Ok-Some.ensures.calls env so_far.0 taken.1) in (
        read.0,
        read.2,
        line_includes _ _ _ env (c.args.may_open - 1) (with_file env (c.args.may_open - 1)) c.args.file.now (c.lines.number + 1) c.first_line.result.0.now (lines_of c.first_line.result.1.now) so_far.0
            (rw c.first_line.ensures.first at so_far.2) _ c.in-Ok-Some.included read.0 taken.0 read.1,
      )),
  omega (arith, c.lines.invariant.1, c.first_line.ensures.shorter),
  omega (arith, c.lines.invariant.2, c.in_ok-read_file-in-Ok-Some.ensures.cause.later),
)

pub returns-in-Err-clause-calls : goal.returns-in-Err-clause-calls
returns-in-Err-clause-calls g t c = λ env above shows.
    let so_far = c.lines.invariant.0 env above shows in
    line_refused _ _ _ env (c.args.may_open - 1) (with_file env (c.args.may_open - 1)) c.args.file.now (c.lines.number + 1) c.first_line.result.0.now (lines_of c.first_line.result.1.now) so_far.0
    (rw c.first_line.ensures.first at so_far.2) c.in-Err.kind c.fault_at.result (c.in-Err.ensures.meaning env so_far.0 so_far.1) c.fault_at.ensures

pub returns-clause-calls : goal.returns-clause-calls
returns-clause-calls g t c = λ env above shows.
    let so_far = c.lines.invariant.0 env above shows in
    let over : lines_of c.lines.rest.now ≡ [] = no_line c.lines.rest.now (grind arith) in
    (so_far.0, rw over at so_far.2, so_far.1)
