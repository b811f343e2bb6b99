use Rattle.std.proofs.Common.{◌≡◌, None, refl, rules}
use Rattle.fwd_parser.proofs.FormatSteps.{read_format_lone}
use Rattle.fwd_parser.proofs.time.read_directive.Goals as goal

pub returns-in_err-letter-clause-walks : goal.returns-in_err-letter-clause-walks
returns-in_err-letter-clause-walks c =
    let empty = rw c.in_err-letter.was at c.split_first.ensures.cases in
    let none : c.from_residual.result ≡ None = search rules in
    rw none (read_format_lone c.args.format.now c.args.text.now c.args.fields empty)

pub returns-clause-walks : goal.returns-clause-walks
returns-clause-walks c =
    let parts = rw c.in_ok-letter.was at c.split_first.ensures.cases in
    let read = rw c.in_ok-fields.was at c.directive.ensures in
    rw (parts.0, ← read) refl
