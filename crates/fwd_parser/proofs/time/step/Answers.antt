use Rattle.std.proofs.Common.{refl}
use Rattle.fwd_parser.proofs.FormatSteps.{read_format_byte}
use Rattle.fwd_parser.proofs.time.step.Goals as goal

pub returns-clause-walks : goal.returns-clause-walks
returns-clause-walks c =
    let parts = rw c.in_ok-first.was at c.split_first.ensures.cases in
    let read = rw c.in_ok-after_format_byte.was at c.after_format_byte.ensures in
    rw (parts.0, read_format_byte c.in_ok-first.first.now c.in_ok-first.more.now c.args.place.text.now c.args.place.fields c.if-first-eq37.false, ← read) refl
