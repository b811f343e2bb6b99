use Rattle.std.proofs.Common.{◌≡◌, ap, ◌∙◌}
use Rattle.fwd_parser.specs.LineEvent.{at, clock_moment, parsed, plain}
use Rattle.fwd_parser.specs.declared.parser.Parser.{Parser}
use Rattle.fwd_parser.proofs.PlainEvents.{parsed_plain}
use Rattle.fwd_parser.proofs.reader.LineReader.put.Goals as goal

pub returns-then-keeps_lines-clause-fits : goal.returns-then-keeps_lines-clause-fits
returns-then-keeps_lines-clause-fits c =
    let view = c.self.view_is in
    let is : c.args.self.now ≡ c.self.inside.parser.now = cc in
    let kept = c.keeps_lines.ensures c.if-keeps_lines.true in
    let same : parsed c.args.self.now c.args.line c.args.now ≡ at (clock_moment c.args.now) (plain c.args.line) = ap (λ (p : Parser). parsed p c.args.line c.args.now) is ∙ parsed_plain c.self.inside.parser.now c.args.line c.args.now kept.0 kept.1 in
    rw same (rw c.as_slice.ensures at c.put_plain.ensures.fits)

pub returns-then-keeps_lines-clause-bytes : goal.returns-then-keeps_lines-clause-bytes
returns-then-keeps_lines-clause-bytes c =
    let view = c.self.view_is in
    let is : c.args.self.now ≡ c.self.inside.parser.now = cc in
    let kept = c.keeps_lines.ensures c.if-keeps_lines.true in
    let same : parsed c.args.self.now c.args.line c.args.now ≡ at (clock_moment c.args.now) (plain c.args.line) = ap (λ (p : Parser). parsed p c.args.line c.args.now) is ∙ parsed_plain c.self.inside.parser.now c.args.line c.args.now kept.0 kept.1 in
    rw same (rw c.as_slice.ensures at c.put_plain.ensures.bytes)
