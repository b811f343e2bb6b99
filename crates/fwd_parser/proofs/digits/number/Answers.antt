use Rattle.std.proofs.Common.{◌∙◌, sym, arith}
use Rattle.std.proofs.lemmas.Bool.Decides.{nat_tests}
use Rattle.std.proofs.lemmas.List.{at_drop_all}
use Rattle.fwd_parser.proofs.Numbers.{number_from, number_from_stop, number_from-end, number_in-is, number_in-empty}
use Rattle.fwd_parser.proofs.digits.number.Goals as goal

pub returns-then-is_empty : goal.returns-then-is_empty
returns-then-is_empty c = sym (number_in-empty c.args.base c.args.text.now (grind (arith, nat_tests)))

pub returns-in_default : goal.returns-in_default
returns-in_default c =
    let text = c.args.text.now in
    let stop = number_from_stop c.args.base c.loop-digit.number c.loop-digit.digit-index text c.loop-digit-test.true c.requires.least c.in_default.ensures in
    sym (number_in-is c.args.base text (omega arith) ∙ sym c.loop-digit.invariant.1 ∙ stop)

pub returns : goal.returns
returns c =
    let text = c.args.text.now in
    let all = at_drop_all (number_from c.args.base c.loop-digit.number) text c.loop-digit.digit-index (omega arith) in
    sym (number_in-is c.args.base text (grind (arith, nat_tests)) ∙ sym c.loop-digit.invariant.1 ∙ all ∙ number_from-end c.args.base c.loop-digit.number c.loop-digit.invariant.0)
