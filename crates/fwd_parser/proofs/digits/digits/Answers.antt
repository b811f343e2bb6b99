use Rattle.std.proofs.Common.{◌∙◌, sym, arith}
use Rattle.fwd_parser.proofs.Numbers.{number_of_is, found_below}
use Rattle.fwd_parser.proofs.digits.digits.Goals as goal

pub returns-clause-value : goal.returns-clause-value
returns-clause-value c =
    number_of_is c.args.least c.args.most c.args.text.now _ c.digits_at-count.result c.in_ok-found.found
    c.digits_at-count.ensures.value (omega arith) c.requires.least c.requires.most (sym c.number.ensures ∙ c.in_ok-found.was) (grind arith)

pub returns-clause-limit : goal.returns-clause-limit
returns-clause-limit c =
    found_below c.args.least c.args.most c.args.text.now _ c.digits_at-count.result c.in_ok-found.found
    c.digits_at-count.ensures.value (omega arith) c.requires.least c.requires.most (sym c.number.ensures ∙ c.in_ok-found.was) (grind arith)
