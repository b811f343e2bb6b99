use Rattle.fwd_config.proofs.Lines.{first_line_is, last_line_is}
use Rattle.fwd_config.proofs.line.first_line.Goals as goal

pub returns-then-end-text-clause-first : goal.returns-then-end-text-clause-first
returns-then-end-text-clause-first c = first_line_is c.args.text.now _ c.index_of-end.result c.index_of-end.ensures.place c.if-end-text.true c.without_return.ensures

pub returns-else-end-text-clause-first : goal.returns-else-end-text-clause-first
returns-else-end-text-clause-first c = last_line_is c.args.text.now _ c.index_of-end.result c.index_of-end.ensures.place c.requires c.if-end-text.false c.without_return-else-end-text.ensures
