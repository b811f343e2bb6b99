use Rattle.fwd_config.proofs.Lines.{heading_is}
use Rattle.fwd_config.proofs.line.read_header.Goals as goal

pub returns-then-end-text-2 : goal.returns-then-end-text-2
returns-then-end-text-2 c = heading_is c.args.text.now c.index_of-end.result c.index_of-end.ensures.place c.if-end-gt0.true c.if-end-text-2.true
