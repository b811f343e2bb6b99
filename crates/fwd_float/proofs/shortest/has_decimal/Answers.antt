use Rattle.std.proofs.Common.{◌∙◌}
use Rattle.fwd_float.specs.Format.{format_of}
use Rattle.fwd_float.proofs.Search.{found_below, found_above}
use Rattle.fwd_float.proofs.shortest.has_decimal.Goals as goal

pub returns-then-reads : goal.returns-then-reads
returns-then-reads c = c.if-reads.true ∙ found_below (format_of c.args.precision) c.args.bits c.args.power c.args.below c.requires.below c.if-reads.ensures

pub returns-else-reads : goal.returns-else-reads
returns-else-reads c = found_above (format_of c.args.precision) c.args.bits c.args.power c.args.below _ c.requires.below c.if-reads.ensures c.reads-else-reads.ensures
