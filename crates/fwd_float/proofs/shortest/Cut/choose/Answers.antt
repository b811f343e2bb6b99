use Rattle.std.proofs.Common.{◌+◌}
use Rattle.fwd_float.specs.Format.{format_of}
use Rattle.fwd_float.proofs.Search.{chose_nearest, chose_below, chose_above}
use Rattle.fwd_float.proofs.shortest.Cut.choose.Goals as goal

pub returns-then-reads : goal.returns-then-reads
returns-then-reads c = chose_nearest (format_of c.args.precision) c.args.bits (c.args.self.before + 1) _ _ c.nearest-nearest.ensures c.requires.cut.digits c.if-reads.ensures

pub returns-then-reads-2 : goal.returns-then-reads-2
returns-then-reads-2 c = chose_below (format_of c.args.precision) c.args.bits (c.args.self.before + 1) _ _ c.nearest-nearest.ensures c.requires.cut.digits c.if-reads.ensures c.if-reads-2.ensures

pub returns : goal.returns
returns c = chose_above (format_of c.args.precision) c.args.bits (c.args.self.before + 1) _ _ c.nearest-nearest.ensures c.requires.cut.digits c.if-reads.ensures c.if-reads-2.ensures
