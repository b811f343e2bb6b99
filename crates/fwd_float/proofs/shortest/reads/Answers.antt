use Rattle.std.proofs.Common.{sym}
use Rattle.fwd_float.specs.Format.{format_of}
use Rattle.fwd_float.proofs.Reading.{none_zero, none_huge, reads_is}
use Rattle.fwd_float.proofs.shortest.reads.Goals as goal

pub returns-then-digits-eq0 : goal.returns-then-digits-eq0
returns-then-digits-eq0 c = rw c.if-digits-eq0.true (sym (none_zero (format_of c.args.precision) c.args.bits c.requires.bits.0 c.requires.bits.1 c.args.power))

pub returns-then-power-ge709 : goal.returns-then-power-ge709
returns-then-power-ge709 c = sym (none_huge (format_of c.args.precision) c.args.bits c.requires.bits.0 c.requires.bits.1 c.args.power c.args.digits c.if-power-ge709.true)

pub returns : goal.returns
returns c = reads_is (format_of c.args.precision) c.args.bits c.requires.bits.0 c.requires.bits.1 c.args.power c.args.digits _ c.requires.power c.nearest_to.ensures
