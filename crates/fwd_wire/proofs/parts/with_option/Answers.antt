use Rattle.std.proofs.Common.{refl, arith}
use Rattle.fwd_value.specs.View.{val_of}
use Rattle.fwd_wire.specs.Representation.{carried_of}
use Rattle.fwd_wire.proofs.Members.{many_options}
use Rattle.fwd_wire.proofs.parts.with_option.Goals as goal

pub returns-then-len-gt1 : goal.returns-then-len-gt1
returns-then-len-gt1 c = (many_options (val_of c.args.tag.now) (carried_of c.args.carried) c.args.behind (omega (arith, c.len.ensures, c.if-len-gt1.true)), refl)
