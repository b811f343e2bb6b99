use Rattle.std.proofs.Common.{refl, arith}
use Rattle.fwd_wire.proofs.Members.{few_members}
use Rattle.fwd_wire.proofs.parts.members.Goals as goal

pub returns-then-len-lt2 : goal.returns-then-len-lt2
returns-then-len-lt2 c = (few_members c.args.values (omega (arith, c.len.ensures, c.if-len-lt2.true)), refl)
