use Rattle.fwd_outside.proofs.OneByte.{one_byte}
use Rattle.fwd_outside.proofs.theorems.one_byte_in_doubt.Goals as goal

pub returns : goal.returns
returns c file at left image sound lt le is = one_byte file at left image sound lt le is
