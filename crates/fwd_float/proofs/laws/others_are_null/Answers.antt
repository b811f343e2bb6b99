use Rattle.fwd_float.proofs.Texts.{null_otherwise}
use Rattle.fwd_float.proofs.laws.others_are_null.Goals as goal

pub returns : goal.returns
returns c = null_otherwise
