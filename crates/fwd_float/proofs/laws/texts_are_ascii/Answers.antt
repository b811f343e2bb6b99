use Rattle.fwd_float.proofs.Texts.{all_ascii}
use Rattle.fwd_float.proofs.laws.texts_are_ascii.Goals as goal

pub returns : goal.returns
returns c = all_ascii
