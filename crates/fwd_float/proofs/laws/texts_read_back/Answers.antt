use Rattle.fwd_float.proofs.Texts.{reads_back}
use Rattle.fwd_float.proofs.laws.texts_read_back.Goals as goal

pub returns : goal.returns
returns c = reads_back
