use Rattle.std.specs.Float.Ieee.{binary64}
use Rattle.fwd_json.proofs.FloatNumbers.{reads_back}
use Rattle.fwd_json.proofs.theorems.floats_are_read_back.Goals as goal

pub returns : goal.returns
returns c = λ bits finite. reads_back bits finite (c.texts_are_plain.ensures.plain binary64 bits finite) (c.texts_read_back.ensures binary64 bits finite)
