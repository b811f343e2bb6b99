use Rattle.std.proofs.Common.{◌∙◌}
use Rattle.fwd_base.proofs.Utf8.{utf8_by}
use Rattle.fwd_base.proofs.text.is_utf8.Goals as goal

pub returns : goal.returns
returns c = c.is_ok.ensures.value ∙ utf8_by c.args.bytes.now c.from_utf8.result c.from_utf8.ensures.cases
