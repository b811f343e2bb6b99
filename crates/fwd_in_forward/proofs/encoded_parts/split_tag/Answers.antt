use Rattle.std.proofs.Common.{◌∙◌, sym}
use Rattle.fwd_in_forward.proofs.PartsRead.{tag_leads}
use Rattle.fwd_in_forward.proofs.encoded_parts.split_tag.Goals as goal

pub returns-then-is_tag : goal.returns-then-is_tag
returns-then-is_tag c = tag_leads c.in_ok-tag.tag.now c.in_ok-tag.rest.now c.args.bytes.now c.in_ok-tag.ensures (sym c.is_tag.ensures ∙ c.if-is_tag.true)
