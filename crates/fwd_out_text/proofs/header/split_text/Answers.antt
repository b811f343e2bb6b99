use Rattle.fwd_msgpack.proofs.Heads.{text_leads}
use Rattle.fwd_out_text.proofs.header.split_text.Goals as goal

pub returns : goal.returns
returns c =
    text_leads c.in-Some.length c.args.bytes.now c.in-Some.rest.now c.split_at.result.0.now c.split_at.result.1.now c.in-Some.ensures c.if-length-rest.false c.split_at.ensures.front c.split_at.ensures.back
