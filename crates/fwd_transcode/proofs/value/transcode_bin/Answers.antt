use Rattle.fwd_transcode.proofs.Values.{if_given, bin_done}
use Rattle.fwd_transcode.proofs.value.transcode_bin.Goals as goal

pub returns-clause-given : goal.returns-clause-given
returns-clause-given c =
    if_given c.copy_bytes.result _ _ (λ rest h. bin_done c.args.count c.args.bytes.now c.in-Some.content.now rest.now c.in-Some.n c.args.out.now c.put_bin_head.new.out _ c.in-Some.ensures.read c.in_ok-put_bin_head.ensures.ok h) c.copy_bytes.ensures.given
