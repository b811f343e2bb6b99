use Rattle.fwd_transcode.proofs.Values.{float64_done}
use Rattle.fwd_transcode.proofs.value.transcode_float64.Goals as goal

pub returns-clause-given : goal.returns-clause-given
returns-clause-given c =
    float64_done c.args.bytes.now c.in-Some.rest.now c.in-Some.bits c.args.out.now c.put_float64.new.out c.in-Some.ensures.read c.in_ok-put_float64.ensures.ok
