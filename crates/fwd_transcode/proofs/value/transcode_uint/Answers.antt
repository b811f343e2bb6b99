use Rattle.fwd_transcode.proofs.Values.{uint_done}
use Rattle.fwd_transcode.proofs.value.transcode_uint.Goals as goal

pub returns-clause-given : goal.returns-clause-given
returns-clause-given c =
    uint_done c.args.width c.args.bytes.now c.in-Some.rest.now c.in-Some.n c.args.out.now c.put_number.new.out c.in-Some.ensures.read c.in_ok-put_number.ensures.ok
