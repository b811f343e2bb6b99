use Rattle.fwd_transcode.proofs.Values.{copied}
use Rattle.fwd_transcode.proofs.value.copy_bytes.Goals as goal

pub returns-clause-given : goal.returns-clause-given
returns-clause-given c =
    copied c.args.n c.args.bytes.now c.split_at.result.0.now c.split_at.result.1.now c.args.out.now c.extend_from_slice.new.self c.if-bytes-n.false c.split_at.ensures.front c.split_at.ensures.back c.in_ok-extend_from_slice.ensures.ok
