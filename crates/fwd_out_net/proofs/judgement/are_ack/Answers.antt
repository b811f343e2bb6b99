use Rattle.std.proofs.Common.{sym}
use Rattle.fwd_out_net.proofs.Decoding.{many_pairs}
use Rattle.fwd_out_net.proofs.judgement.are_ack.Goals as goal

pub returns-in-len2-up : goal.returns-in-len2-up
returns-in-len2-up c = sym (many_pairs c.args.id.now c.args.pairs.now c.in-len2-up.len_at_least)
