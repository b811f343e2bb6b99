use Rattle.fwd_handshake.proofs.Parts.{helo_written}
use Rattle.fwd_handshake.proofs.messages.helo.Goals as goal

pub returns : goal.returns
returns c = helo_written c.in_ok-out.out c.put_bin.new.out c.extend_from_slice.new.self c.args.nonce.now c.in_ok-out.ensures c.in_ok-put_bin.ensures c.in_ok-extend_from_slice.ensures.ok
