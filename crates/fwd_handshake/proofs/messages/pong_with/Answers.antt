use Rattle.fwd_handshake.proofs.Parts.{pong_written}
use Rattle.fwd_handshake.proofs.messages.pong_with.Goals as goal

pub returns : goal.returns
returns c =
    pong_written c.in_ok-out.out c.put_text.new.out c.put_text-2.new.out c.args.host.now c.args.digest.now c.in_ok-out.ensures c.in_ok-put_text.ensures c.in_ok-put_text-2.ensures
