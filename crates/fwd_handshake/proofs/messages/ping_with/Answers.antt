use Rattle.fwd_handshake.proofs.Parts.{ping_written}
use Rattle.fwd_handshake.proofs.messages.ping_with.Goals as goal

pub returns : goal.returns
returns c =
    ping_written c.in_ok-out.out c.put_text.new.out c.put_bin.new.out c.put_text-2.new.out c.extend_from_slice.new.self c.args.host.now c.args.salt.now c.args.digest.now
    c.in_ok-out.ensures c.in_ok-put_text.ensures c.in_ok-put_bin.ensures c.in_ok-put_text-2.ensures c.in_ok-extend_from_slice.ensures.ok
