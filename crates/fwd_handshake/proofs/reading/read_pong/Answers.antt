use Rattle.fwd_handshake.proofs.Decoding.{decoded_received, without_received}
use Rattle.fwd_handshake.specs.Members.{host_of}
use Rattle.fwd_handshake.proofs.reading.read_pong.Goals as goal

pub returns-in_ok-content-in-Ok : goal.returns-in_ok-content-in-Ok
returns-in_ok-content-in-Ok c =
    decoded_received (host_of c.args.ring.now c.args.salt.now c.args.nonce.now) (c.in-Ok.value, c.in-Ok.len) c.args.stream.now c.in_ok-content-in-Ok.content c.of_content.result c.in-Ok.ensures.value c.in_ok-content-in-Ok.ensures c.of_content.ensures

pub returns-in-Err : goal.returns-in-Err
returns-in-Err c = without_received (host_of c.args.ring.now c.args.salt.now c.args.nonce.now) c.in-Err.error c.args.stream.now c.received_without.result c.in-Err.ensures.value c.in-Err.ensures.short c.received_without.ensures
