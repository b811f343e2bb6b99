use Rattle.std.proofs.Common.{◌∙◌}
use Rattle.fwd_handshake.specs.declared.received.Received.TheVariants as received
use Rattle.fwd_secure.proofs.OutputSteps.{pong_as, pong_done}
use Rattle.fwd_secure.proofs.outputs.await_pong.Goals as goal

pub returns-in-More-clause-ok : goal.returns-in-More-clause-ok
returns-in-More-clause-ok c =
    pong_done c.args.ring.now c.args.state.now c.args.link c.args.handshake received.More
    (cc (c.in-More.is, c.in_ok-read_pong.ensures, c.in_ok-salt.ensures, c.as_slice-stream.ensures, c.as_slice.ensures, c.as_slice-2.ensures)) c.wait_more.result c.wait_more.new.state c.wait_more.ensures.ok

pub returns-in_ok-keep_back-in-Right-clause-ok : goal.returns-in_ok-keep_back-in-Right-clause-ok
returns-in_ok-keep_back-in-Right-clause-ok c =
    pong_as c.args.ring.now c.args.state.now c.args.link c.args.handshake (received.Right c.in-Right.len c.in-Right.content)
    (cc (c.in-Right.is, c.in_ok-read_pong.ensures, c.in_ok-salt.ensures, c.as_slice-stream.ensures, c.as_slice.ensures, c.as_slice-2.ensures))
    ∙ cc (c.in_ok-keep_back-in-Right.ensures.ok, c.in_ok-rest-in-Right.ensures, c.as_slice-stream.ensures)

pub returns-in-Wrong-clause-ok : goal.returns-in-Wrong-clause-ok
returns-in-Wrong-clause-ok c =
    pong_done c.args.ring.now c.args.state.now c.args.link c.args.handshake received.Wrong
    (cc (c.in-Wrong.is, c.in_ok-read_pong.ensures, c.in_ok-salt.ensures, c.as_slice-stream.ensures, c.as_slice.ensures, c.as_slice-2.ensures)) c.break_link.result c.break_link.new.state c.break_link.ensures.ok
