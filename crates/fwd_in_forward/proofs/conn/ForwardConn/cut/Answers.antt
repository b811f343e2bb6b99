use Rattle.std.proofs.Common.{◌∙◌, List, ℕ, map, subst, sym}
use Rattle.fwd_wire.specs.Answer.{IsAnswer, short}
use Rattle.fwd_wire.specs.Stream.{Breaks}
use Rattle.fwd_in_forward.specs.Conn.{KnownIs}
use Rattle.fwd_in_forward.proofs.Feed.{broken_on, waits_on, breaks_now, messages_end, buffer_removed}
use Rattle.fwd_in_forward.proofs.conn.ForwardConn.cut.Goals as goal

pub returns-then-is_some-clause-messages : goal.returns-then-is_some-clause-messages
returns-then-is_some-clause-messages g c = broken_on g.M.ReadMessage.content c.self.inside.rest c.self.inside.fault c.args.self.now c.new.result c.args.piece.now (sym c.is_some.ensures ∙ c.if-is_some.true) c.self.view_is c.new.ensures

pub returns-in-Waits-clause-messages : goal.returns-in-Waits-clause-messages
returns-in-Waits-clause-messages g c =
    let known = subst (KnownIs c.as_slice.result.now) c.in-Waits.is c.scan_result.ensures.known in
    waits_on g.M.ReadMessage.content c.self.inside.rest c.args.piece.now c.extend_from_slice.new.self c.self.inside.fault c.args.self.now c.new-in-Waits.result (sym c.is_some.ensures ∙ c.if-is_some.false) c.self.view_is c.in_ok-extend_from_slice.ensures.ok (subst (λ (x : List ℕ). IsAnswer x short) c.as_slice.ensures known) c.new-in-Waits.ensures

pub returns-in-Breaks-clause-messages : goal.returns-in-Breaks-clause-messages
returns-in-Breaks-clause-messages g c =
    let known = subst (KnownIs c.as_slice.result.now) c.in-Breaks.is c.scan_result.ensures.known in
    breaks_now g.M.ReadMessage.content c.self.inside.rest c.args.piece.now c.extend_from_slice.new.self c.self.inside.fault c.in-Breaks.fault c.args.self.now c.break_stream.new.self c.new-in-Breaks.result (sym c.is_some.ensures ∙ c.if-is_some.false) c.self.view_is c.in_ok-extend_from_slice.ensures.ok (subst (Breaks c.in-Breaks.fault) c.as_slice.ensures known) c.break_stream.ensures c.new-in-Breaks.ensures

pub returns-in-Open-clause-messages : goal.returns-in-Open-clause-messages
returns-in-Open-clause-messages g c =
    messages_end (λ cut. map g.M.ReadMessage.content cut.messages) c.remove_messages.result c.self.inside.rest c.args.piece.now c.extend_from_slice.new.self c.self.inside.fault c.args.self.now c.remove_messages.new.self (sym c.is_some.ensures ∙ c.if-is_some.false) c.self.view_is c.in_ok-extend_from_slice.ensures.ok c.remove_messages.ensures.messages

pub returns-in-Open-clause-err : goal.returns-in-Open-clause-err
returns-in-Open-clause-err g c =
    buffer_removed c.remove_messages.result c.self.inside.rest c.args.piece.now c.extend_from_slice.new.self c.len-before.result c.self.inside.fault c.args.self.now c.remove_messages.new.self (sym c.is_some.ensures ∙ c.if-is_some.false) c.self.view_is c.in_ok-extend_from_slice.ensures.ok c.len-before.ensures c.remove_messages.ensures.err
