use Rattle.fwd_outside.specs.declared.happening.Happening.TheVariants as happening
use Rattle.fwd_secure.proofs.EventCalls.{event_as, gone_brings, others_pass}
use Rattle.fwd_secure.proofs.rules.bring.Goals as goal

pub bring_piece-requires-clause-piece : goal.bring_piece-requires-clause-piece
bring_piece-requires-clause-piece g c = rw c.in-Piece.is at c.requires.piece

pub returns-in-Joined-clause-calls : goal.returns-in-Joined-clause-calls
returns-in-Joined-clause-calls g c =
    event_as c.args.keys.now c.args.state.now _ _ c.args.brought (happening.Joined c.in-Joined.input c.in-Joined.conn) _ c.in-Joined.is c.bring_joined.ensures.calls

pub returns-in-Piece-clause-calls : goal.returns-in-Piece-clause-calls
returns-in-Piece-clause-calls g c =
    event_as c.args.keys.now c.args.state.now _ _ c.args.brought (happening.Piece c.in-Piece.input c.in-Piece.conn c.in-Piece.bytes) _ c.in-Piece.is c.bring_piece.ensures.calls

pub returns-in-Gone-clause-calls : goal.returns-in-Gone-clause-calls
returns-in-Gone-clause-calls g c = gone_brings c.args.keys.now c.args.state.now _ c.args.brought c.in-Gone.input c.in-Gone.conn _ c.in-Gone.is c.leave.ensures

pub returns-in-Room-clause-calls : goal.returns-in-Room-clause-calls
returns-in-Room-clause-calls g c = event_as c.args.keys.now c.args.state.now _ _ c.args.brought (happening.Room c.in-Room.link) _ c.in-Room.is c.bring_room.ensures.calls

pub returns-in-Back-clause-calls : goal.returns-in-Back-clause-calls
returns-in-Back-clause-calls g c =
    event_as c.args.keys.now c.args.state.now _ _ c.args.brought (happening.Back c.in-Back.link c.in-Back.bytes) _ c.in-Back.is c.bring_back.ensures.calls

pub returns-in_default-clause-calls : goal.returns-in_default-clause-calls
returns-in_default-clause-calls g c =
    others_pass c.args.keys.now c.args.state.now _ c.args.brought c.in_default.not-Joined c.in_default.not-Piece c.in_default.not-Gone c.in_default.not-Room c.in_default.not-Back
