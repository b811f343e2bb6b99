use Rattle.std.proofs.Common.{sym}
use Rattle.fwd_secure.specs.Keys.{ring_at}
use Rattle.fwd_secure.proofs.EventCalls.{piece_keyed, piece_unkeyed}
use Rattle.fwd_secure.proofs.rules.bring_piece.Goals as goal

pub hear-requires-clause-host : goal.hear-requires-clause-host
hear-requires-clause-host g c = c.requires.short.inputs c.args.input.0 c.in-Some.ring.now (sym c.in-Some.ensures)

pub returns-in-Some-clause-calls : goal.returns-in-Some-clause-calls
returns-in-Some-clause-calls g c =
    piece_keyed c.args.state.now c.args.input c.args.conn _ _ (ring_at c.args.keys.now.inputs c.args.input.0) c.in-Some.ring.now c.args.bytes _ c.in-Some.ensures c.hear.ensures.calls

pub returns-in-None-clause-calls : goal.returns-in-None-clause-calls
returns-in-None-clause-calls g c = piece_unkeyed c.args.state.now c.args.input c.args.conn _ (ring_at c.args.keys.now.inputs c.args.input.0) c.args.bytes c.in-None.ensures
