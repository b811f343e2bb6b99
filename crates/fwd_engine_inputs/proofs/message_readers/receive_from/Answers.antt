use Rattle.fwd_in_forward.specs.Received.{all_received}
use Rattle.fwd_engine_inputs.proofs.StreamMessages.{gives_in, keeps_in, breaks_in}
use Rattle.fwd_engine_inputs.proofs.message_readers.receive_from.Goals as goal

pub returns-clause-messages : goal.returns-clause-messages
returns-clause-messages c = gives_in (λ arrived. all_received arrived.messages) (λ arrived. arrived.fault) c.args.piece.now c.args.wire.now c.receive.new.self c.receive.result c.receive.ensures.messages

pub returns-clause-fault : goal.returns-clause-fault
returns-clause-fault c =
    breaks_in (λ arrived. all_received arrived.messages) (λ arrived. arrived.fault) c.args.piece.now c.args.wire.now c.receive.new.self c.receive.result c.receive.ensures.messages c.receive.ensures.fault

pub returns-clause-wire : goal.returns-clause-wire
returns-clause-wire c = keeps_in (λ arrived. all_received arrived.messages) (λ arrived. arrived.fault) c.args.piece.now c.args.wire.now c.receive.new.self c.receive.result c.receive.ensures.messages
