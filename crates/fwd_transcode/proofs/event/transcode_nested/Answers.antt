use Rattle.std.proofs.Common.{refl, arith}
use Rattle.fwd_transcode.proofs.Values.{if_given}
use Rattle.fwd_transcode.proofs.Events.{opening_one, event_at_front}
use Rattle.fwd_transcode.proofs.event.transcode_nested.Goals as goal

pub returns-clause-given : goal.returns-clause-given
returns-clause-given c =
    let bytes = c.args.bytes.now in
    if_given c.transcode_parts.result _ _ (λ rest h. event_at_front c.args.depth bytes _ rest.now c.args.out.now _ (opening_one bytes _ 146 (omega arith) (omega arith) refl) h) c.transcode_parts.ensures.given
