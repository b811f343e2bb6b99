use Rattle.std.proofs.Common.{refl, arith}
use Rattle.fwd_transcode.proofs.Values.{if_some}
use Rattle.fwd_transcode.proofs.Events.{opening_three, long_time}
use Rattle.fwd_transcode.proofs.event.split_long_time.Goals as goal

pub returns-clause-read : goal.returns-clause-read
returns-clause-read c =
    let bytes = c.args.bytes.now in
    if_some c.split_event_time.result _ _ (λ x h. long_time x.0 x.1 bytes _ x.2.now (opening_three bytes _ 199 8 0 (omega arith) (omega arith) (omega arith) (omega arith) refl) h) c.split_event_time.ensures.read
