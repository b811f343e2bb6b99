use Rattle.std.proofs.Common.{get_or, refl, arith}
use Rattle.fwd_transcode.proofs.Values.{first_is}
use Rattle.fwd_transcode.proofs.Events.{fixint_time}
use Rattle.fwd_transcode.proofs.event.split_seconds.Goals as goal

pub returns-in-0-to-127-clause-read : goal.returns-in-0-to-127-clause-read
returns-in-0-to-127-clause-read c =
    let bytes = c.args.bytes.now in
    fixint_time (get_or bytes 0 0) bytes _ (omega arith) (first_is bytes _ c.in-len1-up.len_at_least refl)
