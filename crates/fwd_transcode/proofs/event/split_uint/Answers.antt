use Rattle.std.proofs.Common.{get_or, refl}
use Rattle.fwd_transcode.proofs.Values.{first_is}
use Rattle.fwd_transcode.proofs.Events.{uint_time}
use Rattle.fwd_transcode.proofs.event.split_uint.Goals as goal

pub returns-then-n-lt4294967296-clause-read : goal.returns-then-n-lt4294967296-clause-read
returns-then-n-lt4294967296-clause-read c =
    let bytes = c.args.bytes.now in
    uint_time c.in-Uint.width c.in_ok-n.n (get_or bytes 0 0) bytes _ c.in_ok-n.rest.now c.if-n-lt4294967296.true (rw c.in-Uint.is at c.form_of.ensures) (first_is bytes _ c.in-len1-up.len_at_least refl) c.in_ok-n.ensures.read
