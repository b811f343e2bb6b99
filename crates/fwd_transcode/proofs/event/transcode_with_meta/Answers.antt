use Rattle.std.proofs.Common.{arith}
use Rattle.fwd_msgpack.proofs.Ranges.{all_bytes}
use Rattle.fwd_transcode.proofs.Values.{if_given}
use Rattle.fwd_transcode.proofs.Events.{with_meta_done}
use Rattle.fwd_transcode.proofs.event.transcode_with_meta.Goals as goal

pub returns-clause-given : goal.returns-clause-given
returns-clause-given c =
    let time = c.in-Some in
    let bytes = c.args.bytes.now in
    let all = all_bytes bytes (λ i. omega (arith, c.type_inv.bytes i)) in
    let meta = rw c.in-Some-2.is at c.in_ok-last.ensures.given in
    if_given c.transcode_record-2.result _ _ (λ rest h. with_meta_done c.args.depth time.sec time.nsec bytes time.maps.now c.in-Some-2.last.now rest.now c.args.out.now c.put_time.new.out c.transcode_record.new.out _ c.requires time.ensures.range.0 time.ensures.range.1 all
    time.ensures.read c.in_ok-put_time.ensures.ok meta h) c.transcode_record-2.ensures.given
