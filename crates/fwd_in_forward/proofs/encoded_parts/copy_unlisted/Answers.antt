use Rattle.fwd_in_forward.proofs.PartsRead.{packed_lead}
use Rattle.fwd_in_forward.proofs.encoded_parts.copy_unlisted.Goals as goal

pub returns-in-Some-2 : goal.returns-in-Some-2
returns-in-Some-2 c =
    packed_lead c.in-Some-2.count c.args.members c.in-Some.content.now c.in-Some.rest.now c.args.bytes.now c.args.out.now c.transcode_packed.new.out c.in-Some.ensures (rw c.in-Some-2.is at c.in_ok-count-in-Some.ensures.given)
