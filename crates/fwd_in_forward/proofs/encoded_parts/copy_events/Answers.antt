use Rattle.fwd_in_forward.proofs.PartsRead.{entries_lead}
use Rattle.fwd_in_forward.proofs.encoded_parts.copy_events.Goals as goal

pub returns-in-Some-2 : goal.returns-in-Some-2
returns-in-Some-2 c =
    entries_lead c.in-Some.count c.args.members c.in-Some-2.rest.now c.in-Some.entries.now c.args.bytes.now c.args.out.now c.transcode_entries.new.out c.in-Some.ensures (rw c.in-Some-2.is at c.in_ok-rest-in-Some.ensures.given)
