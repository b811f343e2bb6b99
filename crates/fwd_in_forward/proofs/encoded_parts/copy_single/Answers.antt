use Rattle.std.proofs.Common.{arith}
use Rattle.fwd_in_forward.proofs.PartsRead.{single_lead}
use Rattle.fwd_in_forward.proofs.encoded_parts.copy_single.Goals as goal

pub returns-in-Some-2 : goal.returns-in-Some-2
returns-in-Some-2 c =
    single_lead c.args.members c.in-Some.members c.in-Some-2.rest.now c.args.bytes.now c.args.out.now c.transcode_single.new.out (omega (arith, c.in-Some.ensures.0, c.in-Some.ensures.1)) (rw c.in-Some-2.is at c.in_ok-rest.ensures.given)
