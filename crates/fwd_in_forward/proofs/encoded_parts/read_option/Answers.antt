use Rattle.fwd_in_forward.proofs.PartsRead.{no_option}
use Rattle.fwd_in_forward.proofs.encoded_parts.read_option.Goals as goal

pub returns-in-0 : goal.returns-in-0
returns-in-0 c = rw (c.in-0.is, c.new.ensures) (no_option c.args.bytes.now)
