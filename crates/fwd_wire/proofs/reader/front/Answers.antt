use Rattle.std.proofs.Common.{sym}
use Rattle.std.proofs.lemmas.List.{take_all}
use Rattle.fwd_base.specs.Limits.{longest_message}
use Rattle.fwd_wire.proofs.reader.front.Goals as goal

pub returns-then-bytes-le-LONGEST_MESSAGE : goal.returns-then-bytes-le-LONGEST_MESSAGE
returns-then-bytes-le-LONGEST_MESSAGE c = sym (take_all longest_message c.args.bytes.now c.if-bytes-le-LONGEST_MESSAGE.true)
