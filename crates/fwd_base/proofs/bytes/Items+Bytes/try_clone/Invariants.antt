use Rattle.std.proofs.Common.{◌≡◌, take}
use Rattle.fwd_base.proofs.bytes.Items+Bytes.try_clone.Given as goal

abbrev pub invariant-loop-bytes : goal.invariant-loop-bytes
invariant-loop-bytes l = l.copy ≡ take l.bytes-index l.self
