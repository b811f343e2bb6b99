use Rattle.std.proofs.Common.{◌≡◌, ◌++◌, map, take}
use Rattle.fwd_log.specs.Line.{printable}
use Rattle.fwd_log.proofs.line.push_printable.Given as goal

abbrev pub invariant-loop-byte : goal.invariant-loop-byte
invariant-loop-byte l = l.text ≡ l.fn.text ++ map printable (take l.byte-index l.bytes)
