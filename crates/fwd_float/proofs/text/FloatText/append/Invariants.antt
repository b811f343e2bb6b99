use Rattle.std.specs.Prelude.{◌≡◌, ◌++◌, take}
use Rattle.fwd_float.proofs.text.FloatText.append.Given as goal

abbrev pub invariant-loop-byte : goal.invariant-loop-byte
invariant-loop-byte l = l.self ≡ l.fn.self ++ take l.byte-index l.bytes
