use Rattle.std.specs.Prelude.{◌≡◌, ◌++◌, replicate}
use Rattle.fwd_float.proofs.text.FloatText.append_zeros.Given as goal

abbrev pub invariant-loop : goal.invariant-loop
invariant-loop l = l.self ≡ l.fn.self ++ replicate l.counter 48
