use Rattle.std.proofs.Common.{◌≡◌, ◌++◌, replicate}
use Rattle.fwd_out_text.proofs.record_text.write_nanoseconds.Given as goal

abbrev pub invariant-loop-zeros : goal.invariant-loop-zeros
invariant-loop-zeros l = l.out ≡ l.fn.out ++ replicate l._zeros 48
