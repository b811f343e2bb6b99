use Rattle.std.proofs.Common.{subst, arith}
use Rattle.memchr.specs.Find.{IsLastByte, is_byte}
use Rattle.fwd_in_tail.proofs.RestLength.{left-more, left-anew}
use Rattle.fwd_in_tail.proofs.rest_length.rest_after.Goals as goal

pub returns-in-Some : goal.returns-in-Some
returns-in-Some c = λ stream is.
    let last = subst (IsLastByte (is_byte 10) c.args.bytes.now) c.in-Some.is c.memrchr.ensures in
    let size = left-anew stream c.args.bytes.now c.in-Some.place last in
    rw size (omega arith)

pub returns-in-None : goal.returns-in-None
returns-in-None c = λ stream is.
    let none = subst (IsLastByte (is_byte 10) c.args.bytes.now) c.in-None.is c.memrchr.ensures in
    let size = left-more stream c.args.bytes.now none in
    rw size (omega (arith, is, c.saturating_add.ensures))
