use Rattle.std.proofs.Common.{◌+◌, ◌-◌, arith, length-append}
use Rattle.std.proofs.lemmas.Fmt.{length-decimal-le}
use Rattle.fwd_float.proofs.layout.append_exponent.Goals as goal

pub append-requires-then-point-gt-BIAS : goal.append-requires-then-point-gt-BIAS
append-requires-then-point-gt-BIAS c =
    rw (c.as_bytes.ensures.value, c.format.ensures.text, c.append.ensures) (omega (arith, length-append c.args.out.now, length-decimal-le 3 (c.args.point - 400 - 1) (omega arith) (omega arith) (omega arith)))

pub append-requires-else-point-gt-BIAS-2 : goal.append-requires-else-point-gt-BIAS-2
append-requires-else-point-gt-BIAS-2 c =
    rw (c.as_bytes-else-point-gt-BIAS.ensures.value, c.format-else-point-gt-BIAS.ensures.text, c.append-else-point-gt-BIAS.ensures)
    (omega (arith, length-append c.args.out.now, length-decimal-le 3 (400 + 1 - c.args.point) (omega arith) (omega arith) (omega arith)))
