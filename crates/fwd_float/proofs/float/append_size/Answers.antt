use Rattle.std.proofs.Common.{ℕ, ◌+◌, ◌*◌, ◌^◌, ◌<◌, ◌≤◌, length, decimal, arith}
use Rattle.std.proofs.lemmas.Fmt.{length-decimal-le, decimal_nonempty}
use lib.Ieee.{Format, binary32, binary64, prec}
use Rattle.fwd_float.specs.Format.{format_of}
use Rattle.fwd_float.specs.Layout.{most_zeros}
use Rattle.fwd_float.proofs.float.append_size.Goals as goal

room : (f : Format) (d : ℕ) → d ≤ 10 * 2 ^ (prec f + 2) → (0 < length (decimal d)) × (length (decimal d) + most_zeros f ≤ 22)
room binary32 d h = (decimal_nonempty d (omega arith), omega (arith, length-decimal-le 9 d (omega arith) (omega arith) (omega arith)))
room binary64 d h = (decimal_nonempty d (omega arith), omega (arith, length-decimal-le 18 d (omega arith) (omega arith) (omega arith)))

pub append_decimal-requires-clause-room : goal.append_decimal-requires-clause-room
append_decimal-requires-clause-room c =
    let r = room (format_of c.args.precision) c.shortest-decimal.result.digits c.shortest-decimal.ensures.few in
    rw (c.as_bytes-digits.ensures.value, c.format.ensures.text) (c.requires.room, r.0, r.1)
