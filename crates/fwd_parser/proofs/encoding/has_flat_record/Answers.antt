use Rattle.std.proofs.Common.{◌<◌, ◌^◌, length, arith}
use Rattle.fwd_parser.proofs.PlainEvents.{flat_fits}
use Rattle.fwd_parser.proofs.encoding.has_flat_record.Goals as goal

pub returns-then-len-lt4294967296 : goal.returns-then-len-lt4294967296
returns-then-len-lt4294967296 c = λ yes.
    let event = c.args.event.now in
    let few : length event.body < 2 ^ 32 = omega (arith, c.len.ensures) in
    flat_fits event (c.is_empty.ensures.0 c.if-not-is_empty.false) few (rw c.as_slice.ensures at (c.are_flat.ensures.0 yes))
