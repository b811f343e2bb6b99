use Rattle.std.proofs.Common.{arith}
use Rattle.fwd_limits.proofs.WaitingBytes.{waiting_splits}
use Rattle.fwd_limits.proofs.eviction.others_bytes.Goals as goal

pub overflow_sub-result : goal.overflow_sub-result
overflow_sub-result c =
    let splits = waiting_splits c.args.output c.args.chunk c.args.table.now.rows in
    omega (arith, splits, c.waiting_bytes.ensures, c.from.ensures, c.own_waiting.ensures)

pub returns : goal.returns
returns c =
    let splits = waiting_splits c.args.output c.args.chunk c.args.table.now.rows in
    omega (arith, splits, c.waiting_bytes.ensures, c.from.ensures, c.own_waiting.ensures)
