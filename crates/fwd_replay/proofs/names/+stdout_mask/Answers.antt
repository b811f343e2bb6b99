use Rattle.std.proofs.Common.{arith}
use Rattle.fwd_replay.proofs.Masks.{doubled_fits}
use Rattle.fwd_replay.proofs.names.+stdout_mask.Goals as goal

pub overflow_mul-result : goal.overflow_mul-result
overflow_mul-result t c =
    let fits = doubled_fits c.in-Some.more.now _ c.stdout_mask.result c.in-Some.ensures.cases.1 c.requires c.stdout_mask.ensures in
    omega (arith, fits)

pub overflow_add-result : goal.overflow_add-result
overflow_add-result t c =
    let fits = doubled_fits c.in-Some.more.now _ c.stdout_mask.result c.in-Some.ensures.cases.1 c.requires c.stdout_mask.ensures in
    grind (arith, fits, c.from.ensures)
