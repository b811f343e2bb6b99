use Rattle.std.proofs.Common.{arith}
use Rattle.fwd_script_loop.specs.PauseMask.{hears}
use Rattle.fwd_script_loop.proofs.FirstMatches.{find_none}
use Rattle.fwd_script_loop.proofs.queue.unpaused_from.Goals as goal

pub returns : goal.returns
returns c = find_none (hears c.args.paused) c.args.items.now.items (λ k d lt. c.loop-i.invariant k d (omega arith))
