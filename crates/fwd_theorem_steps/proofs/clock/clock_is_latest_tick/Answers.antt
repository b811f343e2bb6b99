use Rattle.fwd_theorem_steps.proofs.LatestTick.{ticks_count, latest_ticked}
use Rattle.fwd_theorem_steps.proofs.clock.clock_is_latest_tick.Goals as goal

pub returns-clause-greatest : goal.returns-clause-greatest
returns-clause-greatest c h now has = ticks_count h now has

pub returns-clause-ticked : goal.returns-clause-ticked
returns-clause-ticked c h = latest_ticked h
