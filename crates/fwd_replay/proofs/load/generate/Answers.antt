use Rattle.fwd_replay.specs.Load.{config_text}
use Rattle.fwd_replay.proofs.load.generate.Goals as goal

pub returns : goal.returns
unfolding config_text
returns c = (c.in_ok-from_slice.ensures, c.in_ok-schedule.ensures)
