use Rattle.fwd_outside.specs.Program.{entry}
use Rattle.fwd_outside.specs.Loop.{Start}
use Rattle.fwd_live.proofs.live_loop.LiveLoopLoop.start.Given as goal

abbrev pub ghost-then : goal.ghost-then
ghost-then a = entry (Start a._note.now.0.now) a._note.now.1
