use Rattle.fwd_outside.specs.Program.{entry}
use Rattle.fwd_outside.specs.Loop.{Close}
use Rattle.fwd_live.proofs.live_loop.LiveLoopLoop.close.Given as goal

abbrev pub ghost-then : goal.ghost-then
ghost-then a = entry (Close (a._note.now).0) tt
