use Rattle.fwd_outside.specs.Program.{entry}
use Rattle.fwd_outside.specs.Loop.{Word}
use Rattle.fwd_live.proofs.live_loop.LiveLoopLoop.word.Given as goal

abbrev pub ghost-then : goal.ghost-then
ghost-then a = entry Word a._note.now
