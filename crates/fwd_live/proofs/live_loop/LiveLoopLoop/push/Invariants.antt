use Rattle.fwd_outside.specs.Program.{entry}
use Rattle.fwd_outside.specs.Loop.{Push}
use Rattle.fwd_live.proofs.PushAnswers.{answered}
use Rattle.fwd_live.proofs.live_loop.LiveLoopLoop.push.Given as goal

abbrev pub ghost-then : goal.ghost-then
ghost-then a = entry (Push (a._note.now.0).0 a._note.now.1.now) (answered a._note.now.2)
