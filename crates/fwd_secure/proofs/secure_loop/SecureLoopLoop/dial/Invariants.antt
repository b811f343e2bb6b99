use Rattle.fwd_outside.specs.Program.{entry}
use Rattle.std.specs.Prelude.{Some, None}
use Rattle.fwd_outside.specs.Loop.{Dial}
use Rattle.fwd_secure.proofs.secure_loop.SecureLoopLoop.dial.Given as goal

abbrev pub ghost-then : goal.ghost-then
ghost-then g a = entry (Dial (a._note.now.0).0 a._note.now.1.now) (Some (a._note.now.2).0)

abbrev pub ghost-then-2 : goal.ghost-then-2
ghost-then-2 g a = entry (Dial (a._note.now.0).0 a._note.now.1.now) None
