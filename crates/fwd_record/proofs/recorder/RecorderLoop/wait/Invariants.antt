use Rattle.fwd_outside.specs.Program.{entry}
use Rattle.fwd_outside.specs.Loop.{Wait}
use Rattle.fwd_record.specs.Seen.{Answered}
use Rattle.fwd_record.proofs.recorder.RecorderLoop.wait.Given as goal

abbrev pub ghost-then : goal.ghost-then
ghost-then g a = Answered (entry (Wait a._note.now.0 a._note.now.1) a._note.now.2.now)
