use Rattle.fwd_outside.specs.Program.{entry}
use Rattle.fwd_outside.specs.Loop.{Word}
use Rattle.fwd_record.specs.Seen.{Answered}
use Rattle.fwd_record.proofs.recorder.RecorderLoop.word.Given as goal

abbrev pub ghost-then : goal.ghost-then
ghost-then g a = Answered (entry Word a._note.now)
