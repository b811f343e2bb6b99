use Rattle.fwd_script_loop.specs.Lines.{word_answer}
use Rattle.fwd_outside.specs.Program.{entry}
use Rattle.fwd_outside.specs.Loop.{Push}
use Rattle.fwd_record.specs.Seen.{Answered}
use Rattle.fwd_record.proofs.recorder.RecorderLoop.push.Given as goal

abbrev pub ghost-then : goal.ghost-then
ghost-then g a = Answered (entry (Push (a._note.now.0).0 a._note.now.1.now) (word_answer a._note.now.2))
