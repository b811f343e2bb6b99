use Rattle.fwd_outside.specs.Program.{entry}
use Rattle.fwd_outside.specs.Loop.{DropConn}
use Rattle.fwd_record.specs.Seen.{Answered}
use Rattle.fwd_record.proofs.recorder.RecorderLoop.drop_conn.Given as goal

abbrev pub ghost-then : goal.ghost-then
ghost-then g a = Answered (entry (DropConn (a._note.now).0) tt)
