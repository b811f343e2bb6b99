use Rattle.fwd_outside.specs.Program.{entry}
use Rattle.fwd_outside.specs.Sink.{Write}
use Rattle.fwd_live.specs.SinkCode.{answered}
use Rattle.fwd_live.proofs.file_sink.FileSinkSink.write.Given as goal

abbrev pub ghost-then : goal.ghost-then
ghost-then a = entry (Write a._note.now.0.now) (answered a._note.now.1)
