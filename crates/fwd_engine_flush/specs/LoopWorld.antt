-- The world in which the loop has this call log.
use Rattle.fwd_outside.specs.Loop.{LoopLog}
use Rattle.fwd_model.specs.CallLogs.{CallLogs}

abbrev pub with_loop : LoopLog → CallLogs → CallLogs
with_loop loop others = record others { loop = loop }
