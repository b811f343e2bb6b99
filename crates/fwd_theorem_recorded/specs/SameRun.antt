-- Two runs that are the same.
use Rattle.std.specs.Prelude.{◌≡◌, List}
use Rattle.fwd_model.specs.Trace.{TraceEntry}
use Rattle.fwd_model.specs.Run.{RunResult}

-- the same calls and facts of the engine, the same calls on the devices, and the same result
pub record IsSameRun (trace below : List TraceEntry) (result : RunResult)
    (trace2 below2 : List TraceEntry) (result2 : RunResult) : Type 0 where
  pub same_trace : trace2 ≡ trace
  pub same_below : below2 ≡ below
  pub same_result : result2 ≡ result
