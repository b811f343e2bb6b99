use Rattle.std.proofs.Common.{refl}
use Rattle.fwd_outside.specs.Loop.{DropConn}
use Rattle.fwd_record.proofs.RecordingSteps.{noted_as, recorded_other}
use Rattle.fwd_record.proofs.NotedCalls.{noted_nothing}
use Rattle.fwd_record.proofs.recorder.RecorderLoop.drop_conn.Goals as goal

pub invariant_of-self-2 : goal.invariant_of-self-2
invariant_of-self-2 g c = (
  recorded_other c.if-self.false c.self.invariant.0 (DropConn c.args.conn.0) tt _ c.then-self-inside.ensures.1
      c.in_ok-drop_conn.ensures.call_log c.in_ok-drop_conn.ensures.same tt (λ g. tt) (λ g. refl),
  noted_as c.then-self-inside.ensures.1 (noted_nothing c.self.invariant.1 (DropConn c.args.conn.0) tt refl refl refl),
)
