use Rattle.std.proofs.Common.{Some, None, refl}
use Rattle.fwd_outside.specs.Loop.{Start}
use Rattle.fwd_record.proofs.NotedCalls.{noted_nothing}
use Rattle.fwd_record.proofs.RecordingSteps.{noted_as, recorded_other}
use Rattle.fwd_record.proofs.recorder.RecorderLoop.start.Goals as goal

pub invariant_of-self : goal.invariant_of-self
invariant_of-self g c = (
  recorded_other c.if-self.false c.self.invariant.0 (Start c.args.ends.now) (Some tt) _
      c.then-self-inside.ensures.1 c.in-Ready.ensures.call_log c.in-Ready.ensures.same tt (λ g. tt) (λ g. refl),
  noted_as c.then-self-inside.ensures.1 (noted_nothing c.self.invariant.1 (Start c.args.ends.now) (Some tt) refl refl refl),
)

pub invariant_of-self-in-Failed : goal.invariant_of-self-in-Failed
invariant_of-self-in-Failed g c = (
  recorded_other c.if-self.false c.self.invariant.0 (Start c.args.ends.now) None _
      c.then-self-inside-in-Failed.ensures.1 c.in-Failed.ensures.call_log c.in-Failed.ensures.same tt (λ g. tt) (λ g. refl),
  noted_as c.then-self-inside-in-Failed.ensures.1 (noted_nothing c.self.invariant.1 (Start c.args.ends.now) None refl refl refl),
)
