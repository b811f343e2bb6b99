use Rattle.std.proofs.Common.{refl}
use Rattle.fwd_outside.specs.Loop.{Close}
use Rattle.fwd_record.proofs.RecordingSteps.{noted_as, recorded_other}
use Rattle.fwd_record.proofs.recorder.RecorderLoop.close.Goals as goal

pub invariant_of-self-2 : goal.invariant_of-self-2
invariant_of-self-2 g c = (
  recorded_other c.if-self.false c.self.invariant.0 (Close c.args.link.0) tt _ c.then-self-inside.ensures.1
      c.in_ok-close.ensures.call_log c.in_ok-close.ensures.same tt (λ g. tt) (λ g. refl),
  noted_as c.then-self-inside.ensures.1 (c.note_close.ensures _ c.self.invariant.0.new_links c.self.invariant.1),
)
