use Rattle.std.proofs.Common.{None, refl}
use Rattle.fwd_outside.specs.Loop.{Dial}
use Rattle.fwd_record.proofs.RecordingSteps.{link_recorded, noted_as, recorded_other}
use Rattle.fwd_record.proofs.recorder.RecorderLoop.dial.Goals as goal

pub invariant_of-self-in-Link : goal.invariant_of-self-in-Link
invariant_of-self-in-Link g c = (
  link_recorded c.if-self.false c.self.invariant.0 c.args.output.0 c.args.tag.now c.in-Link.link.0 _
      c.then-self-inside.ensures.1 c.in-Link.ensures.call_log c.in-Link.ensures.counted c.in-Link.ensures.newest,
  noted_as c.then-self-inside.ensures.1 (c.note_link.ensures _ c.args.tag.now (c.reserve.ensures.same _ c.self.invariant.1)),
)

pub invariant_of-self-in-Refused : goal.invariant_of-self-in-Refused
invariant_of-self-in-Refused g c = (
  recorded_other c.if-self.false c.self.invariant.0 (Dial c.args.output.0 c.args.tag.now) None _
      c.then-self-inside-in-Refused.ensures.1 c.in-Refused.ensures.call_log c.in-Refused.ensures.counted tt (λ g. tt) (λ g. refl),
  noted_as c.then-self-inside-in-Refused.ensures.1
      (c.note_refusal.ensures _ c.args.tag.now (c.reserve.ensures.same _ c.self.invariant.1)),
)
