use Rattle.std.proofs.Common.{refl}
use Rattle.fwd_outside.specs.Loop.{Push, Took, Again, Broke}
use Rattle.fwd_record.proofs.RecordingSteps.{noted_as, recorded_other}
use Rattle.fwd_record.proofs.recorder.RecorderLoop.push.Goals as goal

pub invariant_of-self-in-Took : goal.invariant_of-self-in-Took
invariant_of-self-in-Took g c = (
  recorded_other c.if-self.false c.self.invariant.0 (Push c.args.link.0 c.args.bytes.now) (Took c.in-Took.taken) _
      c.then-self-inside.ensures.1 c.in-Took.ensures.call_log c.in-Took.ensures.same c.in-Took.ensures.within (λ g. tt) (λ g. refl),
  noted_as c.then-self-inside.ensures.1
      (c.note_push.ensures _ c.args.bytes.now c.self.invariant.0.new_links (c.reserve.ensures.same _ c.self.invariant.1)),
)

pub invariant_of-self-in-Again : goal.invariant_of-self-in-Again
invariant_of-self-in-Again g c = (
  recorded_other c.if-self.false c.self.invariant.0 (Push c.args.link.0 c.args.bytes.now) Again _
      c.then-self-inside-in-Again.ensures.1 c.in-Again.ensures.call_log c.in-Again.ensures.same tt (λ g. tt) (λ g. refl),
  noted_as c.then-self-inside-in-Again.ensures.1
      (c.note_push-in-Again.ensures _ c.args.bytes.now c.self.invariant.0.new_links (c.reserve.ensures.same _ c.self.invariant.1)),
)

pub invariant_of-self-in-Broken : goal.invariant_of-self-in-Broken
invariant_of-self-in-Broken g c = (
  recorded_other c.if-self.false c.self.invariant.0 (Push c.args.link.0 c.args.bytes.now) Broke _
      c.then-self-inside-in-Broken.ensures.1 c.in-Broken.ensures.call_log c.in-Broken.ensures.same tt (λ g. tt) (λ g. refl),
  noted_as c.then-self-inside-in-Broken.ensures.1
      (c.note_push-in-Broken.ensures _ c.args.bytes.now c.self.invariant.0.new_links (c.reserve.ensures.same _ c.self.invariant.1)),
)
