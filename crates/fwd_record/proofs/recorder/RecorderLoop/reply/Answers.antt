use Rattle.std.proofs.Common.{Some, None, refl}
use Rattle.fwd_outside.specs.Loop.{Reply}
use Rattle.fwd_record.proofs.RecordingSteps.{noted_as, recorded_other}
use Rattle.fwd_record.proofs.recorder.RecorderLoop.reply.Goals as goal

pub invariant_of-self-in-Taken : goal.invariant_of-self-in-Taken
invariant_of-self-in-Taken g c = (
  recorded_other c.if-self.false c.self.invariant.0 (Reply c.args.conn.0 c.args.bytes.now) (Some tt) _
      c.then-self-inside.ensures.1 c.in-Taken.ensures.call_log c.in-Taken.ensures.same tt (λ g. tt) (λ g. refl),
  noted_as c.then-self-inside.ensures.1
      (c.note_reply.ensures _ c.args.conn.0 c.args.bytes.now (c.reserve.ensures.same _ c.self.invariant.1)),
)

pub invariant_of-self-in-Broken : goal.invariant_of-self-in-Broken
invariant_of-self-in-Broken g c = (
  recorded_other c.if-self.false c.self.invariant.0 (Reply c.args.conn.0 c.args.bytes.now) None _
      c.then-self-inside-in-Broken.ensures.1 c.in-Broken.ensures.call_log c.in-Broken.ensures.same tt (λ g. tt) (λ g. refl),
  noted_as c.then-self-inside-in-Broken.ensures.1
      (c.note_reply-in-Broken.ensures _ c.args.conn.0 c.args.bytes.now (c.reserve.ensures.same _ c.self.invariant.1)),
)
