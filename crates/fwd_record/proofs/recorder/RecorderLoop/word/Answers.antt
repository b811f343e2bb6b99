use Rattle.std.proofs.Common.{refl}
use Rattle.fwd_outside.specs.Loop.{Word}
use Rattle.fwd_record.proofs.RecordingSteps.{noted_as, recorded_other}
use Rattle.fwd_record.proofs.recorder.RecorderLoop.word.Goals as goal

pub invariant_of-self-2 : goal.invariant_of-self-2
invariant_of-self-2 g c = (
  recorded_other c.if-self.false c.self.invariant.0 Word c.in_ok-word.word _ c.then-self-inside.ensures.1
      c.in_ok-word.ensures.call_log c.in_ok-word.ensures.same tt (λ g. tt) (λ g. refl),
  noted_as c.then-self-inside.ensures.1 (c.note_word.ensures _ (c.reserve.ensures.same _ c.self.invariant.1)),
)
