use Rattle.std.proofs.Common.{[], ◌∷◌, ◌++◌, subst}
use Rattle.fwd_outside.specs.Program.{entry}
use Rattle.fwd_outside.specs.Loop.{Wait}
use Rattle.fwd_outside.specs.declared.happening.Happening.{Happening}
use Rattle.fwd_record.specs.Seen.{Answered}
use Rattle.fwd_record.specs.Notes.{IsNoted}
use Rattle.fwd_record.proofs.RecordingSteps.{event_lost, event_recorded, noted_as}
use Rattle.fwd_record.proofs.recorder.RecorderLoop.wait.Goals as goal

pub invariant_of-self-in_default : goal.invariant_of-self-in_default
invariant_of-self-in_default g c = (
  event_lost c.if-self.false c.self.invariant.0 c.args.until c.args.paused c.in_ok-brought.brought _
      c.in_ok-brought.ensures.call_log c.in_ok-brought.ensures.counted,
  c.reserve.ensures.same _ c.self.invariant.1,
)

pub invariant_of-self-2 : goal.invariant_of-self-2
invariant_of-self-2 g c = (
  event_recorded c.if-self.false c.self.invariant.0 c.args.until c.args.paused c.in_ok-brought.brought _
      c.then-self-inside.ensures.1 c.in_ok-brought.ensures.call_log c.in_ok-brought.ensures.counted
      c.in_ok-brought.ensures.allowed c.saturating_add-self-inside.ensures,
  noted_as c.then-self-inside.ensures.1
      (subst (λ (h : Happening). IsNoted c.note_event.new.self (c.self.inside.seen.entries ++ Answered (entry (Wait c.args.until c.args.paused) h) ∷ []))
      c.in-Ok.ensures (c.note_event.ensures _ c.args.until c.args.paused (c.reserve.ensures.same _ c.self.invariant.1))),
)
