use Rattle.std.proofs.Common.{ℕ, List, ◌∷◌, ◌++◌, ap, subst, ◌∙◌}
use Rattle.fwd_record.specs.Notes.{IsNoted}
use Rattle.fwd_record.specs.Recorded.{recorded}
use Rattle.fwd_record.specs.Seen.{Seen, Stopped}
use Rattle.fwd_record.proofs.Stopping.{result_is}
use Rattle.fwd_record.proofs.Writing.{result_writable}
use Rattle.fwd_record.proofs.schedule.stopped_schedule_of.Goals as goal

pub returns-clause-schedule : goal.returns-clause-schedule
returns-clause-schedule g c = λ first second is at.
    result_is _
    (c.in_ok-life.ensures.life first second (subst (λ (l : List Seen). IsNoted c.notes.result.now l) is c.notes.ensures.noted) at
    ∙ ap (λ (l : List ℕ). recorded (first ++ Stopped ∷ second) l) c.failed.ensures)
    c.schedule_with.ensures

pub returns-clause-writable : goal.returns-clause-writable
returns-clause-writable g c = λ first second is at.
    result_writable _ (first ++ Stopped ∷ second) c.args.disk.now.failed
    (c.in_ok-life.ensures.life first second (subst (λ (l : List Seen). IsNoted c.notes.result.now l) is c.notes.ensures.noted) at
    ∙ ap (λ (l : List ℕ). recorded (first ++ Stopped ∷ second) l) c.failed.ensures)
    c.in_ok-life.ensures.fits c.schedule_with.ensures
