use Rattle.std.proofs.Common.{ℕ, List, ap, ◌∙◌}
use Rattle.fwd_record.specs.Recorded.{recorded}
use Rattle.fwd_record.proofs.Writing.{result_writable}
use Rattle.fwd_record.proofs.schedule.schedule_of.Goals as goal

pub returns-clause-writable : goal.returns-clause-writable
returns-clause-writable g c =
    result_writable _ c.args.recorder.now.seen c.args.disk.now.failed
    (c.in_ok-life.ensures.life _ c.notes.ensures.noted ∙ ap (λ (l : List ℕ). recorded c.args.recorder.now.seen l) c.failed.ensures)
    c.in_ok-life.ensures.fits c.schedule_with.ensures
