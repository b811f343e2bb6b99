use Rattle.std.proofs.Common.{ℕ, List, map, ap, ◌∙◌}
use Rattle.fwd_outside.specs.declared.happening.Happening.{Happening}
use Rattle.fwd_script.specs.Writable.{PlannedFits}
use Rattle.fwd_record.specs.Recorded.{line_of}
use Rattle.fwd_record.proofs.Stopping.{all_insert, stopped_life}
use Rattle.fwd_record.proofs.Writing.{life_fits}
use Rattle.fwd_record.proofs.schedule.stopped_life_of.Goals as goal

pub returns-clause-life : goal.returns-clause-life
returns-clause-life c = λ first second is at.
    stopped_life first second c.args.heard is at
    (c.in_ok-lines.ensures.lines
    ∙ ap (λ (l : List ℕ). map (line_of l) c.as_slice-2.result.now) c.as_slice.ensures.value
    ∙ ap (λ (h : List Happening). map (line_of c.args.notes.now.links.items) h) c.as_slice-2.ensures.value)
    c.in_ok-with_stop.ensures
    (c.in_ok-copy_of_answers.ensures.same ∙ c.as_slice-3.ensures.value) c.in_ok-copy_of_numbers.ensures.same
    c.new.ensures c.new-2.ensures

pub returns-clause-fits : goal.returns-clause-fits
returns-clause-fits c =
    life_fits (all_insert PlannedFits _ _ _ c.in_ok-with_stop.ensures c.in_ok-lines.ensures.fit tt) c.in_ok-copy_of_answers.ensures.fit c.in_ok-copy_of_numbers.ensures.fit c.new.ensures c.new-2.ensures
