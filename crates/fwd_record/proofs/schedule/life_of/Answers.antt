use Rattle.std.proofs.Common.{ℕ, List, map, ap, ◌∙◌}
use Rattle.fwd_outside.specs.declared.happening.Happening.{Happening}
use Rattle.fwd_record.specs.Recorded.{line_of}
use Rattle.fwd_record.proofs.Writing.{noted_life}
use Rattle.fwd_record.proofs.schedule.life_of.Goals as goal

pub returns-clause-life : goal.returns-clause-life
returns-clause-life c = λ seen is.
    noted_life is
    (c.in_ok-lines_of.ensures.lines
    ∙ ap (λ (l : List ℕ). map (line_of l) c.as_slice-2.result.now) c.as_slice.ensures.value
    ∙ ap (λ (h : List Happening). map (line_of c.args.notes.now.links.items) h) c.as_slice-2.ensures.value)
    (c.in_ok-copy_of_answers.ensures.same ∙ c.as_slice-3.ensures.value) c.in_ok-copy_of_numbers.ensures.same
    c.new.ensures c.new-2.ensures
