use Rattle.std.proofs.Common.{List, take}
use Rattle.fwd_script.specs.declared.schedule.Planned.{Planned}
use Rattle.fwd_script_loop.specs.Lines.{given_in}
use Rattle.fwd_script_loop.specs.Place.{beginning}
use Rattle.fwd_script_loop.specs.AnswersLeft.{AnswersLeft}
use Rattle.fwd_script_loop.proofs.answers.Answers.new.Given as goal

abbrev pub invariant-loop-answer : goal.invariant-loop-answer
invariant-loop-answer l = (lines : List Planned) → AnswersLeft l.answers (beginning (given_in lines (take l.answer-index l.answer-items)))
