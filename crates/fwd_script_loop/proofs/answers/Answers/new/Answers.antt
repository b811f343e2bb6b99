use Rattle.std.proofs.Common.{List, subst, ◌∙◌, arith}
use Rattle.std.proofs.lemmas.List.{take_all, take_more}
use Rattle.fwd_script.specs.declared.schedule.Given.{Given}
use Rattle.fwd_script_loop.specs.Lines.{given_in}
use Rattle.fwd_script_loop.specs.Place.{beginning}
use Rattle.fwd_script_loop.specs.AnswersLeft.{AnswersLeft}
use Rattle.fwd_script_loop.proofs.AnswerSteps.{added_at}
use Rattle.fwd_script_loop.proofs.answers.Answers.new.Goals as goal

pub loop-answer-preserved : goal.loop-answer-preserved
loop-answer-preserved c = λ lines. added_at lines c.as_slice-answer-items.result.now c.loop-answer.answer-index _ _ _ (take_more _ _ _ (omega arith)) (c.loop-answer.invariant lines) c.in_ok-add.ensures

pub returns : goal.returns
returns c = λ lines.
    subst (λ (l : List Given). AnswersLeft c.loop-answer.answers (beginning (given_in lines l))) (take_all c.loop-answer.answer-index c.as_slice-answer-items.result.now (omega arith) ∙ c.as_slice-answer-items.ensures) (c.loop-answer.invariant lines)
