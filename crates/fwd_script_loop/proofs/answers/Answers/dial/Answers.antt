use Rattle.std.proofs.Common.{refl}
use Rattle.fwd_script_loop.proofs.AnswerSteps.{dialed_after}
use Rattle.fwd_script_loop.proofs.answers.Answers.dial.Goals as goal

pub returns-in_ok-push-in-Some-clause-after : goal.returns-in_ok-push-in-Some-clause-after
returns-in_ok-push-in-Some-clause-after c = λ p stands.
    dialed_after p _ _ c.args.output _ stands (c.in-Some.ensures.answer p stands) c.take.ensures (λ o. refl) refl refl c.in_ok-push-in-Some.ensures.items

pub returns-in-None-clause-after : goal.returns-in-None-clause-after
returns-in-None-clause-after c = λ p stands. dialed_after p _ _ c.args.output _ stands (c.in-None.ensures.answer p stands) c.take-in-None.ensures (λ o. refl) refl refl refl
