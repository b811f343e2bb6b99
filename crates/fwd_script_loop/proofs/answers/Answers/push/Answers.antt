use Rattle.std.proofs.Common.{refl}
use Rattle.fwd_script_loop.proofs.AnswerSteps.{pushed_after, pushed_when}
use Rattle.fwd_script_loop.proofs.answers.Answers.push.Goals as goal

pub returns-clause-answer : goal.returns-clause-answer
returns-clause-answer c = λ p stands.
    pushed_when p _ c.args.link c.args.len c.in-Some.output c.next-word.result c.limit_push.result stands c.in-Some.ensures c.next-word.ensures c.limit_push.ensures

pub returns-clause-after : goal.returns-clause-after
returns-clause-after c = λ p stands. pushed_after p _ _ c.args.link c.in-Some.output stands c.in-Some.ensures c.take.ensures (λ o. refl) refl refl refl
