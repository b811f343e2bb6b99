use Rattle.std.proofs.Common.{arith}
use Rattle.std.proofs.lemmas.List.{take_more}
use Rattle.fwd_script.specs.Writable.{GivenFits}
use Rattle.fwd_record.proofs.Writing.{all_more, copied_more}
use Rattle.fwd_record.proofs.schedule.copy_of_answers.Goals as goal

pub loop-given-preserved : goal.loop-given-preserved
loop-given-preserved c = (
  copied_more c.args.answers.now c.loop-given.given-index _ (take_more _ _ _ (omega arith)) c.loop-given.invariant.0 c.copy_of_answer.ensures.same c.in_ok-push.ensures.ok,
  all_more GivenFits _ _ c.in_ok-push.ensures.ok c.loop-given.invariant.1 c.copy_of_answer.ensures.fits,
)
