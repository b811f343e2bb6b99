use Rattle.std.proofs.Common.{None, subst}
use Rattle.fwd_outside.specs.Loop.{LoopEntry}
use Rattle.fwd_outside.specs.NewLinks.{AreNewLinks}
use Rattle.fwd_settings.specs.Endpoints.{ends_of}
use Rattle.fwd_model.specs.Trace.{loop_part}
use Rattle.fwd_model.specs.Run.{Over, TurnsSpent, lived}
use Rattle.fwd_theorem_trace.specs.Waits.{waits_in}
use Rattle.fwd_theorem_delivery.specs.Guarantee.{KeepsGuarantee}
use Rattle.fwd_replay.specs.FileChanges.{course_after}
use Rattle.fwd_replay.specs.Runs.{IsCutIn, InTurn, WasOver, course_of}
use Rattle.fwd_replay.proofs.KeyedTurns.{first_answers}
use Rattle.fwd_replay.proofs.guarantee.all_runs_keep_the_guarantee.Goals as goal

pub returns-clause-lives : goal.returns-clause-lives
returns-clause-lives c s turns start planned trace comes is = c.runs_keep_the_guarantee.ensures s (ends_of s) None turns trace comes is.way is.answers.links

pub returns-clause-live : goal.returns-clause-live
returns-clause-live c s ticks turns old new reported is = c.runs_keep_the_guarantee.ensures s (ends_of s) ticks turns is.trace is.lived is.way is.answers.links

pub returns-clause-cut : goal.returns-clause-cut
returns-clause-cut c s turns start planned cuts is = by is.cut_in
  where
    new_links : AreNewLinks 0 (loop_part cuts.before)
    new_links = (first_answers cuts.before cuts.turn is.answers).links

    by : IsCutIn s turns cuts.before cuts.history cuts.handshakes (course_after (course_of start planned) cuts.below) cuts.turn → KeepsGuarantee s cuts.before
    by (InTurn waits way asks last end own) = c.runs_keep_the_guarantee.ensures s (ends_of s) None (waits_in cuts.before) cuts.before (lived cuts.history TurnsSpent) way new_links
    by (WasOver way none) = c.runs_keep_the_guarantee.ensures s (ends_of s) None turns cuts.before (lived cuts.history Over) way new_links
