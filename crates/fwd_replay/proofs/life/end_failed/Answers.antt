use Rattle.std.proofs.Common.{subst, sym, List, ℕ}
use Rattle.fwd_replay.specs.Runs.{EndsIn}
use Rattle.fwd_replay.specs.declared.report.Ending.TheVariants as ending
use Rattle.fwd_replay.proofs.Handover.{failed_ends, reported}
use Rattle.fwd_replay.proofs.life.end_failed.Goals as goal

pub returns : goal.returns
returns c shown s begins planned most held failed fits =
    subst (λ (text : List ℕ). EndsIn shown s most begins planned (reported text ending.LoopFailed)) (sym c.new.ensures)
    (failed_ends s begins planned c.args.going.now c.args.disk.now held c.args.keeper.now most fits c.lemma_have_answered.ensures shown failed)
