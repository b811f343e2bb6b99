use Rattle.std.proofs.Common.{refl, ◌∙◌, ap, map}
use Rattle.std.proofs.lemmas.Result.{IfOk-weaker}
use Rattle.fwd_engine_recovery.specs.FollowedPaths.{followed_paths_of}
use Rattle.fwd_engine_recovery.proofs.FollowedFiles.{with_inputs, follows_same}
use Rattle.fwd_engine_recovery.proofs.followed_inputs.followed_files.Goals as goal

pub returns : goal.returns
returns c =
    IfOk-weaker c.new.result _ _
    (λ followed_files follows.
    follows_same c.args.run.now c.as_slice.result.now followed_files (ap (map followed_paths_of) c.as_slice.ensures.value ∙ c.in_ok-sets.ensures) (follows (with_inputs c.args.run.now c.as_slice.result.now) refl))
    c.new.ensures
