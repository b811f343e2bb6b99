use Rattle.std.proofs.Common.{◌<◌, length, map, sym, ◌∙◌, ap, arith, Vec, Global}
use Rattle.fwd_settings.specs.declared.settings_types.InputSet.{InputSet}
use Rattle.fwd_engine_recovery.specs.FollowedPaths.{followed_paths_of}
use Rattle.fwd_engine_recovery.proofs.FollowedFiles.{files_more, is_there}
use Rattle.fwd_engine_recovery.proofs.followed_inputs.copy_followed_inputs.Goals as goal
use Rattle.fwd_engine_recovery.proofs.followed_inputs.copy_followed_inputs.Goals.{in-Some+in_ok-copy_followed_input+in_ok-push, in_default}

pub loop-number-preserved : goal.loop-number-preserved
loop-number-preserved c =
    let inputs = c.args.run.now.inputs in
    let n = c.loop-number.number in
    let less : n < length inputs = omega (arith, c.loop-number-test.true, c.inputs-number-end.ensures) in
    elim c.match-input.branch [
      | in-Some+in_ok-copy_followed_input+in_ok-push w ↦
          ap (λ (v : Vec InputSet Global). map followed_paths_of v.items) w.sets-is
          ∙ ap (map followed_paths_of) w.in_ok-push.ensures.items
          ∙ files_more inputs n _ _ c.loop-number.sets.items (sym w.in-Some.ensures) w.in_ok-copy_followed_input.ensures c.loop-number.invariant
      | in_default w ↦ absurd (is_there inputs n less (sym w.in_default.ensures))
    ]
