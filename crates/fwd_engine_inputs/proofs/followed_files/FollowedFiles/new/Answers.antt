use Rattle.std.proofs.Common.{List, arith, subst}
use Rattle.std.proofs.lemmas.List.{take_all}
use Rattle.fwd_settings.specs.declared.settings_types.InputSet.{InputSet}
use Rattle.fwd_engine_inputs.proofs.UnreadFiles.{AreNew, input_more, follows_new}
use Rattle.fwd_engine_inputs.proofs.followed_files.FollowedFiles.new.Goals as goal

pub returns : goal.returns
returns c =
    let all = take_all c.loop-input.input-index c.args.inputs.now (omega arith) in
    follows_new c.args.inputs.now (record { inputs = c.loop-input.all; alloc = c.args.alloc }) (subst (λ (l : List InputSet). AreNew l c.loop-input.all.items) all c.loop-input.invariant)

pub loop-input-preserved : goal.loop-input-preserved
loop-input-preserved c =
    input_more c.args.inputs.now c.loop-input.input-index c.input-item.result c.in_ok-new.field-0 c.loop-input.all.items c.push.new.self.items (omega arith) c.input-item.is c.in_ok-push.ensures.items c.loop-input.invariant c.in_ok-new.ensures
