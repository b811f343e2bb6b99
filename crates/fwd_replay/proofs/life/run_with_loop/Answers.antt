use Rattle.std.proofs.Common.{◌∙◌, ap, subst}
use Rattle.fwd_outside.specs.declared.ends.Ends.{Ends}
use Rattle.fwd_script_loop.specs.ScriptRun.{told_of}
use Rattle.fwd_secure.specs.LoopBelow.{LoopBelow}
use Rattle.fwd_replay.specs.RunState.{KeyedLoopStarts}
use Rattle.fwd_replay.proofs.life.run_with_loop.Goals as goal

pub run_begun-requires-clause-begun : goal.run_begun-requires-clause-begun
run_begun-requires-clause-begun g c =
    let r = c.requires.begun in
    let starts = c.start_loop-loop_begun.ensures r.0 c.args.life.now (record { keys = c.new-secure.ensures.keys ∙ r.5; start = ap (λ (b : LoopBelow). b.call_log) c.new-secure.ensures.start ∙ ap told_of c.in_ok-script.ensures; above = c.new-secure.ensures.above }) in
    λ κs below. (r.0, r.1, r.2, r.3, r.4, subst (λ (e : Ends). KeyedLoopStarts r.0 c.args.life.now e c.start_loop-loop_begun.new.secure c.start_loop-loop_begun.result) r.6 starts)

pub returns : goal.returns
returns g c s begins h named has keys ends =
    let starts = c.start_loop-loop_begun.ensures s c.args.life.now (record { keys = c.new-secure.ensures.keys ∙ keys; start = ap (λ (b : LoopBelow). b.call_log) c.new-secure.ensures.start ∙ ap told_of c.in_ok-script.ensures; above = c.new-secure.ensures.above }) in
    c.run_begun.ensures s begins h named has (subst (λ (e : Ends). KeyedLoopStarts s c.args.life.now e c.start_loop-loop_begun.new.secure c.start_loop-loop_begun.result) ends starts)
