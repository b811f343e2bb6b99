use Rattle.std.proofs.Common.{◌≡◌, ◌<◌, subst, arith}
use Rattle.fwd_limits.proofs.Masks.{MaskBelow, mask_more}
use Rattle.fwd_engine_state.proofs.input_mask.first_inputs.Goals as goal

pub loop-i-preserved : goal.loop-i-preserved
loop-i-preserved c =
    let within : c.loop-i.i < 64 = omega (arith, c.requires, c.loop-i-test.true) in
    mask_more c.loop-i.i (λ i. Unit {0}) c.loop-i.mask within tt c.loop-i.invariant

pub returns : goal.returns
returns c =
    let all : c.loop-i.i ≡ c.args.inputs = omega (arith, c.loop-i-test.false, c.loop-i.auto.i-end) in
    subst (λ n. MaskBelow n (λ i. Unit {0}) c.loop-i.mask) all c.loop-i.invariant
