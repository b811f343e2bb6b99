use Rattle.std.proofs.Common.{◌≡◌, IfOk, sym, subst}
use Rattle.fwd_value.specs.View.{val_of}
use Rattle.fwd_event.proofs.DecodeAnswers.{value_found}
use Rattle.fwd_wire.proofs.ReadAnswer.{Refuses}
use Rattle.fwd_flush.specs.declared.judgement.Judged.{Judged}
use Rattle.fwd_out_net.proofs.Decoding.{whole_judged, without_judged}
use Rattle.fwd_out_net.proofs.judgement.judgement_of.Goals as goal

pub returns-in-Ok : goal.returns-in-Ok
returns-in-Ok c =
    let found = value_found (c.in-Ok.value, c.in-Ok.field-0-1) c.args.reply.now c.in-Ok.ensures.value in
    let same = whole_judged c.args.id.now c.args.reply.now (val_of c.in-Ok.value) c.in-Ok.field-0-1 found in
    subst (λ (j : Judged). IfOk c.value_judgement.result (λ x. x ≡ j)) (sym same) c.value_judgement.ensures

pub returns-in-Err : goal.returns-in-Err
returns-in-Err c =
    let says : Refuses c.in-Err.error c.args.reply.now = record { short = c.in-Err.ensures.short; unused = c.in-Err.ensures.unused; too_deep = c.in-Err.ensures.too_deep } in
    without_judged c.in-Err.error c.args.id.now c.args.reply.now c.judge_undecodable.result says c.judge_undecodable.ensures
