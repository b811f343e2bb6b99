use Rattle.std.proofs.Common.{List, ℕ, Err, sym, subst}
use Rattle.std.proofs.lemmas.Result.{err_from_is_err_and}
use Rattle.fwd_value.specs.View.{val_of}
use Rattle.fwd_msgpack.specs.DecodeAnswers.{EncodesPrefix}
use Rattle.fwd_event.proofs.DecodeAnswers.{value_found}
use Rattle.fwd_wire.specs.declared.errors.WireErr.{WireErr}
use Rattle.fwd_wire.specs.Representation.{HasAnswer, answer_of}
use Rattle.fwd_wire.proofs.ReadAnswer.{Refuses, err_answers, refused_answers}
use Rattle.fwd_wire.proofs.reader.read.Goals as goal

pub returns-in_ok-message-in-Ok : goal.returns-in_ok-message-in-Ok
returns-in_ok-message-in-Ok c =
    let found = subst (EncodesPrefix (val_of c.in-Ok.value) c.in-Ok.length) c.front.ensures (value_found (c.in-Ok.value, c.in-Ok.length) c.front.result.now c.in-Ok.ensures.value) in
    (val_of c.in-Ok.value, found, c.in_ok-message-in-Ok.ensures)

pub returns-in_err-message-in-Ok : goal.returns-in_err-message-in-Ok
returns-in_err-message-in-Ok c =
    let p = err_from_is_err_and c.from_residual.result c.from_residual.ensures.1 in
    let found = subst (EncodesPrefix (val_of c.in-Ok.value) c.in-Ok.length) c.front.ensures (value_found (c.in-Ok.value, c.in-Ok.length) c.front.result.now c.in-Ok.ensures.value) in
    rw (p.1, p.2) (err_answers c.in_err-message-in-Ok.field-0.0 c.args.bytes.now (val_of c.in-Ok.value) c.in-Ok.length found c.in_err-message-in-Ok.ensures)

pub returns-in-Err : goal.returns-in-Err
returns-in-Err c =
    let says : Refuses c.in-Err.error c.front.result.now = record { short = c.in-Err.ensures.short; unused = c.in-Err.ensures.unused; too_deep = c.in-Err.ensures.too_deep } in
    let answers = refused_answers c.in-Err.error c.args.bytes.now (subst (λ (f : List ℕ). Refuses c.in-Err.error f) c.front.ensures says) in
    subst (λ (e : WireErr). HasAnswer c.args.bytes.now (answer_of (Err e))) (sym c.decode_error.ensures) answers
