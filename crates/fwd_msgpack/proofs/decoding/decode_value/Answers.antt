use Rattle.std.proofs.Common.{arith}
use Rattle.fwd_value.specs.View.{val_of}
use Rattle.fwd_msgpack.proofs.AnswerMeanings.{ok_fits, stop_fits}
use Rattle.std.proofs.Common.{true, false}
use Rattle.fwd_msgpack.proofs.decoding.decode_value.Goals as goal

pub overflow_sub-result : goal.overflow_sub-result
overflow_sub-result c = ok_fits c.args.bytes.now (val_of c.in-Ok.value) c.in-Ok.rest.now c.in-Ok.ensures

pub overflow_sub-result-in-Err-Format-Unused : goal.overflow_sub-result-in-Err-Format-Unused
overflow_sub-result-in-Err-Format-Unused c =
    let h = rw (c.in-Err-Format-Unused.field-0-is, c.in-Err-Format-Unused.field-0-0-is) at c.in-Err-Format-Unused.ensures in
    stop_fits false c.args.bytes.now c.in-Err-Format-Unused.left h

pub overflow_sub-result-in-Err-Format-TooDeep : goal.overflow_sub-result-in-Err-Format-TooDeep
overflow_sub-result-in-Err-Format-TooDeep c =
    let h = rw (c.in-Err-Format-TooDeep.field-0-is, c.in-Err-Format-TooDeep.field-0-0-is) at c.in-Err-Format-TooDeep.ensures in
    stop_fits true c.args.bytes.now c.in-Err-Format-TooDeep.left h

pub returns-in-Ok : goal.returns-in-Ok
returns-in-Ok c =
    let le = ok_fits c.args.bytes.now (val_of c.in-Ok.value) c.in-Ok.rest.now c.in-Ok.ensures in
    (c.in-Ok.rest.now, c.in-Ok.ensures, omega arith)

pub returns-in-Err-Format-Unused : goal.returns-in-Err-Format-Unused
returns-in-Err-Format-Unused c =
    let h = rw (c.in-Err-Format-Unused.field-0-is, c.in-Err-Format-Unused.field-0-0-is) at c.in-Err-Format-Unused.ensures in
    let le = stop_fits false c.args.bytes.now c.in-Err-Format-Unused.left h in
    (c.in-Err-Format-Unused.left, h, omega arith)

pub returns-in-Err-Format-TooDeep : goal.returns-in-Err-Format-TooDeep
returns-in-Err-Format-TooDeep c =
    let h = rw (c.in-Err-Format-TooDeep.field-0-is, c.in-Err-Format-TooDeep.field-0-0-is) at c.in-Err-Format-TooDeep.ensures in
    let le = stop_fits true c.args.bytes.now c.in-Err-Format-TooDeep.left h in
    (c.in-Err-Format-TooDeep.left, h, omega arith)
