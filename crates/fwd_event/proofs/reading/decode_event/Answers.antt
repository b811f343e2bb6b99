use Rattle.std.proofs.Common.{ℕ, ◌+◌, refl, sym, ap, Err, arith}
use Rattle.fwd_value.specs.View.{val_of}
use Rattle.fwd_event.proofs.DecodeAnswers.{value_found, short_found, unused_found, deep_found}
use Rattle.fwd_event.proofs.reading.decode_event.Goals as goal

pub returns-in-Some : goal.returns-in-Some
returns-in-Some c = (val_of c.in-Ok.value, value_found (c.in-Ok.value, c.in-Ok.length) c.args.bytes.now c.in-Ok.ensures.value, sym c.in-Some.ensures)

pub returns-in-None : goal.returns-in-None
returns-in-None c = (val_of c.in-Ok.value, c.in-Ok.length, value_found (c.in-Ok.value, c.in-Ok.length) c.args.bytes.now c.in-Ok.ensures.value, sym c.in-None.ensures, refl)

pub returns-in-Err-Short : goal.returns-in-Err-Short
returns-in-Err-Short c = short_found (Err c.in-Err-Short.field-0) c.args.bytes.now (ap Err c.in-Err-Short.field-0-is) c.in-Err-Short.ensures.short

pub returns-in-Err-Unused : goal.returns-in-Err-Unused
returns-in-Err-Unused c = (c.in-Err-Unused.behind, unused_found (Err c.in-Err-Unused.field-0) c.in-Err-Unused.behind c.args.bytes.now (ap Err c.in-Err-Unused.field-0-is) c.in-Err-Unused.ensures.unused, ap (λ (n : ℕ). c.args.place + n) c.in-Err-Unused.behind-is)

pub returns-in-Err-TooDeep : goal.returns-in-Err-TooDeep
returns-in-Err-TooDeep c = (c.in-Err-TooDeep.behind, deep_found (Err c.in-Err-TooDeep.field-0) c.in-Err-TooDeep.behind c.args.bytes.now (ap Err c.in-Err-TooDeep.field-0-is) c.in-Err-TooDeep.ensures.too_deep, ap (λ (n : ℕ). c.args.place + n) c.in-Err-TooDeep.behind-is)

pub overflow_add-result : goal.overflow_add-result
overflow_add-result c =
    let found = unused_found (Err c.in-Err-Unused.field-0) c.in-Err-Unused.behind c.args.bytes.now (ap Err c.in-Err-Unused.field-0-is) c.in-Err-Unused.ensures.unused in
    omega (arith, found.2, c.requires)

pub overflow_add-result-in-Err-TooDeep : goal.overflow_add-result-in-Err-TooDeep
overflow_add-result-in-Err-TooDeep c =
    let found = deep_found (Err c.in-Err-TooDeep.field-0) c.in-Err-TooDeep.behind c.args.bytes.now (ap Err c.in-Err-TooDeep.field-0-is) c.in-Err-TooDeep.ensures.too_deep in
    omega (arith, found.2, c.requires)
