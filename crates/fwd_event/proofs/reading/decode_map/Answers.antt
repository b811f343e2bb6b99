use Rattle.std.proofs.Common.{refl, subst, arith}
use Rattle.fwd_value.specs.View.{val_of}
use Rattle.fwd_value.specs.declared.value.Value.{Value}
use Rattle.fwd_msgpack.specs.DecodeAnswers.{EncodesPrefix}
use Rattle.fwd_event.proofs.DecodeAnswers.{value_found}
use Rattle.fwd_event.proofs.PartwiseDecoding.{empty_encoded}
use Rattle.fwd_event.proofs.reading.decode_map.Goals as goal

pub returns-in-128 : goal.returns-in-128
returns-in-128 c =
    let empty = empty_encoded c.args.bytes.now c.new.result c.new.ensures c.in-128.len_at_least (omega arith) in
    (empty.0, omega (arith, empty.1))

pub returns-then-nest_within : goal.returns-then-nest_within
returns-then-nest_within c =
    let found = value_found (c.in-Ok.value, c.in-Ok.length) c.args.bytes.now c.in-Ok.ensures.value in
    (subst (λ (v : Value). EncodesPrefix (val_of v) c.in-Ok.length c.args.bytes.now) c.in-Map.is found, c.if-nest_within.ensures.0 refl)
