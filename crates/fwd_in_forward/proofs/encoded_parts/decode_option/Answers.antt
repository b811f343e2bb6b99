use Rattle.fwd_value.specs.View.{val_of}
use Rattle.fwd_event.proofs.DecodeAnswers.{value_found}
use Rattle.fwd_in_forward.proofs.PartsRead.{one_option}
use Rattle.fwd_in_forward.proofs.encoded_parts.decode_option.Goals as goal

pub returns-in-Some : goal.returns-in-Some
returns-in-Some c =
    one_option (val_of c.in-Ok.value) c.in-Some.option c.in-Ok.length c.args.bytes.now (value_found (c.in-Ok.value, c.in-Ok.length) c.args.bytes.now c.in-Ok.ensures.value) c.in-Some.ensures
