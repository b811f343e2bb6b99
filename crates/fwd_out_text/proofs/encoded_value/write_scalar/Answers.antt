use Rattle.fwd_event.proofs.DecodeAnswers.{value_found}
use Rattle.fwd_out_text.proofs.encoded_value.write_scalar.Goals as goal

pub split_at-requires : goal.split_at-requires
split_at-requires c = (value_found (c.in-Ok.value, c.in-Ok.length) c.args.bytes.now c.in-Ok.ensures.value).0
