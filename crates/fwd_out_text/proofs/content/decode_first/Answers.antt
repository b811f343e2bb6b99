use Rattle.std.proofs.Common.{sym}
use Rattle.fwd_value.specs.View.{val_of}
use Rattle.fwd_event.proofs.DecodeAnswers.{value_found}
use Rattle.fwd_out_text.proofs.Encodable.{event_fits}
use Rattle.fwd_out_text.proofs.content.decode_first.Goals as goal

pub returns-in-Some-clause-given : goal.returns-in-Some-clause-given
returns-in-Some-clause-given c = (val_of c.in-Ok.value, value_found (c.in-Ok.value, c.in-Ok.length) c.args.bytes.now c.in-Ok.ensures.value, sym c.in-Some.ensures)

pub returns-in-Some-clause-fits : goal.returns-in-Some-clause-fits
returns-in-Some-clause-fits c =
    let found = value_found (c.in-Ok.value, c.in-Ok.length) c.args.bytes.now c.in-Ok.ensures.value in
    event_fits (val_of c.in-Ok.value) c.in-Some.event (sym c.in-Some.ensures) found.2 c.in-Ok.ensures.lengths
