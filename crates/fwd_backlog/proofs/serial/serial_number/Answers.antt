use Rattle.std.proofs.Common.{false}
use Rattle.fwd_backlog.proofs.Serials.{end_is, serial_is, too_great, no_number}
use Rattle.fwd_backlog.proofs.serial.serial_number.Goals as goal

pub returns-in-Some-clause-number : goal.returns-in-Some-clause-number
returns-in-Some-clause-number c =
    serial_is c.args.name.now c.in-Some.number (end_is c.args.name.now false c.ne.result c.ne.ensures c.if-ne.false) c.in-Some.ensures c.if-number-lt-NUMBERS_END.true

pub returns-in_default-clause-number : goal.returns-in_default-clause-number
returns-in_default-clause-number c =
    too_great c.args.name.now c.in-Some.number (end_is c.args.name.now false c.ne.result c.ne.ensures c.if-ne.false) c.in-Some.ensures c.if-number-lt-NUMBERS_END.false

pub returns-in_default-2-clause-number : goal.returns-in_default-2-clause-number
returns-in_default-2-clause-number c = no_number c.args.name.now (end_is c.args.name.now false c.ne.result c.ne.ensures c.if-ne.false) c.in_default.ensures
