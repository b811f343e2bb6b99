use Rattle.fwd_event.specs.declared.errors.EventErr.TheVariants.{Short, Unused, TooDeep, NotAnEvent}
use Rattle.fwd_wire.proofs.EventLists.{unpacked_all, unpacked_none, never_by}
use Rattle.fwd_wire.proofs.events.unpack_events.Goals as goal

pub returns-in-Ok : goal.returns-in-Ok
returns-in-Ok c = unpacked_all c.in-Ok.events c.args.bytes.now c.in-Ok.ensures

pub returns-in-Err-Short : goal.returns-in-Err-Short
returns-in-Err-Short c = unpacked_none c.in-Err-Short.field-0 c.args.bytes.now (never_by c.in-Err-Short.field-0 Short c.in-Err-Short.field-0-is (λ m. m)) c.in-Err-Short.ensures

pub returns-in-Err-Unused : goal.returns-in-Err-Unused
returns-in-Err-Unused c = unpacked_none c.in-Err-Unused.field-0 c.args.bytes.now (never_by c.in-Err-Unused.field-0 (Unused c.in-Err-Unused.field-0-0) c.in-Err-Unused.field-0-is (λ m. m)) c.in-Err-Unused.ensures

pub returns-in-Err-TooDeep : goal.returns-in-Err-TooDeep
returns-in-Err-TooDeep c = unpacked_none c.in-Err-TooDeep.field-0 c.args.bytes.now (never_by c.in-Err-TooDeep.field-0 (TooDeep c.in-Err-TooDeep.field-0-0) c.in-Err-TooDeep.field-0-is (λ m. m)) c.in-Err-TooDeep.ensures

pub returns-in-Err-NotAnEvent : goal.returns-in-Err-NotAnEvent
returns-in-Err-NotAnEvent c = unpacked_none c.in-Err-NotAnEvent.field-0 c.args.bytes.now (never_by c.in-Err-NotAnEvent.field-0 (NotAnEvent c.in-Err-NotAnEvent.field-0-0) c.in-Err-NotAnEvent.field-0-is (λ m. m)) c.in-Err-NotAnEvent.ensures
