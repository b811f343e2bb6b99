use Rattle.std.proofs.Common.{rules}
use Rattle.fwd_chunk.proofs.EventCount.{events_read, counts_none}
use Rattle.fwd_chunk.proofs.parser.count_events.Goals as goal

pub returns-in-Ok : goal.returns-in-Ok
returns-in-Ok c = (c.in-Ok.events, events_read c.in-Ok.events c.args.bytes.now c.in-Ok.ensures, search rules)

pub returns-in-Err : goal.returns-in-Err
returns-in-Err c = counts_none c.in-Err.error c.refusal_of.result c.args.bytes.now c.in-Err.ensures c.refusal_of.ensures
