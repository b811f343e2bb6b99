use Rattle.std.proofs.Common.{◌++◌, List, length, map, All}
use Rattle.fwd_wire.specs.Message.{MessageContent}
use Rattle.fwd_wire.specs.Fits.{ContentFits}
use Rattle.fwd_wire.specs.Stream.{Ending, Streams}
use Rattle.fwd_in_forward.proofs.message_reader.all_messages.Given as goal

abbrev pub invariant-reading : goal.invariant-reading
invariant-reading g l = record {
  reads : (after : List MessageContent) (e : Ending) → Streams after e l.rest → Streams (map g.M.ReadMessage.content l.messages ++ after) e l.bytes;
  fits : All ContentFits (map g.M.ReadMessage.content l.messages);
  sound : All g.M.ReadMessage.IsSound l.messages;
}

abbrev pub decreases-reading : goal.decreases-reading
decreases-reading g l = length l.rest
