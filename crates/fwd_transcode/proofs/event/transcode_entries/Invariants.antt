use Rattle.fwd_transcode.specs.Events.{TranscodesEntries}
use Rattle.fwd_transcode.proofs.event.transcode_entries.Given as goal

abbrev pub invariant-loop : goal.invariant-loop
invariant-loop l = TranscodesEntries l.counter l.rest l.bytes l.fn.out l.out
