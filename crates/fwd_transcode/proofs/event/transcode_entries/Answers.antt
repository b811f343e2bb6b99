use Rattle.fwd_msgpack.proofs.KeptFront.{keeps_behind}
use Rattle.fwd_event.specs.EventPrefix.{encodings}
use Rattle.fwd_transcode.proofs.Events.{no_entries_yet, one_entry_more}
use Rattle.fwd_transcode.proofs.event.transcode_entries.Goals as goal

pub loop-preserved : goal.loop-preserved
loop-preserved c =
    let found = rw c.in-Some.is at c.in_ok-behind.ensures.given in
    one_entry_more c.loop.counter c.loop.rest.now c.in-Some.behind.now c.args.bytes.now c.args.out.now c.loop.out c.transcode_nested.new.out c.loop.invariant found

pub loop-init : goal.loop-init
loop-init c = no_entries_yet c.args.bytes.now c.args.out.now

pub returns-in_err-behind-clause-kept : goal.returns-in_err-behind-clause-kept
returns-in_err-behind-clause-kept c =
    keeps_behind c.args.out.now c.loop.out c.transcode_nested.new.out (encodings c.loop.invariant.events) c.loop.invariant.written c.transcode_nested.ensures.kept

pub returns-in_default-clause-kept : goal.returns-in_default-clause-kept
returns-in_default-clause-kept c =
    keeps_behind c.args.out.now c.loop.out c.transcode_nested.new.out (encodings c.loop.invariant.events) c.loop.invariant.written c.transcode_nested.ensures.kept
