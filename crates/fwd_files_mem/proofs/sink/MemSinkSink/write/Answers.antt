use Rattle.std.proofs.Common.{refl, arith}
use Rattle.fwd_outside.specs.Sink.{log_of_stopped}
use Rattle.fwd_files_mem.specs.SinkState.{SinkState}
use Rattle.fwd_files_mem.proofs.SinkTrace.{written_whole, written_nothing, tells_stopped}
use Rattle.fwd_files_mem.proofs.sink.MemSinkSink.write.Goals as goal

pub invariant_of-self-then-contains : goal.invariant_of-self-then-contains
invariant_of-self-then-contains c = written_nothing c.self.inside.notes.items c.note_write.new.notes.items c.self.inside.bytes c.self.invariant c.in_ok-piece.piece c.args.bytes.now c.in_ok-piece.ensures c.in_ok-note_write.ensures.ok

pub returns-then-contains-clause-call_log : goal.returns-then-contains-clause-call_log
returns-then-contains-clause-call_log c =
    let held : SinkState = record { notes = c.self.inside.notes.items; fails = c.self.inside.fails.keys; faults = c.self.inside.faults } in
    (log_of_stopped c.args.bytes.now 0, (0, omega arith, refl), (refl, tells_stopped held c.args.self.now c.self.view_is c.note_write.new.notes.items c.in_ok-piece.piece c.args.bytes.now c.in_ok-piece.ensures c.in_ok-note_write.ensures.ok))

pub invariant_of-self-in_default : goal.invariant_of-self-in_default
invariant_of-self-in_default c =
    written_whole c.self.inside.notes.items c.note_write-2.new.notes.items c.self.inside.bytes c.self.invariant c.in_ok-piece.piece c.args.bytes.now c.in_ok-piece.ensures c.extend_from_slice.new.self
    c.in_default.ensures.ok c.in_ok-extend_from_slice.ensures.ok
