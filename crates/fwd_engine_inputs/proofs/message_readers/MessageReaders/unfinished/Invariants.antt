use Rattle.std.proofs.Common.{ℕ}
use Rattle.fwd_frames.specs.Streams.{conn_input}
use Rattle.fwd_engine_inputs.specs.ReaderStates.{has_paused_input}
use Rattle.fwd_engine_inputs.proofs.UnfinishedMessages.{AreCounted}
use Rattle.fwd_engine_inputs.proofs.message_readers.MessageReaders.unfinished.Given as goal

abbrev pub invariant-loop-conn : goal.invariant-loop-conn
invariant-loop-conn l =
    AreCounted (λ (conn : ℕ). has_paused_input l.paused (conn_input l.connections conn)) l.self.wires.entries l.bytes l.most l.largest l.conn-iterator
