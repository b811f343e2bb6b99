use Rattle.std.proofs.Common.{rules, arith, ◌≡◌, ◌<◌, ◌≤◌, ◌^◌, ℕ, [], true, false, sym, ap, ◌∙◌, refl}
use Rattle.std.specs.Map.Iter.{deref_pair}
use Rattle.std.specs.Cmp.{nat_cmp_total}
use Rattle.std.proofs.lemmas.Map.Iter.{btree_map_turn}
use Rattle.fwd_frames.specs.Streams.{conn_input}
use Rattle.fwd_engine_inputs.specs.ReaderStates.{has_paused_input}
use Rattle.fwd_engine_inputs.proofs.UnfinishedMessages.{after_longer, after_shorter, after_paused, sum_at_end, largest_at_end}
use Rattle.fwd_engine_inputs.proofs.message_readers.MessageReaders.unfinished.Goals as goal
use Rattle.fwd_engine_inputs.proofs.message_readers.MessageReaders.unfinished.Goals.{else-most-rest-via-then-most-rest+else-not-is_paused, else-most-rest-via-else-most-rest}

pub loop-conn-preserved-then-not-is_paused : goal.loop-conn-preserved-then-not-is_paused
loop-conn-preserved-then-not-is_paused c =
    let found = btree_map_turn deref_pair c.loop-conn.yielded c.into_iter-conn-iterator.result c.loop-conn.conn-iterator c.next.new.self c.next.result (c.in-Some.conn, c.in-Some.wire) c.loop-conn.yielded_by c.in-Some.is c.next.ensures.steps nat_cmp_total c.args.self.now.wires (search rules) (search rules) in
    let unpaused : c.is_paused.result ≡ false = search rules in
    after_longer (λ (conn : ℕ). has_paused_input c.args.paused (conn_input c.args.connections.now conn)) c.args.self.now.wires.entries c.loop-conn.bytes c.saturating_add-bytes.result c.loop-conn.most c.loop-conn.largest c.loop-conn.conn-iterator
    c.in-Some.conn.now c.in-Some.wire.now c.next.new.self c.unfinished-rest.result c.in-Some.ensures.steps c.unfinished-rest.ensures (omega arith) c.loop-conn.invariant _ refl (omega arith)
    (ap (has_paused_input c.args.paused) (sym c.input.ensures) ∙ sym c.is_paused.ensures ∙ unpaused) found.1

pub loop-conn-preserved : goal.loop-conn-preserved
loop-conn-preserved c = elim c.else-most-rest.branch [
  | else-most-rest-via-then-most-rest+else-not-is_paused w ↦
      let paused : w.is_paused.result ≡ true = search rules in
      after_paused (λ (conn : ℕ). has_paused_input c.args.paused (conn_input c.args.connections.now conn)) c.args.self.now.wires.entries c.loop-conn.bytes c.saturating_add-bytes.result c.loop-conn.most c.loop-conn.largest c.loop-conn.conn-iterator
      c.in-Some.conn.now c.in-Some.wire.now c.next.new.self c.unfinished-rest.result c.in-Some.ensures.steps c.unfinished-rest.ensures (omega arith) c.loop-conn.invariant
      (ap (has_paused_input c.args.paused) (sym w.input.ensures) ∙ sym w.is_paused.ensures ∙ paused)
  | else-most-rest-via-else-most-rest w ↦
      after_shorter (λ (conn : ℕ). has_paused_input c.args.paused (conn_input c.args.connections.now conn)) c.args.self.now.wires.entries c.loop-conn.bytes c.saturating_add-bytes.result c.loop-conn.most c.loop-conn.largest c.loop-conn.conn-iterator
      c.in-Some.conn.now c.in-Some.wire.now c.next.new.self c.unfinished-rest.result c.in-Some.ensures.steps c.unfinished-rest.ensures (omega arith) c.loop-conn.invariant (omega arith)
]

pub returns-clause-bytes : goal.returns-clause-bytes
returns-clause-bytes c =
    let none : c.loop-conn.conn-iterator ≡ [] = search rules in
    sum_at_end (λ (conn : ℕ). has_paused_input c.args.paused (conn_input c.args.connections.now conn)) c.args.self.now.wires.entries c.loop-conn.bytes c.loop-conn.most c.loop-conn.largest c.loop-conn.conn-iterator none c.loop-conn.invariant

pub returns-clause-largest : goal.returns-clause-largest
returns-clause-largest c =
    let none : c.loop-conn.conn-iterator ≡ [] = search rules in
    largest_at_end (λ (conn : ℕ). has_paused_input c.args.paused (conn_input c.args.connections.now conn)) c.args.self.now.wires.entries c.loop-conn.bytes c.loop-conn.most c.loop-conn.largest c.loop-conn.conn-iterator none c.loop-conn.invariant
