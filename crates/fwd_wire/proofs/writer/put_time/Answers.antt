use Rattle.std.proofs.Common.{List, ℕ, ◌++◌, sym, ap, ◌∙◌}
use Rattle.fwd_msgpack.proofs.EncodeLoops.{on_ok}
use Rattle.fwd_wire.proofs.EncodedParts.{time_parts}
use Rattle.fwd_wire.proofs.writer.put_time.Goals as goal

pub returns : goal.returns
returns c = rw c.if-whole_time.false (on_ok c.put_event_time.result _ _ (λ said. said ∙ ap (λ (t : List ℕ). c.args.out.now ++ t) (sym (time_parts c.args.event.now))) c.put_event_time.ensures)
