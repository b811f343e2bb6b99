use Rattle.std.proofs.Common.{List, ℕ, ◌++◌, sym, ap, ◌∙◌}
use Rattle.fwd_value.specs.Val.{mapping, entries_of}
use Rattle.fwd_msgpack.specs.Canonical.{canonical}
use Rattle.fwd_msgpack.proofs.EncodeLoops.{on_ok}
use Rattle.fwd_wire.specs.Encode.{time_val}
use Rattle.fwd_wire.proofs.EncodedParts.{entry_parts, after_byte_two}
use Rattle.fwd_wire.proofs.writer.put_entry.Goals as goal

pub returns : goal.returns
returns c = on_ok c.encode_map.result _ _ (λ said.
    after_byte_two c.args.out.now c.push.new.self c.put_time.new.out c.encode_map.new.out 146 (canonical (time_val c.args.whole_time c.args.event.now)) (canonical (mapping (entries_of c.args.event.now.body))) c.in_ok-push.ensures.ok c.in_ok-put_time.ensures said
    ∙ ap (λ (t : List ℕ). c.args.out.now ++ t) (sym (entry_parts c.args.whole_time c.args.event.now))) c.encode_map.ensures.ok
