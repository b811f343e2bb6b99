use Rattle.std.proofs.Common.{◌++◌, ◌∙◌, List, ℕ, option_map, length, sym, ap}
use Rattle.fwd_value.specs.Val.{text, bin}
use Rattle.fwd_msgpack.specs.Canonical.{canonical}
use Rattle.fwd_wire.specs.Encode.{entry_bytes, option_val}
use Rattle.fwd_wire.proofs.EncodedParts.{after_byte_three, forward_parts}
use Rattle.fwd_wire.proofs.writer.write_forward.Goals as goal

pub returns : goal.returns
returns c =
    let entries = entry_bytes c.args.whole_time c.args.events.now in
    let id = option_map (λ chunk. chunk.now) c.args.id in
    let bytes = c.in_ok-put_bin.ensures ∙ ap (λ (s : List ℕ). c.put_text.new.out ++ canonical (bin s)) c.in_ok-entries.ensures in
    let option = c.in_ok-put_option.ensures ∙ ap (λ (n : ℕ). c.put_bin.new.out ++ canonical (option_val n id)) c.len.ensures in
    after_byte_three c.in_ok-out.out c.put_text.new.out c.put_bin.new.out c.put_option.new.out 147 (canonical (text c.args.tag.now)) (canonical (bin entries)) (canonical (option_val (length c.args.events.now) id)) c.in_ok-out.ensures c.in_ok-put_text.ensures bytes option
    ∙ sym (forward_parts c.args.tag.now c.args.events.now id c.args.whole_time)
