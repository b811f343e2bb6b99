use Rattle.std.proofs.Common.{◌≡◌, ◌++◌, ℕ, List, append_assoc, arith, ap, sym, ◌∙◌}
use Rattle.fwd_value.specs.Val.{Val, entries_of}
use Rattle.fwd_value.specs.Limits.{entry_count}
use Rattle.fwd_msgpack.specs.Canonical.{map_head, canonical_entries}
use Rattle.fwd_msgpack.proofs.EncodeLoops.{how_many_entries_is, on_ok}
use Rattle.fwd_msgpack.proofs.encoding.write_map.Goals as goal

pub put_map_head-requires : goal.put_map_head-requires
put_map_head-requires c = omega (arith, c.requires.0, how_many_entries_is c.args.pairs.now, c.len.ensures)

pub write_pairs-requires : goal.write_pairs-requires
write_pairs-requires c = rw c.as_slice.ensures c.requires.1

pub returns-clause-ok : goal.returns-clause-ok
returns-clause-ok c = on_ok c.write_pairs.result _ _ (λ said.
    let one : c.write_pairs.new.out ≡ c.put_map_head.new.out ++ canonical_entries (entries_of c.args.pairs.now) = said ∙ ap (λ (es : List (Val × Val)). c.put_map_head.new.out ++ canonical_entries (entries_of es)) c.as_slice.ensures in
    let n : c.len.result ≡ entry_count (entries_of c.args.pairs.now) = c.len.ensures ∙ sym (how_many_entries_is c.args.pairs.now) in
    one ∙ ap (λ (o : List ℕ). o ++ canonical_entries (entries_of c.args.pairs.now)) (c.in_ok-put_map_head.ensures.ok ∙ ap (λ (m : ℕ). c.args.out.now ++ map_head m) n) ∙ append_assoc c.args.out.now (map_head (entry_count (entries_of c.args.pairs.now))) (canonical_entries (entries_of c.args.pairs.now))) c.write_pairs.ensures.ok
