use Rattle.std.proofs.Common.{◌≡◌, ◌++◌, ℕ, refl, List, map, take, append_assoc, add-one, arith, ap, sym, ◌∙◌}
use Rattle.std.proofs.lemmas.Result.{err_from_is_err_and}
use Rattle.fwd_value.specs.Val.{Val, vals_of, entries_of}
use Rattle.fwd_value.specs.View.{val_of, pair_of}
use Rattle.fwd_value.specs.Limits.{value_count, entry_count}
use Rattle.fwd_msgpack.specs.Canonical.{list_head, map_head, canonical, canonical_all, canonical_entries}
use Rattle.fwd_msgpack.proofs.KeptFront.{keeps_behind}
use Rattle.fwd_msgpack.proofs.EncodeLoops.{how_many_is, how_many_entries_is, on_ok, value_in, pair_in, values_more, pairs_more, values_in_range, pairs_in_range}
use Rattle.fwd_msgpack.proofs.encoding.+write.Goals as goal

pub write_value-put_list_head-requires : goal.write_value-put_list_head-requires
write_value-put_list_head-requires t c =
    let h = rw c.in-List.is at c.requires in
    omega (arith, h.0, how_many_is c.in-List.values, c.len.ensures)

pub write_value-put_map_head-requires : goal.write_value-put_map_head-requires
write_value-put_map_head-requires t c =
    let h = rw c.in-Map.is at c.requires in
    omega (arith, h.0, how_many_entries_is c.in-Map.pairs, c.len-in-Map.ensures)

pub write_value-returns-in_ok-put_list_head-in-List-clause-ok : goal.write_value-returns-in_ok-put_list_head-in-List-clause-ok
write_value-returns-in_ok-put_list_head-in-List-clause-ok t c = on_ok c.write_values.result _ _ (λ said.
    let one : c.write_values.new.out ≡ c.put_list_head.new.out ++ canonical_all (vals_of c.in-List.values) = said ∙ ap (λ (vs : List Val). c.put_list_head.new.out ++ canonical_all (vals_of vs)) c.as_slice-in-List.ensures in
    let n : c.len.result ≡ value_count (vals_of c.in-List.values) = c.len.ensures ∙ sym (how_many_is c.in-List.values) in
    rw c.in-List.is (one ∙ ap (λ (o : List ℕ). o ++ canonical_all (vals_of c.in-List.values)) (c.in_ok-put_list_head-in-List.ensures.ok ∙ ap (λ (m : ℕ). c.args.out.now ++ list_head m) n) ∙ append_assoc c.args.out.now (list_head (value_count (vals_of c.in-List.values))) (canonical_all (vals_of c.in-List.values)))) c.write_values.ensures.ok

pub write_value-returns-in_ok-put_map_head-in-Map-clause-ok : goal.write_value-returns-in_ok-put_map_head-in-Map-clause-ok
write_value-returns-in_ok-put_map_head-in-Map-clause-ok t c = on_ok c.write_pairs.result _ _ (λ said.
    let one : c.write_pairs.new.out ≡ c.put_map_head.new.out ++ canonical_entries (entries_of c.in-Map.pairs) = said ∙ ap (λ (es : List (Val × Val)). c.put_map_head.new.out ++ canonical_entries (entries_of es)) c.as_slice-in-Map.ensures in
    let n : c.len-in-Map.result ≡ entry_count (entries_of c.in-Map.pairs) = c.len-in-Map.ensures ∙ sym (how_many_entries_is c.in-Map.pairs) in
    rw c.in-Map.is (one ∙ ap (λ (o : List ℕ). o ++ canonical_entries (entries_of c.in-Map.pairs)) (c.in_ok-put_map_head-in-Map.ensures.ok ∙ ap (λ (m : ℕ). c.args.out.now ++ map_head m) n) ∙ append_assoc c.args.out.now (map_head (entry_count (entries_of c.in-Map.pairs))) (canonical_entries (entries_of c.in-Map.pairs)))) c.write_pairs.ensures.ok

pub write_values-write_value-requires : goal.write_values-write_value-requires
write_values-write_value-requires t c =
    let k = value_in c.args.values.now c.loop-value.value-index c.value-item.result c.loop-value-test.true c.value-item.is c.requires in
    (omega (arith, c.decreases, k.1), k.0)

pub write_values-loop-value-preserved : goal.write_values-loop-value-preserved
write_values-loop-value-preserved t c =
    let more = values_more c.args.values.now c.loop-value.value-index c.value-item.result c.loop-value-test.true c.value-item.is in
    let so_far = canonical_all (vals_of (map val_of (take c.loop-value.value-index c.args.values.now))) in
    let one : c.write_value.new.out ≡ (c.args.out.now ++ so_far) ++ canonical (val_of c.value-item.result) = c.in_ok-write_value.ensures.ok ∙ ap (λ (o : List ℕ). o ++ canonical (val_of c.value-item.result)) c.loop-value.invariant.written in
    record {
      written = one ∙ append_assoc c.args.out.now so_far (canonical (val_of c.value-item.result)) ∙ rw (add-one, more) refl;
      in_range = rw add-one (values_in_range c.args.values.now c.loop-value.value-index c.value-item.result c.loop-value-test.true c.value-item.is c.loop-value.invariant.in_range c.in_ok-write_value.ensures.in_range);
    }

pub write_pairs-write_value-requires : goal.write_pairs-write_value-requires
write_pairs-write_value-requires t c =
    let k = pair_in c.args.pairs.now c.loop-pair.pair-index c.pair-item.result c.loop-pair-test.true c.pair-item.is c.requires in
    (omega (arith, c.decreases, k.2), k.0)

pub write_pairs-write_value-requires-in-loop-pair : goal.write_pairs-write_value-requires-in-loop-pair
write_pairs-write_value-requires-in-loop-pair t c =
    let k = pair_in c.args.pairs.now c.loop-pair.pair-index c.pair-item.result c.loop-pair-test.true c.pair-item.is c.requires in
    (omega (arith, c.decreases, k.3), k.1)

pub write_pairs-loop-pair-preserved : goal.write_pairs-loop-pair-preserved
write_pairs-loop-pair-preserved t c =
    let more = pairs_more c.args.pairs.now c.loop-pair.pair-index c.pair-item.result c.loop-pair-test.true c.pair-item.is in
    let so_far = canonical_entries (entries_of (map pair_of (take c.loop-pair.pair-index c.args.pairs.now))) in
    let k = canonical (val_of c.pair-item.result.0) in
    let v = canonical (val_of c.pair-item.result.1) in
    let one : c.write_value.new.out ≡ (c.args.out.now ++ so_far) ++ k = c.in_ok-write_value.ensures.ok ∙ ap (λ (o : List ℕ). o ++ k) c.loop-pair.invariant.written in
    let two : c.write_value-in-loop-pair.new.out ≡ ((c.args.out.now ++ so_far) ++ k) ++ v = c.in_ok-write_value-2.ensures.ok ∙ ap (λ (o : List ℕ). o ++ v) one in
    record {
      written = two ∙ append_assoc (c.args.out.now ++ so_far) k v ∙ append_assoc c.args.out.now so_far (k ++ v) ∙ rw (add-one, more) refl;
      in_range = rw add-one (pairs_in_range c.args.pairs.now c.loop-pair.pair-index c.pair-item.result c.loop-pair-test.true c.pair-item.is c.loop-pair.invariant.in_range c.in_ok-write_value.ensures.in_range c.in_ok-write_value-2.ensures.in_range);
    }

pub write_pairs-returns-in_err-write_value-2-clause-err : goal.write_pairs-returns-in_err-write_value-2-clause-err
write_pairs-returns-in_err-write_value-2-clause-err t c =
    let so_far = canonical_entries (entries_of (map pair_of (take c.loop-pair.pair-index c.args.pairs.now))) in
    let k = canonical (val_of c.pair-item.result.0) in
    let one : c.write_value.new.out ≡ c.args.out.now ++ (so_far ++ k) = c.in_ok-write_value.ensures.ok ∙ ap (λ (o : List ℕ). o ++ k) c.loop-pair.invariant.written ∙ append_assoc c.args.out.now so_far k in
    let e = err_from_is_err_and c.from_residual-in_err-write_value-2.result c.from_residual-in_err-write_value-2.ensures.1 in
    rw e.1 (keeps_behind c.args.out.now c.write_value.new.out c.write_value-in-loop-pair.new.out (so_far ++ k) one c.in_err-write_value-2.ensures.err)
