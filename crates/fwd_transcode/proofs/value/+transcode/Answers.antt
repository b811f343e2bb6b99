use Rattle.std.proofs.Common.{get_or, refl, arith}
use Rattle.fwd_msgpack.specs.declared.form.Form.TheVariants as form
use Rattle.fwd_msgpack.specs.Decoder.{inner}
use Rattle.fwd_transcode.proofs.Values.{if_given, first_is, after_first, map_is_value, list_done, map_done, one_value_more, values_done, pair_done, one_pair_more, pairs_all}
use Rattle.fwd_transcode.proofs.value.+transcode.Goals as goal

pub transcode_value-returns-in-Array-clause-given : goal.transcode_value-returns-in-Array-clause-given
transcode_value-returns-in-Array-clause-given t c =
    let bytes = c.args.bytes.now in
    if_given c.transcode_list.result _ _ (λ rest h. after_first c.args.depth (get_or bytes 0 0) (form.Array c.in-Array.count) bytes _ rest.now c.args.out.now _ (first_is bytes _ c.in-len1-up.len_at_least refl)
    (rw c.in-Array.is at c.form_of-form.ensures) h) c.transcode_list.ensures.given

pub transcode_value-returns-in-Map-clause-given : goal.transcode_value-returns-in-Map-clause-given
transcode_value-returns-in-Map-clause-given t c =
    let bytes = c.args.bytes.now in
    if_given c.transcode_map.result _ _ (λ rest h. after_first c.args.depth (get_or bytes 0 0) (form.Map c.in-Map.count) bytes _ rest.now c.args.out.now _ (first_is bytes _ c.in-len1-up.len_at_least refl)
    (rw c.in-Map.is at c.form_of-form.ensures) (map_is_value _ rest.now _ _ h)) c.transcode_map.ensures.given

pub transcode_value-returns-clause-given : goal.transcode_value-returns-clause-given
transcode_value-returns-clause-given t c =
    let bytes = c.args.bytes.now in
    if_given c.transcode_flat.result _ _ (λ rest h. after_first c.args.depth (get_or bytes 0 0) c.form_of-form.result bytes _ rest.now c.args.out.now _ (first_is bytes _ c.in-len1-up.len_at_least refl)
    c.form_of-form.ensures (h (inner c.args.depth))) c.transcode_flat.ensures.given

pub transcode_list-returns-clause-given : goal.transcode_list-returns-clause-given
transcode_list-returns-clause-given t c =
    if_given c.transcode_values.result _ _ (λ rest h. list_done c.args.depth c.args.count c.args.bytes.now c.in-Some.content.now rest.now c.in-Some.n c.args.out.now c.put_list_head.new.out _ (omega arith) c.in-Some.ensures.read
    c.in_ok-put_list_head.ensures.ok h) c.transcode_values.ensures.given

pub transcode_map-returns-clause-given : goal.transcode_map-returns-clause-given
transcode_map-returns-clause-given t c =
    if_given c.transcode_pairs.result _ _ (λ rest h. map_done c.args.depth c.args.count c.args.bytes.now c.in-Some.content.now rest.now c.in-Some.n c.args.out.now c.put_map_head.new.out _ (omega arith) c.in-Some.ensures.read
    c.in_ok-put_map_head.ensures.ok h) c.transcode_pairs.ensures.given

pub transcode_values-loop-preserved : goal.transcode_values-loop-preserved
transcode_values-loop-preserved t c =
    let found = rw c.in-Some.is at c.in_ok-behind.ensures.given in
    one_value_more c.args.depth c.args.n c.loop.counter c.loop.rest.now c.in-Some.behind.now c.args.bytes.now c.args.out.now c.loop.out c.transcode_value.new.out c.loop-test.true c.loop.invariant found

pub transcode_values-returns-clause-given : goal.transcode_values-returns-clause-given
transcode_values-returns-clause-given t c =
    values_done c.args.depth c.args.n c.loop.counter c.loop.rest.now c.args.bytes.now c.args.out.now c.loop.out (omega arith) c.loop.invariant

pub transcode_pair-returns-clause-given : goal.transcode_pair-returns-clause-given
transcode_pair-returns-clause-given t c =
    let first = rw c.in-Some.is at c.in_ok-middle.ensures.given in
    if_given c.transcode_value-2.result _ _ (λ rest h. pair_done c.args.depth c.args.bytes.now c.in-Some.middle.now rest.now c.args.out.now c.transcode_value.new.out _ first h) c.transcode_value-2.ensures.given

pub transcode_pairs-loop-preserved : goal.transcode_pairs-loop-preserved
transcode_pairs-loop-preserved t c =
    let found = rw c.in-Some.is at c.in_ok-behind.ensures.given in
    one_pair_more c.args.depth c.args.n c.loop.counter c.loop.rest.now c.in-Some.behind.now c.args.bytes.now c.args.out.now c.loop.out c.transcode_pair.new.out c.loop-test.true c.loop.invariant found

pub transcode_pairs-returns-clause-given : goal.transcode_pairs-returns-clause-given
transcode_pairs-returns-clause-given t c =
    pairs_all c.args.depth c.args.n c.loop.counter c.loop.rest.now c.args.bytes.now c.args.out.now c.loop.out (omega arith) c.loop.invariant
