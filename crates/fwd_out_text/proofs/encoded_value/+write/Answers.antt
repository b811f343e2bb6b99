use Rattle.std.proofs.Common.{◌∷◌, [], arith}
use Rattle.fwd_value.specs.Val.{text, vals_of, entries_of}
use Rattle.fwd_json.specs.Text.{key_text, string, more_values, more_pairs}
use Rattle.fwd_msgpack.proofs.EncodeLoops.{on_ok}
use Rattle.fwd_msgpack.proofs.Heads.{if_some}
use Rattle.fwd_msgpack.proofs.KeptFront.{keeps_behind}
use Rattle.fwd_out_text.proofs.Members.{if_ok, pair_written, one_more, pairs_written, map_written}
use Rattle.fwd_out_text.proofs.Values.{one_more as one_more_value, values_written, list_written}
use Rattle.fwd_out_text.proofs.encoded_value.+write.Goals as goal

pub write_other_value-returns-in-Some-clause-given : goal.write_other_value-returns-in-Some-clause-given
write_other_value-returns-in-Some-clause-given t c =
    let head = c.in-Some in
    if_ok c.write_list.result _ _ (λ found given. if_some found _ _ (λ rest w.
    list_written c.args.floats c.args.depth head.count c.args.bytes.now head.values.now rest.now c.args.out.now _ (omega arith) head.ensures w) given) c.write_list.ensures.given

pub write_other_value-returns-in-Some-map_head-clause-given : goal.write_other_value-returns-in-Some-map_head-clause-given
write_other_value-returns-in-Some-map_head-clause-given t c =
    let head = c.in-Some-map_head in
    if_ok c.write_map.result _ _ (λ found given. if_some found _ _ (λ rest w.
    map_written c.args.floats c.args.depth head.count c.args.bytes.now head.pairs.now rest.now c.args.out.now _ (omega arith) head.ensures w) given) c.write_map.ensures.given

pub write_values-returns-in-Some-clause-given : goal.write_values-returns-in-Some-clause-given
write_values-returns-in-Some-clause-given t c =
    let first = rw c.in-Some.is at c.in_ok-rest.ensures.given in
    if_ok c.write_more_values.result _ _ (λ found given. if_some found _ _ (λ rest w.
    values_written c.args.floats c.args.depth c.args.count c.args.bytes.now c.in-Some.rest.now rest.now c.args.out.now c.write_value.new.out _ (omega arith) first w) given) c.write_more_values.ensures.given

pub write_more_values-loop-preserved : goal.write_more_values-loop-preserved
write_more_values-loop-preserved t c =
    let found = rw c.in-Some.is at c.in_ok-behind.ensures.given in
    one_more_value c.args.floats c.args.depth c.args.out.now c.loop.out c.push.new.self c.write_value.new.out c.loop.counter c.args.bytes.now c.loop.rest.now c.in-Some.behind.now c.loop.invariant c.in_ok-push.ensures.ok found

pub write_more_values-returns-in-None-clause-kept : goal.write_more_values-returns-in-None-clause-kept
write_more_values-returns-in-None-clause-kept t c =
    keeps_behind c.args.out.now c.loop.out c.write_value.new.out (more_values c.args.floats (vals_of c.loop.invariant.values)) c.loop.invariant.written (keeps_behind c.loop.out c.push.new.self c.write_value.new.out (44 ∷ []) c.in_ok-push.ensures.ok c.in_ok-behind.ensures.kept)

pub write_pairs-returns-in-Some-clause-given : goal.write_pairs-returns-in-Some-clause-given
write_pairs-returns-in-Some-clause-given t c =
    let first = rw c.in-Some.is at c.in_ok-rest.ensures.given in
    if_ok c.write_more_pairs.result _ _ (λ found given. if_some found _ _ (λ rest w.
    pairs_written c.args.floats c.args.depth c.args.count c.args.bytes.now c.in-Some.rest.now rest.now c.args.out.now c.write_pair.new.out _ (omega arith) first w) given) c.write_more_pairs.ensures.given

pub write_more_pairs-loop-preserved : goal.write_more_pairs-loop-preserved
write_more_pairs-loop-preserved t c =
    let found = rw c.in-Some.is at c.in_ok-behind.ensures.given in
    one_more c.args.floats c.args.depth c.args.out.now c.loop.out c.push.new.self c.write_pair.new.out c.loop.counter c.args.bytes.now c.loop.rest.now c.in-Some.behind.now c.loop.invariant c.in_ok-push.ensures.ok found

pub write_more_pairs-returns-in-None-clause-kept : goal.write_more_pairs-returns-in-None-clause-kept
write_more_pairs-returns-in-None-clause-kept t c =
    keeps_behind c.args.out.now c.loop.out c.write_pair.new.out (more_pairs c.args.floats (entries_of c.loop.invariant.pairs)) c.loop.invariant.written (keeps_behind c.loop.out c.push.new.self c.write_pair.new.out (44 ∷ []) c.in_ok-push.ensures.ok c.in_ok-behind.ensures.kept)

pub write_pair-returns-in_ok-push-in-Some-clause-given : goal.write_pair-returns-in_ok-push-in-Some-clause-given
write_pair-returns-in_ok-push-in-Some-clause-given t c =
    if_ok c.write_value.result _ _ (λ found given. if_some found _ _ (λ rest w.
    pair_written c.args.floats c.args.depth c.in-Some.key.now c.args.bytes.now c.in-Some.rest.now rest.now c.args.out.now c.key_text.new.out c.push.new.self _ c.in-Some.ensures c.in_ok-key_text-in-Some.ensures c.in_ok-push-in-Some.ensures.ok w) given) c.write_value.ensures.given

pub write_pair-returns-in_ok-push-in-Some-clause-kept : goal.write_pair-returns-in_ok-push-in-Some-clause-kept
write_pair-returns-in_ok-push-in-Some-clause-kept t c =
    let old = c.args.out.now in
    let key = key_text (text c.in-Some.key.now) (string c.in-Some.key.now) in
    on_ok c.write_value.result _ _ (λ kept. keeps_behind old c.key_text.new.out _ key c.in_ok-key_text-in-Some.ensures (keeps_behind c.key_text.new.out c.push.new.self _ (58 ∷ []) c.in_ok-push-in-Some.ensures.ok kept)) c.write_value.ensures.kept
