use Rattle.std.proofs.Common.{List, ℕ, ◌++◌, ◌∷◌, [], map, take, ap, sym, ◌∙◌, append_assoc, arith}
use Rattle.fwd_value.specs.Val.{vals_of, entries_of}
use Rattle.fwd_value.specs.View.{val_of, pair_of}
use Rattle.fwd_json.specs.Text.{json, pair_text, more_values, more_pairs}
use Rattle.fwd_json.proofs.TextLoops.{values_more, pairs_more, value_weighs_less, pair_weighs_less}
use Rattle.fwd_json.proofs.text.+write.Goals as goal

pub write_more_values-write_value-requires : goal.write_more_values-write_value-requires
write_more_values-write_value-requires t c =
    (omega (arith, c.decreases, value_weighs_less c.args.values.now c.loop-value.value-index c.value-item.result c.loop-value-test.true c.value-item.is), tt)

pub write_more_values-loop-value-preserved : goal.write_more_values-loop-value-preserved
write_more_values-loop-value-preserved t c =
    let so_far = more_values c.args.floats (vals_of (map val_of (take c.loop-value.value-index c.args.values.now))) in
    let text = json c.args.floats (val_of c.value-item.result) in
    let more = values_more c.args.floats c.args.values.now c.loop-value.value-index c.value-item.result c.loop-value-test.true c.value-item.is in
    c.in_ok-write_value.ensures ∙ ap (λ (o : List ℕ). o ++ text) (c.in_ok-push.ensures.ok ∙ ap (λ (o : List ℕ). o ++ 44 ∷ []) c.loop-value.invariant) ∙ append_assoc (c.args.out.now ++ so_far) (44 ∷ []) text ∙ append_assoc c.args.out.now so_far (44 ∷ text) ∙ ap (λ (o : List ℕ). c.args.out.now ++ o) (sym more)

pub write_more_pairs-write_pair-requires : goal.write_more_pairs-write_pair-requires
write_more_pairs-write_pair-requires t c =
    (omega (arith, c.decreases, pair_weighs_less c.args.pairs.now c.loop-pair.pair-index c.pair-item.result c.loop-pair-test.true c.pair-item.is), tt)

pub write_more_pairs-loop-pair-preserved : goal.write_more_pairs-loop-pair-preserved
write_more_pairs-loop-pair-preserved t c =
    let so_far = more_pairs c.args.floats (entries_of (map pair_of (take c.loop-pair.pair-index c.args.pairs.now))) in
    let text = pair_text c.args.floats (pair_of c.pair-item.result) in
    let more = pairs_more c.args.floats c.args.pairs.now c.loop-pair.pair-index c.pair-item.result c.loop-pair-test.true c.pair-item.is in
    c.in_ok-write_pair.ensures ∙ ap (λ (o : List ℕ). o ++ text) (c.in_ok-push.ensures.ok ∙ ap (λ (o : List ℕ). o ++ 44 ∷ []) c.loop-pair.invariant) ∙ append_assoc (c.args.out.now ++ so_far) (44 ∷ []) text ∙ append_assoc c.args.out.now so_far (44 ∷ text) ∙ ap (λ (o : List ℕ). c.args.out.now ++ o) (sym more)
