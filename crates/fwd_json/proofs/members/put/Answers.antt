use Rattle.std.proofs.Common.{◌≡◌, ◌<◌, length, Equal, nat_cmp, sym, ap, ◌∙◌, arith}
use Rattle.std.proofs.lemmas.Result.{on_ok_weaker}
use Rattle.std.specs.Cmp.Lexicographic.{slice_cmp}
use Rattle.std.specs.List.{insert}
use Rattle.fwd_value.specs.Val.{text}
use Rattle.fwd_value.specs.View.{val_of}
use Rattle.fwd_json.specs.PutPair.{key_at}
use Rattle.fwd_json.proofs.Putting.{put_inserts, put_sets, less_left}
use Rattle.fwd_json.proofs.members.put.Goals as goal

pub returns-then-has_key_at : goal.returns-then-has_key_at
returns-then-has_key_at c =
    let place = c.place_of-place.ensures in
    let set = c.set_value.ensures in
    let here : slice_cmp nat_cmp c.args.key.now (key_at c.args.pairs.now c.place_of-place.result) ≡ Equal = grind (arith, c.has_key_at.ensures) in
    set.edited ∙ sym (put_sets c.args.key.now (val_of c.args.value) c.args.pairs.now c.place_of-place.result set.key set.former set.there place.below here)

pub returns : goal.returns
returns c =
    let place = c.place_of-place.ensures in
    let here = λ (lt : c.place_of-place.result < length c.args.pairs.now). less_left (slice_cmp nat_cmp c.args.key.now (key_at c.args.pairs.now c.place_of-place.result)) (place.here lt) (λ same. grind (arith, c.has_key_at.ensures)) in
    on_ok_weaker c.insert.result
    (λ e. e ∙ ap (λ k. insert c.args.pairs.now c.place_of-place.result (text k, val_of c.args.value)) c.in_ok-from_slice.ensures
    ∙ sym (put_inserts c.args.key.now (val_of c.args.value) c.args.pairs.now c.place_of-place.result place.within place.below here))
    c.insert.ensures.ok
