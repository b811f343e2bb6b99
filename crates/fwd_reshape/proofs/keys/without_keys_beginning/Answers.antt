use Rattle.std.proofs.Common.{◌≡◌, ◌∙◌, sym, ap, Bool, not, map, filter, rules, tests}
use Rattle.std.proofs.lemmas.Fn.{filter_same}
use Rattle.fwd_value.specs.Val.{Val}
use Rattle.fwd_value.specs.View.{pair_of}
use Rattle.fwd_reshape.specs.Rules.{begins_with}
use Rattle.fwd_value.proofs.MappedLists.{filter-map}
use Rattle.fwd_reshape.proofs.keys.without_keys_beginning.Goals as goal

pub returns : goal.returns
returns c =
    let stays : Val × Val → Bool = λ p. not (begins_with c.args.key.now p.0) in
    let items = c.into_vec-pairs.result.items in
    let of_items : c.retain.new.self.items ≡ filter (λ p. stays (pair_of p)) items =
    filter_same _ (λ p. stays (pair_of p)) _ (λ x b f k. search (rules, tests)) items _ c.retain.ensures.filtered in
    c.from_vec.ensures ∙ ap (map pair_of) of_items ∙ sym (filter-map pair_of stays items) ∙ ap (filter stays) c.into_vec-pairs.ensures
