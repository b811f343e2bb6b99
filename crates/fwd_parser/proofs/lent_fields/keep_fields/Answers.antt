use Rattle.std.proofs.Common.{◌≡◌, ◌∙◌, sym, ap, Bool, map, filter, rules, tests}
use Rattle.std.proofs.lemmas.Fn.{filter_same}
use Rattle.fwd_base.specs.Pattern.{Captured, captured}
use Rattle.fwd_value.proofs.MappedLists.{filter-map}
use Rattle.fwd_parser.specs.Field.{is_kept_group}
use Rattle.fwd_parser.proofs.lent_fields.keep_fields.Goals as goal

pub returns : goal.returns
returns c =
    let stays : Captured → Bool = is_kept_group c.args.skip_empty in
    let items = c.args.groups.now.items in
    let of_items : c.retain.new.self.items ≡ filter (λ g. stays (captured g)) items =
    filter_same _ (λ g. stays (captured g)) _ (λ x b f k. search (rules, tests)) items _ c.retain.ensures.filtered in
    ap (map captured) of_items ∙ sym (filter-map captured stays items)
