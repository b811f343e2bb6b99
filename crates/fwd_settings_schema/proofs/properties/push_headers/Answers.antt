use Rattle.std.proofs.Common.{◌≡◌, ◌+◌, ◌++◌, ◌∷◌, [], ◌∙◌, sym, ap, take, append_assoc}
use Rattle.std.specs.List.{filter_map}
use Rattle.std.proofs.lemmas.List.{take_more}
use Rattle.fwd_settings_schema.specs.declared.properties.Property.{Property}
use Rattle.fwd_settings_schema.specs.Property.{header_in}
use Rattle.fwd_settings_schema.proofs.Collect.{collects}
use Rattle.fwd_settings_schema.proofs.properties.push_headers.Goals as goal

pub loop-item-preserved : goal.loop-item-preserved
loop-item-preserved c =
    let properties = c.args.properties.now in
    let i = c.loop-item.item-index in
    let item = c.item-item.result in
    let more : take (i + 1) properties ≡ take i properties ++ item ∷ [] =
    take_more properties i item c.loop-item-test.true ∙ ap (λ (x : Property). take i properties ++ x ∷ []) (sym c.item-item.is) in
    let behind = collects header_in (take i properties) item in
    let joined = append_assoc c.args.fields.now (filter_map header_in (take i properties)) (filter_map header_in (item ∷ [])) in
    rw more (cc c.in_ok-push_header.ensures)
