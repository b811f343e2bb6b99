use Rattle.std.proofs.Common.{◌≡◌, List, ◌++◌, ◌∷◌, [], append_assoc}
use Rattle.fwd_settings_schema.specs.declared.properties.Property.{Property}
use Rattle.fwd_settings.specs.declared.sections.PartialSettings.{PartialSettings}
use Rattle.fwd_settings.proofs.sections.PartialSettings.with_service.Goals as goal

serviced : (s before : PartialSettings) (partial new : List Property) (item : Property) → s ≡ record before { service = before.service ++ partial } → new ≡ s.service ++ item ∷ []
    → record s { service = new } ≡ record before { service = before.service ++ (partial ++ item ∷ []) }
serviced s before partial new item is grown = cc (append_assoc before.service partial (item ∷ []))

pub loop-item-preserved : goal.loop-item-preserved
loop-item-preserved c = serviced c.loop-item.partial c.args.self c.loop-item.yielded c.push.new.self c.in-Some.item c.loop-item.invariant c.in_ok-push.ensures.ok
