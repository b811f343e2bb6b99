use Rattle.fwd_settings_schema.specs.Property.{condition_in, change_in}
use Rattle.fwd_settings_schema.proofs.Collect.{collects}
use Rattle.fwd_settings_schema.proofs.properties.modify_rules.Goals as goal

pub loop-item-preserved : goal.loop-item-preserved
loop-item-preserved c =
    let conditions = collects condition_in c.loop-item.yielded c.in-Some.item in
    let changes = collects change_in c.loop-item.yielded c.in-Some.item in
    (cc c.in_ok-push_modify.ensures.conditions, cc c.in_ok-push_modify.ensures.changes)
