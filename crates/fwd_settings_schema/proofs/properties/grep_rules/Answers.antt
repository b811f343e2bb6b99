use Rattle.fwd_settings_schema.specs.Property.{grep_in}
use Rattle.fwd_settings_schema.proofs.Collect.{collects}
use Rattle.fwd_settings_schema.proofs.properties.grep_rules.Goals as goal

pub loop-item-preserved : goal.loop-item-preserved
loop-item-preserved c = let e = collects (grep_in c.args.floats) c.loop-item.yielded c.in-Some.item in cc c.in_ok-push_grep.ensures
