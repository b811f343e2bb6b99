use Rattle.fwd_settings_schema.specs.Property.{pattern_in}
use Rattle.fwd_settings_schema.proofs.Collect.{last_collects}
use Rattle.fwd_settings_schema.proofs.properties.last_pattern.Goals as goal

pub loop-item-preserved : goal.loop-item-preserved
loop-item-preserved c = let e = last_collects pattern_in c.loop-item.yielded c.in-Some.item in cc
