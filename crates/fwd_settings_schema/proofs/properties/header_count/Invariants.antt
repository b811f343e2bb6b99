use Rattle.std.proofs.Common.{◌≡◌, count_by, ◌+◌, drop}
use Rattle.fwd_settings_schema.specs.Property.{is_header}
use Rattle.fwd_settings_schema.proofs.properties.header_count.Given as goal

abbrev pub invariant-loop-item : goal.invariant-loop-item
invariant-loop-item l =
    l.count + count_by is_header (drop l.item-index l.properties) ≡ count_by is_header l.properties
