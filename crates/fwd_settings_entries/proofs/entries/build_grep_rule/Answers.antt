use Rattle.std.proofs.Common.{◌≡◌, Result, Ok, Err, refl, ap}
use Rattle.fwd_base.specs.declared.pattern.Pattern.{Pattern}
use Rattle.fwd_base.specs.declared.pattern.PatternErr.{PatternErr}
use Rattle.fwd_base.specs.declared.pattern.PatternErr.TheVariants.{Refused}
use Rattle.fwd_parser.specs.Floats.{Tagged}
use Rattle.fwd_settings_schema.specs.declared.properties.Value.TheVariants as value
use Rattle.fwd_settings_entries.specs.Reading.{known}
use Rattle.fwd_settings_entries.proofs.Readings.{no_pattern, some_pattern}
use Rattle.fwd_settings_entries.proofs.entries.build_grep_rule.Goals as goal

pub returns-in-Ok : goal.returns-in-Ok
returns-in-Ok c =
    some_pattern c.args.text.now c.args.place.now (λ p. known (Ok (value.Grep (record { exclude = c.args.exclude; key = c.args.key; pattern = p; floats = Tagged })))) c.in-Ok.pattern
    (Ok (value.Grep (record { exclude = c.args.exclude; key = c.args.key; pattern = c.in-Ok.pattern; floats = Tagged }))) c.in-Ok.ensures.read refl

pub returns-in-Err-Refused : goal.returns-in-Err-Refused
returns-in-Err-Refused c =
    let refused : ◌≡◌ {A = Result Pattern PatternErr} (Err c.in-Err-Refused.field-0) (Err Refused) = ap Err c.in-Err-Refused.field-0-is in
    no_pattern c.args.text.now c.args.place.now (λ p. known (Ok (value.Grep (record { exclude = c.args.exclude; key = c.args.key; pattern = p; floats = Tagged })))) c.refuse.result
    (c.in-Err-Refused.ensures.refused refused) c.refuse.ensures
