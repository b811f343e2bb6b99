use Rattle.std.proofs.Common.{◌≡◌, ℕ, List, Result, Ok, Err, refl, ap, subst}
use Rattle.fwd_base.specs.declared.pattern.Pattern.{Pattern}
use Rattle.fwd_base.specs.declared.pattern.PatternErr.{PatternErr}
use Rattle.fwd_base.specs.declared.pattern.PatternErr.TheVariants.{Refused}
use Rattle.fwd_base.specs.Pattern.{translated, IsReadFrom, IsNoPattern}
use Rattle.fwd_settings_schema.specs.declared.properties.Value.TheVariants as value
use Rattle.fwd_settings_entries.specs.Reading.{known}
use Rattle.fwd_settings_entries.proofs.Readings.{no_pattern, some_pattern}
use Rattle.fwd_settings_entries.proofs.entries.read_pattern.Goals as goal

pub returns-in-Ok : goal.returns-in-Ok
returns-in-Ok c =
    some_pattern c.args.entry.now.value c.args.entry.now.place (λ p. known (Ok (value.Pattern p))) c.in-Ok.pattern (Ok (value.Pattern c.in-Ok.pattern))
    (subst (λ (t : List ℕ). IsReadFrom (translated t) c.in-Ok.pattern) c.as_slice.ensures c.in-Ok.ensures.read) refl

pub returns-in-Err-Refused : goal.returns-in-Err-Refused
returns-in-Err-Refused c =
    let refused : ◌≡◌ {A = Result Pattern PatternErr} (Err c.in-Err-Refused.field-0) (Err Refused) = ap Err c.in-Err-Refused.field-0-is in
    no_pattern c.args.entry.now.value c.args.entry.now.place (λ p. known (Ok (value.Pattern p))) c.refuse.result
    (subst IsNoPattern c.as_slice.ensures (c.in-Err-Refused.ensures.refused refused)) c.refuse.ensures
