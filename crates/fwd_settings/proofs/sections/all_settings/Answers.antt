use Rattle.std.proofs.Common.{Bool, Ok, Err, ap, subst}
use Rattle.std.specs.List.{list_any}
use Rattle.fwd_settings.specs.declared.sections.PartialSettings.{PartialSettings}
use Rattle.fwd_settings_entries.specs.Reading.{ReturnsResult, known}
use Rattle.fwd_settings.specs.Floats.{floats_in}
use Rattle.fwd_settings.specs.Inputs.{has_path}
use Rattle.fwd_settings.specs.Settings.{nothing, with_sections, all_of, settings_of}
use Rattle.fwd_settings_entries.proofs.Readings.{result_then, returns_refused, stopped}
use Rattle.fwd_settings.proofs.sections.all_settings.Goals as goal

pub returns-in_err-partial : goal.returns-in_err-partial
unfolding settings_of
returns-in_err-partial c =
    let all = c.args.sections.now in
    stopped (settings_of all) c.in_err-partial.field-0.0 c.from_residual.result c.from_residual.ensures.1
    (returns_refused (with_sections all (list_any has_path all) (nothing (floats_in all)) all) (λ (s : PartialSettings). known (Ok (all_of s))) c.in_err-partial.field-0.0
    (subst (λ (path : Bool). ReturnsResult (with_sections all path (nothing (floats_in all)) all) (Err c.in_err-partial.field-0.0)) c.any_path.ensures c.in_err-partial.ensures))

pub returns : goal.returns
unfolding settings_of
returns c =
    let all = c.args.sections.now in
    result_then (with_sections all (list_any has_path all) (nothing (floats_in all)) all) (λ (s : PartialSettings). known (Ok (all_of s))) c.in_ok-partial.partial (Ok c.in_ok-finish.field-0)
    (rw c.any_path.ensures at c.in_ok-partial.ensures) (ap Ok c.in_ok-finish.ensures)
