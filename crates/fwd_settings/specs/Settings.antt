-- The settings of sections, or the first error.
use Rattle.std.specs.Prelude.{◌≡◌, ◌⊎◌, Bool, false, nat_le, if◌then◌else◌, List, [], ◌∷◌, ◌++◌, length, Option, Some, None, Result, Ok, Err, IsErrAnd}
use Rattle.std.specs.List.{list_any}
use Rattle.fwd_base.specs.Limits.{most_inputs, most_outputs}
use Rattle.fwd_filters.specs.declared.filter_step.FilterStep.{FilterStep}
use Rattle.fwd_json.specs.declared.floats.Floats.{Floats}
use Rattle.fwd_settings_schema.specs.declared.error_kind.SettingKind.TheVariants as kind
use Rattle.fwd_config.specs.declared.section.Place.{Place}
use Rattle.fwd_config.specs.declared.section.Entry.{Entry}
use Rattle.fwd_config.specs.declared.section.Section.{Section}
use Rattle.fwd_settings.specs.declared.settings_types.InputSet.{InputSet}
use Rattle.fwd_settings.specs.declared.settings_types.OutputSet.{OutputSet}
use Rattle.fwd_settings.specs.declared.settings_types.AllSettings.{AllSettings}
use Rattle.fwd_settings_schema.specs.declared.fault.SettingFault.{SettingFault}
use Rattle.fwd_settings_schema.specs.declared.section_kind.SectionKind.{SectionKind}
use Rattle.fwd_settings_schema.specs.declared.section_kind.SectionKind.TheVariants as head
use Rattle.fwd_settings_schema.specs.declared.section_kind.Target.{Target}
use Rattle.fwd_settings_schema.specs.declared.section_kind.Target.TheVariants as target
use Rattle.fwd_settings_schema.specs.declared.properties.Property.{Property}
use Rattle.fwd_settings.specs.declared.sections.PartialSettings.{PartialSettings}
use Rattle.fwd_settings_schema.specs.Keys.{head_of, plugin_of}
use Rattle.fwd_settings_entries.specs.Reading.{Reading, Checked, ◌>>=◌, known, fault, IsResult}
use Rattle.fwd_settings_entries.specs.Values.{entry_properties}
use Rattle.fwd_settings_entries.specs.Parsers.{name_entry, parser_named}
use Rattle.fwd_settings.specs.Service.{service_of}
use Rattle.fwd_settings.specs.Inputs.{has_path, input_from}
use Rattle.fwd_settings.specs.Filters.{filter_from}
use Rattle.fwd_settings.specs.Floats.{floats_in}
use Rattle.fwd_settings.specs.Outputs.{output_from}

-- before the first section
abbrev pub nothing : Floats → PartialSettings
nothing floats = record { service = []; inputs = []; filters = []; outputs = []; floats = floats }

-- there are as many inputs or outputs as the limit allows
abbrev pub is_full : PartialSettings → SectionKind → Bool
is_full partial head.Input = nat_le most_inputs (length partial.inputs)
is_full partial head.Output = nat_le most_outputs (length partial.outputs)
is_full partial head.Service = false
is_full partial head.Parser = false
is_full partial head.Filter = false

abbrev pub plugin_at : Entry → Option Target → Checked Target
plugin_at entry None = Err (fault kind.UnknownPlugin entry.place)
plugin_at entry (Some plugin) = Ok plugin

-- A section that requires a Name; a PARSER may have any. If there are several Names, the last one counts, and
-- only that one is checked.
abbrev pub by_name : SectionKind → Place → Option Entry → Checked Target
by_name head place None = Err (fault kind.Missing place)
by_name head.Parser place (Some entry) = Ok target.Parser
by_name head place (Some entry) = plugin_at entry (plugin_of head entry.value)

abbrev pub of_header : PartialSettings → Section → Option SectionKind → Checked Target
of_header partial section None = Err (fault kind.UnknownSection section.place)
of_header partial section (Some head.Service) = Ok target.Service
of_header partial section (Some head) =
    if is_full partial head then Err (fault kind.TooMany section.place)
    else by_name head section.place (name_entry section.entries)

-- what a section configures, by its header and its Name
abbrev pub part_of : PartialSettings → Section → Checked Target
part_of partial section = of_header partial section (head_of section.name)

-- the entries of a PARSER section are read when an input names it
abbrev pub entries_here : Target → List Entry → List Entry
entries_here target.Parser entries = []
entries_here target.Service entries = entries
entries_here (target.Input plugin) entries = entries
entries_here (target.Filter plugin) entries = entries
entries_here (target.Output plugin) entries = entries

abbrev pub with_input : PartialSettings → Checked InputSet → Checked PartialSettings
with_input partial (Ok set) = Ok (record partial { inputs = partial.inputs ++ set ∷ [] })
with_input partial (Err refusal) = Err refusal

abbrev pub with_filter : PartialSettings → Checked FilterStep → Checked PartialSettings
with_filter partial (Ok step) = Ok (record partial { filters = partial.filters ++ step ∷ [] })
with_filter partial (Err refusal) = Err refusal

abbrev pub with_output : PartialSettings → Checked OutputSet → Checked PartialSettings
with_output partial (Ok set) = Ok (record partial { outputs = partial.outputs ++ set ∷ [] })
with_output partial (Err refusal) = Err refusal

-- the settings so far, with those of a section added
abbrev pub with_target : Bool → PartialSettings → Target → Place → List Property → Checked PartialSettings
with_target path partial target.Service place properties =
    Ok (record partial { service = partial.service ++ properties })
with_target path partial target.Parser place properties = Ok partial
with_target path partial (target.Input plugin) place properties =
    with_input partial (input_from path partial.floats plugin place partial.inputs properties)
with_target path partial (target.Filter plugin) place properties =
    with_filter partial (filter_from partial.floats plugin place properties)
with_target path partial (target.Output plugin) place properties =
    with_output partial (output_from partial.floats plugin place partial.outputs properties)

-- A section is checked in five steps: its header, its Name if it requires one, its plugin, each entry in
-- order, and what else is required.
abbrev pub with_section : List Section → Bool → PartialSettings → Section → Reading PartialSettings
with_section all path partial section = do
  target ← known (part_of partial section)
  properties ← entry_properties (parser_named all) target (entries_here target section.entries)
  known (with_target path partial target section.place properties)

-- the sections in order; the first error is the result of them all
unfoldable pub with_sections : List Section → Bool → PartialSettings → List Section → Reading PartialSettings
with_sections all path partial [] = known (Ok partial)
with_sections all path partial (section ∷ more) = do
  behind ← with_section all path partial section
  with_sections all path behind more

abbrev pub all_of : PartialSettings → AllSettings
all_of partial =
    record {
      service = service_of partial.service;
      inputs = partial.inputs;
      filters = partial.filters;
      outputs = partial.outputs;
    }

unfoldable pub settings_of : List Section → Reading AllSettings
settings_of sections = do
  partial ← with_sections sections (list_any has_path sections) (nothing (floats_in sections)) sections
  known (Ok (all_of partial))

-- the settings of the sections, or their first error; or out of memory
abbrev pub AreSettingsOf : List Section → Result AllSettings SettingFault → Type 0
AreSettingsOf sections result =
    IsErrAnd result (λ refusal. refusal.kind ≡ kind.Memory) ⊎ IsResult (settings_of sections) result
