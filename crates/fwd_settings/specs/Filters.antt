-- Settings of filters, from the entries of their sections.
use Rattle.std.specs.Prelude.{ℕ, ◌==◌, if◌then◌else◌, List, [], length, codes, Option, Some, None, Ok, Err, unwrap_or}
use Rattle.std.specs.List.{filter_map}
use Rattle.fwd_filters.specs.declared.filter_step.FilterKind.{FilterKind}
use Rattle.fwd_filters.specs.declared.filter_step.FilterKind.TheVariants as filter
use Rattle.fwd_filters.specs.declared.filter_step.FilterStep.{FilterStep}
use Rattle.fwd_json.specs.declared.floats.Floats.{Floats}
use Rattle.fwd_settings_schema.specs.declared.error_kind.SettingKind.TheVariants.{Missing}
use Rattle.fwd_config.specs.declared.section.Place.{Place}
use Rattle.fwd_settings_schema.specs.declared.plugins.FilterPlugin.{FilterPlugin}
use Rattle.fwd_settings_schema.specs.declared.plugins.FilterPlugin.TheVariants as plugin
use Rattle.fwd_settings_schema.specs.declared.keys.Key.{Key}
use Rattle.fwd_settings_schema.specs.declared.keys.Key.TheVariants as key
use Rattle.fwd_settings_values.specs.declared.words.Operation.{Operation}
use Rattle.fwd_settings_values.specs.declared.words.Operation.TheVariants as operation
use Rattle.fwd_settings_schema.specs.declared.properties.Property.{Property}
use Rattle.fwd_settings_schema.specs.Property.{operation_at, text_at, grep_in, condition_in, change_in, wildcard_in}
use Rattle.fwd_settings_entries.specs.Reading.{Checked, fault}

-- a prefix, empty if it isn't given
abbrev pub prefix : Key → List Property → List ℕ
prefix key properties = unwrap_or (text_at key properties) []

-- nest requires a Wildcard and a key to nest under
abbrev pub nest_by : Place → List Property → Option (List ℕ) → Checked FilterKind
nest_by place properties None = Err (fault Missing place)
nest_by place properties (Some under) =
    if length (filter_map wildcard_in properties) == 0 then Err (fault Missing place)
    else Ok
    (filter.Nest
    (record {
      wildcards = filter_map wildcard_in properties;
      under = under;
      remove_prefix =
          prefix key.RemovePrefix properties;
      add_prefix = prefix key.AddPrefix properties;
    }))

-- lift requires the key whose map is lifted
abbrev pub lift_by : Place → List Property → Option (List ℕ) → Checked FilterKind
lift_by place properties None = Err (fault Missing place)
lift_by place properties (Some under) =
    Ok (filter.Lift
    (record {
      under = under;
      remove_prefix = prefix key.RemovePrefix properties;
      add_prefix = prefix key.AddPrefix properties;
    }))

-- An Operation is required. `nest` knows all its keys whatever the Operation; `Missing` is refused at the
-- header.
abbrev pub operation_by : Place → List Property → Option Operation → Checked FilterKind
operation_by place properties (Some operation.Nest) =
    nest_by place properties (text_at key.NestUnder properties)
operation_by place properties (Some operation.Lift) =
    lift_by place properties (text_at key.NestedUnder properties)
operation_by place properties None = Err (fault Missing place)

-- every rule counts, in order
abbrev pub filter_kind : Floats → FilterPlugin → Place → List Property → Checked FilterKind
filter_kind floats plugin.Grep place properties =
    Ok (filter.Grep (filter_map (grep_in floats) properties))
filter_kind floats plugin.Modify place properties =
    Ok (filter.Modify
    (record { conditions = filter_map condition_in properties; rules = filter_map change_in properties }))
filter_kind floats plugin.Nest place properties =
    operation_by place properties (operation_at key.Operation properties)

-- a filter or an output without Match gets all tags
abbrev pub glob_of : List Property → List ℕ
glob_of properties = unwrap_or (text_at key.Match properties) (codes "*")

abbrev pub filter_by : List Property → Checked FilterKind → Checked FilterStep
filter_by properties (Ok kind) = Ok (record { glob = glob_of properties; kind = kind })
filter_by properties (Err refusal) = Err refusal

abbrev pub filter_from : Floats → FilterPlugin → Place → List Property → Checked FilterStep
filter_from floats plugin place properties = filter_by properties (filter_kind floats plugin place properties)
