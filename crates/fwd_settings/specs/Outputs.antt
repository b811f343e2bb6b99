-- Settings of outputs, from the entries of their sections.
use Rattle.std.specs.Prelude.{ℕ, Bool, false, nat_lt, if◌then◌else◌, List, [], ◌∷◌, ◌++◌, codes, count_by, Option, Some, None, Ok, Err, unwrap_or}
use Rattle.std.specs.List.{filter_map, list_any}
use Rattle.std.specs.Str.{bytes_eq}
use Rattle.base64.specs.Engines.{standard}
use Rattle.base64.specs.GeneralPurpose.{encode_of}
use Rattle.fwd_config.specs.declared.section.Place.{Place}
use Rattle.fwd_http.specs.declared.fields.HeaderField.{HeaderField}
use Rattle.fwd_json.specs.declared.floats.Floats.{Floats}
use Rattle.fwd_json.specs.declared.floats.PayloadForm.{PayloadForm}
use Rattle.fwd_settings_schema.specs.declared.error_kind.SettingKind.TheVariants.{TooMany, BadChoice}
use Rattle.fwd_base.specs.declared.output_options.Form.{Form}
use Rattle.fwd_base.specs.declared.output_options.Form.TheVariants as form
use Rattle.fwd_base.specs.declared.output_options.Retries.TheVariants.{Times}
use Rattle.fwd_settings.specs.declared.settings_types.OutputKind.{OutputKind}
use Rattle.fwd_settings.specs.declared.settings_types.OutputKind.TheVariants as output
use Rattle.fwd_settings.specs.declared.settings_types.OutputSet.{OutputSet}
use Rattle.fwd_settings.specs.declared.settings_types.HttpOptions.{HttpOptions}
use Rattle.fwd_http.specs.declared.statuses.StatusRange.{StatusRange}
use Rattle.fwd_settings_values.specs.Statuses.{statuses_of}
use Rattle.fwd_settings_schema.specs.declared.plugins.OutputPlugin.{OutputPlugin}
use Rattle.fwd_settings_schema.specs.declared.plugins.OutputPlugin.TheVariants as plugin
use Rattle.fwd_settings_schema.specs.declared.keys.Key.TheVariants as key
use Rattle.fwd_settings_schema.specs.declared.properties.Property.{Property}
use Rattle.fwd_settings_schema.specs.Keys.{name_of_output, tcp_port, forward_port, http_port}
use Rattle.fwd_settings_schema.specs.Property.{number_at, port_at, truth_at, form_at, text_at, id_at, id_place_at, retries_at, header_in, header_count}
use Rattle.fwd_settings_entries.specs.Reading.{Checked, fault}
use Rattle.fwd_settings.specs.Inputs.{instance}
use Rattle.fwd_settings.specs.Filters.{glob_of}
use Rattle.fwd_settings.specs.SharedKeys.{shared_key_of}

-- the plugin of an output
abbrev pub output_plugin : OutputKind → OutputPlugin
output_plugin (output.Stdout form) = plugin.Stdout
output_plugin (output.File folder file form) = plugin.File
output_plugin (output.Tcp host port form) = plugin.Tcp
output_plugin (output.Forward host port ack whole_time) = plugin.Forward
output_plugin (output.Http host port uri form options) = plugin.Http

-- whether an output is of the plugin
abbrev pub is_output_of : OutputPlugin → OutputSet → Bool
is_output_of plugin set = bytes_eq (name_of_output (output_plugin set.kind)) (name_of_output plugin)

-- its number among the outputs of the plugin, from 0
abbrev pub output_name : List OutputSet → OutputPlugin → List ℕ
output_name before plugin = instance (name_of_output plugin) (count_by (is_output_of plugin) before)

abbrev pub host_of : List Property → List ℕ
host_of properties = unwrap_or (text_at key.Host properties) (codes "127.0.0.1")

-- the statuses of a text, none without one
abbrev pub statuses_by : Option (List ℕ) → List StatusRange
statuses_by None = []
statuses_by (Some text) = unwrap_or (statuses_of text) []

-- the value of a field for basic authorization (RFC 7617)
abbrev pub basic : List ℕ → List ℕ → List ℕ
basic user passwd = codes "Basic " ++ encode_of standard (user ++ codes ":" ++ passwd)

-- a user is authorized, by default with an empty password; a password alone changes nothing
abbrev pub authorization : Option (List ℕ) → List ℕ → List HeaderField
authorization None passwd = []
authorization (Some user) passwd = record { name = codes "Authorization"; value = basic user passwd } ∷ []

-- the authorization, and then each Header in order
abbrev pub header_fields : List Property → List HeaderField
header_fields properties =
    authorization (text_at key.HttpUser properties) (unwrap_or (text_at key.HttpPasswd properties) [])
    ++ filter_map header_in properties

abbrev pub options_of : List Property → HttpOptions
options_of properties = record {
  retried = statuses_by (text_at key.RetryStatus properties);
  fields = header_fields properties;
}

-- the form that is given, or a default, with what floats are in it
abbrev pub payload_form : Floats → Option Form → Form → PayloadForm
payload_form floats given default = record { form = unwrap_or given default; floats = floats }

-- by default events are written as lines of JSON to a stream, with the tag to a file, and as they are stored
-- in a request
abbrev pub output_kind : Floats → OutputPlugin → List Property → OutputKind
output_kind floats plugin.Stdout properties =
    output.Stdout (payload_form floats (form_at key.Format properties) form.JsonLines)
output_kind floats plugin.File properties =
    output.File (unwrap_or (text_at key.Path properties) (codes ".")) (text_at key.File properties)
    (payload_form floats (form_at key.Format properties) form.OutFile)
output_kind floats plugin.Tcp properties =
    output.Tcp (host_of properties) (unwrap_or (port_at key.Port properties) tcp_port)
    (payload_form floats (form_at key.Format properties) form.JsonLines)
output_kind floats plugin.Forward properties =
    output.Forward (host_of properties) (unwrap_or (port_at key.Port properties) forward_port)
    (unwrap_or (truth_at key.RequireAck properties) false)
    (unwrap_or (truth_at key.TimeAsInteger properties) false)
output_kind floats plugin.Http properties =
    output.Http (host_of properties) (unwrap_or (port_at key.Port properties) http_port)
    (unwrap_or (text_at key.Uri properties) (codes "/"))
    (payload_form floats (form_at key.Format properties) form.MsgPack) (options_of properties)

abbrev pub output_set : Floats → OutputPlugin → List OutputSet → List Property → OutputSet
output_set floats plugin before properties = record {
  name = output_name before plugin;
  id = unwrap_or (id_at key.StorageId properties) (output_name before plugin);
  glob = glob_of properties;
  kind = output_kind floats plugin properties;
  retries = unwrap_or (retries_at key.RetryLimit properties) (Times 1);
  total_limit = number_at key.TotalLimit properties;
  shared = shared_key_of properties;
}

-- the most Header entries of an output
abbrev pub most_headers : ℕ
most_headers = 32

-- an output stands for itself in chunk files: no output before it has its id
abbrev pub has_id : List ℕ → OutputSet → Bool
has_id id set = bytes_eq set.id id

abbrev pub with_new_id : Place → List OutputSet → OutputSet → Checked OutputSet
with_new_id place before set = if list_any (has_id set.id) before then Err (fault BadChoice place) else Ok set

-- the settings of an output, given those of the outputs before it
abbrev pub output_from : Floats → OutputPlugin → Place → List OutputSet → List Property → Checked OutputSet
output_from floats plugin place before properties =
    if nat_lt most_headers (header_count properties) then Err (fault TooMany place)
    else with_new_id (unwrap_or (id_place_at key.StorageId properties) place) before
    (output_set floats plugin before properties)
