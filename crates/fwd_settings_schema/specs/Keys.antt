-- The table of sections, plugins and keys. All names are in lower case here, and ignore case.
use Rattle.std.specs.Prelude.{ℕ, Bool, true, false, ◌&&◌, List, [], ◌∷◌, codes, Option, None, option_map}
use Rattle.std.specs.List.{find}
use Rattle.std.specs.Str.{str_eq_ignore_ascii_case}
use Rattle.fwd_settings_values.specs.declared.rules.ChangeWord.TheVariants as change
use Rattle.fwd_settings_schema.specs.declared.keys.Key.{Key}
use Rattle.fwd_settings_schema.specs.declared.keys.Key.TheVariants as key
use Rattle.fwd_settings_schema.specs.declared.keys.Kind.{Kind}
use Rattle.fwd_settings_schema.specs.declared.keys.Kind.TheVariants as kind
use Rattle.fwd_settings_schema.specs.declared.keys.Plain.TheVariants as plain
use Rattle.fwd_settings_schema.specs.declared.table.Part.{Part}
use Rattle.fwd_settings_schema.specs.declared.table.Part.TheVariants as part
use Rattle.fwd_settings_schema.specs.declared.section_kind.SectionKind.{SectionKind}
use Rattle.fwd_settings_schema.specs.declared.section_kind.SectionKind.TheVariants as head
use Rattle.fwd_settings_schema.specs.declared.section_kind.Target.{Target}
use Rattle.fwd_settings_schema.specs.declared.section_kind.Target.TheVariants as target
use Rattle.fwd_settings_schema.specs.declared.plugins.InputPlugin.{InputPlugin}
use Rattle.fwd_settings_schema.specs.declared.plugins.InputPlugin.TheVariants as input
use Rattle.fwd_settings_schema.specs.declared.plugins.FilterPlugin.{FilterPlugin}
use Rattle.fwd_settings_schema.specs.declared.plugins.FilterPlugin.TheVariants as filter
use Rattle.fwd_settings_schema.specs.declared.plugins.OutputPlugin.{OutputPlugin}
use Rattle.fwd_settings_schema.specs.declared.plugins.OutputPlugin.TheVariants as output

-- the sections
abbrev pub name_of_head : SectionKind → List ℕ
name_of_head head.Service = codes "service"
name_of_head head.Input = codes "input"
name_of_head head.Parser = codes "parser"
name_of_head head.Filter = codes "filter"
name_of_head head.Output = codes "output"

unfoldable pub heads : List SectionKind
heads = head.Service ∷ head.Input ∷ head.Parser ∷ head.Filter ∷ head.Output ∷ []

-- the plugins of inputs
abbrev pub name_of_input : InputPlugin → List ℕ
name_of_input input.Tail = codes "tail"
name_of_input input.Tcp = codes "tcp"
name_of_input input.Forward = codes "forward"
name_of_input input.Stdin = codes "stdin"

abbrev pub input_plugins : List InputPlugin
input_plugins = input.Tail ∷ input.Tcp ∷ input.Forward ∷ input.Stdin ∷ []

-- the plugins of filters
abbrev pub name_of_filter : FilterPlugin → List ℕ
name_of_filter filter.Grep = codes "grep"
name_of_filter filter.Modify = codes "modify"
name_of_filter filter.Nest = codes "nest"

abbrev pub filter_plugins : List FilterPlugin
filter_plugins = filter.Grep ∷ filter.Modify ∷ filter.Nest ∷ []

-- the plugins of outputs
abbrev pub name_of_output : OutputPlugin → List ℕ
name_of_output output.Stdout = codes "stdout"
name_of_output output.File = codes "file"
name_of_output output.Tcp = codes "tcp"
name_of_output output.Forward = codes "forward"
name_of_output output.Http = codes "http"

abbrev pub output_plugins : List OutputPlugin
output_plugins = output.Stdout ∷ output.File ∷ output.Tcp ∷ output.Forward ∷ output.Http ∷ []

-- the ports by default
abbrev pub tcp_port : ℕ
tcp_port = 5170

abbrev pub forward_port : ℕ
forward_port = 24224

abbrev pub http_port : ℕ
http_port = 80

-- the name of each key
abbrev pub name_of : Key → List ℕ
name_of key.Name = codes "name"
name_of key.Flush = codes "flush"
name_of key.Grace = codes "grace"
name_of key.StoragePath = codes "storage.path"
name_of key.StorageSync = codes "storage.sync"
name_of key.StorageChecksum = codes "storage.checksum"
name_of key.MaxChunksUp = codes "storage.max_chunks_up"
name_of key.BacklogMemLimit = codes "storage.backlog.mem_limit"
name_of key.SchedulerBase = codes "scheduler.base"
name_of key.SchedulerCap = codes "scheduler.cap"
name_of key.JsonFloats = codes "json.floats"
name_of key.ParsersFile = codes "parsers_file"
name_of key.Daemon = codes "daemon"
name_of key.LogLevel = codes "log_level"
name_of key.LogFile = codes "log_file"
name_of key.HttpServer = codes "http_server"
name_of key.HttpListen = codes "http_listen"
name_of key.HttpPort = codes "http_port"
name_of key.HealthCheck = codes "health_check"
name_of key.ForwardMemLimit = codes "forward.mem_limit"
name_of key.StorageMetrics = codes "storage.metrics"
name_of key.PluginsFile = codes "plugins_file"
name_of key.Tag = codes "tag"
name_of key.StorageType = codes "storage.type"
name_of key.MemBufLimit = codes "mem_buf_limit"
name_of key.Alias = codes "alias"
name_of key.Path = codes "path"
name_of key.Parser = codes "parser"
name_of key.ReadFromHead = codes "read_from_head"
name_of key.Database = codes "db"
name_of key.RefreshInterval = codes "refresh_interval"
name_of key.RotateWait = codes "rotate_wait"
name_of key.SkipLongLines = codes "skip_long_lines"
name_of key.BufferChunkSize = codes "buffer_chunk_size"
name_of key.BufferMaxSize = codes "buffer_max_size"
name_of key.Listen = codes "listen"
name_of key.Port = codes "port"
name_of key.Format = codes "format"
name_of key.ChunkSize = codes "chunk_size"
name_of key.BufferSize = codes "buffer_size"
name_of key.Regex = codes "regex"
name_of key.TimeKey = codes "time_key"
name_of key.TimeFormat = codes "time_format"
name_of key.TimeKeep = codes "time_keep"
name_of key.Types = codes "types"
name_of key.SkipEmptyValues = codes "skip_empty_values"
name_of key.Match = codes "match"
name_of key.Exclude = codes "exclude"
name_of key.Condition = codes "condition"
name_of key.Set = codes "set"
name_of key.Add = codes "add"
name_of key.Remove = codes "remove"
name_of key.RemoveWildcard = codes "remove_wildcard"
name_of key.Rename = codes "rename"
name_of key.HardRename = codes "hard_rename"
name_of key.Copy = codes "copy"
name_of key.HardCopy = codes "hard_copy"
name_of key.Operation = codes "operation"
name_of key.Wildcard = codes "wildcard"
name_of key.NestUnder = codes "nest_under"
name_of key.NestedUnder = codes "nested_under"
name_of key.RemovePrefix = codes "remove_prefix"
name_of key.AddPrefix = codes "add_prefix"
name_of key.RetryLimit = codes "retry_limit"
name_of key.TotalLimit = codes "storage.total_limit_size"
name_of key.Tls = codes "tls"
name_of key.Workers = codes "workers"
name_of key.File = codes "file"
name_of key.Mkdir = codes "mkdir"
name_of key.Host = codes "host"
name_of key.RequireAck = codes "require_ack_response"
name_of key.TimeAsInteger = codes "time_as_integer"
name_of key.Uri = codes "uri"
name_of key.RetryStatus = codes "retry_status"
name_of key.Header = codes "header"
name_of key.HttpUser = codes "http_user"
name_of key.HttpPasswd = codes "http_passwd"
name_of key.StorageId = codes "storage.id"
name_of key.SharedKey = codes "shared_key"
name_of key.SelfHostname = codes "self_hostname"

-- a row of the table: where the key stands, the key, and how its value is read there
abbrev pub Row : Type 0
Row = Part × Key × Kind

unfoldable pub table : List Row
table =
    (part.Service, key.Flush, kind.Plain plain.Flush) ∷
    (part.Service, key.Grace, kind.Plain plain.Number) ∷
    (part.Service, key.StoragePath, kind.Plain plain.Text) ∷
    (part.Service, key.StorageSync, kind.Plain plain.Sync) ∷
    (part.Service, key.StorageChecksum, kind.Plain plain.False) ∷
    (part.Service, key.MaxChunksUp, kind.Plain plain.Positive) ∷
    (part.Service, key.BacklogMemLimit, kind.Plain plain.Size) ∷
    (part.Service, key.SchedulerBase, kind.Plain plain.Positive) ∷
    (part.Service, key.SchedulerCap, kind.Plain plain.Positive) ∷
    (part.Service, key.JsonFloats, kind.Plain plain.Truth) ∷
    (part.Service, key.ParsersFile, kind.Plain plain.Ignored) ∷
    (part.Service, key.Daemon, kind.Plain plain.Ignored) ∷
    (part.Service, key.LogLevel, kind.Plain plain.Ignored) ∷
    (part.Service, key.LogFile, kind.Plain plain.Ignored) ∷
    (part.Service, key.HttpServer, kind.Plain plain.Ignored) ∷
    (part.Service, key.HttpListen, kind.Plain plain.Ignored) ∷
    (part.Service, key.HttpPort, kind.Plain plain.Ignored) ∷
    (part.Service, key.HealthCheck, kind.Plain plain.Ignored) ∷
    (part.Service, key.ForwardMemLimit, kind.Plain plain.Ignored) ∷
    (part.Service, key.StorageMetrics, kind.Plain plain.Ignored) ∷
    (part.Service, key.PluginsFile, kind.Plain plain.Ignored) ∷
    (part.Parser, key.Name, kind.Plain plain.Ignored) ∷
    (part.Parser, key.Format, kind.Plain plain.ParserFormat) ∷
    (part.Parser, key.Regex, kind.Pattern) ∷
    (part.Parser, key.TimeKey, kind.Plain plain.Text) ∷
    (part.Parser, key.TimeFormat, kind.Plain plain.Text) ∷
    (part.Parser, key.TimeKeep, kind.Plain plain.Truth) ∷
    (part.Parser, key.Types, kind.Plain plain.Types) ∷
    (part.Parser, key.SkipEmptyValues, kind.Plain plain.Truth) ∷
    (part.EachInput, key.Name, kind.Plain plain.Ignored) ∷
    (part.EachInput, key.StorageType, kind.Plain plain.Store) ∷
    (part.EachInput, key.MemBufLimit, kind.Plain plain.Size) ∷
    (part.EachInput, key.Alias, kind.Plain plain.Ignored) ∷
    (part.EachInput, key.LogLevel, kind.Plain plain.Ignored) ∷
    (part.TailInput, key.Tag, kind.Plain plain.PlainTag) ∷
    (part.TailInput, key.Path, kind.Plain plain.Paths) ∷
    (part.TailInput, key.Parser, kind.Parser) ∷
    (part.TailInput, key.ReadFromHead, kind.Plain plain.Truth) ∷
    (part.TailInput, key.Database, kind.Plain plain.Text) ∷
    (part.TailInput, key.RefreshInterval, kind.Plain plain.Ignored) ∷
    (part.TailInput, key.RotateWait, kind.Plain plain.Ignored) ∷
    (part.TailInput, key.SkipLongLines, kind.Plain plain.Ignored) ∷
    (part.TailInput, key.BufferChunkSize, kind.Plain plain.Ignored) ∷
    (part.TailInput, key.BufferMaxSize, kind.Plain plain.Ignored) ∷
    (part.TcpInput, key.Tag, kind.Plain plain.Tag) ∷
    (part.TcpInput, key.Listen, kind.Plain plain.Text) ∷
    (part.TcpInput, key.Port, kind.Plain plain.Port) ∷
    (part.TcpInput, key.Format, kind.Plain plain.LineFormat) ∷
    (part.TcpInput, key.ChunkSize, kind.Plain plain.Ignored) ∷
    (part.TcpInput, key.BufferSize, kind.Plain plain.Ignored) ∷
    (part.ForwardInput, key.Tag, kind.Plain plain.Tag) ∷
    (part.ForwardInput, key.Listen, kind.Plain plain.Text) ∷
    (part.ForwardInput, key.Port, kind.Plain plain.Port) ∷
    (part.ForwardInput, key.BufferChunkSize, kind.Plain plain.Ignored) ∷
    (part.ForwardInput, key.BufferMaxSize, kind.Plain plain.Ignored) ∷
    (part.ForwardInput, key.SharedKey, kind.Plain plain.Text) ∷
    (part.ForwardInput, key.SelfHostname, kind.Plain plain.Hostname) ∷
    (part.StdinInput, key.Tag, kind.Plain plain.Tag) ∷
    (part.StdinInput, key.Parser, kind.Parser) ∷
    (part.EachFilter, key.Name, kind.Plain plain.Ignored) ∷
    (part.EachFilter, key.Match, kind.Plain plain.Text) ∷
    (part.GrepFilter, key.Regex, kind.Grep false) ∷
    (part.GrepFilter, key.Exclude, kind.Grep true) ∷
    (part.ModifyFilter, key.Condition, kind.Plain plain.Condition) ∷
    (part.ModifyFilter, key.Set, kind.Plain (plain.Change change.Set)) ∷
    (part.ModifyFilter, key.Add, kind.Plain (plain.Change change.Add)) ∷
    (part.ModifyFilter, key.Remove, kind.Plain (plain.Change change.Remove)) ∷
    (part.ModifyFilter, key.RemoveWildcard, kind.Plain (plain.Change change.RemoveWildcard)) ∷
    (part.ModifyFilter, key.Rename, kind.Plain (plain.Change change.Rename)) ∷
    (part.ModifyFilter, key.HardRename, kind.Plain (plain.Change change.HardRename)) ∷
    (part.ModifyFilter, key.Copy, kind.Plain (plain.Change change.Copy)) ∷
    (part.ModifyFilter, key.HardCopy, kind.Plain (plain.Change change.HardCopy)) ∷
    (part.NestFilter, key.Operation, kind.Plain plain.Operation) ∷
    (part.NestFilter, key.Wildcard, kind.Plain plain.Wildcard) ∷
    (part.NestFilter, key.NestUnder, kind.Plain plain.Text) ∷
    (part.NestFilter, key.NestedUnder, kind.Plain plain.Text) ∷
    (part.NestFilter, key.RemovePrefix, kind.Plain plain.Text) ∷
    (part.NestFilter, key.AddPrefix, kind.Plain plain.Text) ∷
    (part.EachOutput, key.Name, kind.Plain plain.Ignored) ∷
    (part.EachOutput, key.Match, kind.Plain plain.Text) ∷
    (part.EachOutput, key.RetryLimit, kind.Plain plain.Retries) ∷
    (part.EachOutput, key.TotalLimit, kind.Plain plain.Size) ∷
    (part.EachOutput, key.Tls, kind.Plain plain.False) ∷
    (part.EachOutput, key.Alias, kind.Plain plain.Ignored) ∷
    (part.EachOutput, key.LogLevel, kind.Plain plain.Ignored) ∷
    (part.EachOutput, key.Workers, kind.Plain plain.Ignored) ∷
    (part.EachOutput, key.StorageId, kind.Id) ∷
    (part.StdoutOutput, key.Format, kind.Plain plain.RecordForm) ∷
    (part.FileOutput, key.Path, kind.Plain plain.Text) ∷
    (part.FileOutput, key.File, kind.Plain plain.Text) ∷
    (part.FileOutput, key.Format, kind.Plain plain.FileForm) ∷
    (part.FileOutput, key.Mkdir, kind.Plain plain.Ignored) ∷
    (part.TcpOutput, key.Host, kind.Plain plain.Text) ∷
    (part.TcpOutput, key.Port, kind.Plain plain.Port) ∷
    (part.TcpOutput, key.Format, kind.Plain plain.RecordForm) ∷
    (part.ForwardOutput, key.Host, kind.Plain plain.Text) ∷
    (part.ForwardOutput, key.Port, kind.Plain plain.Port) ∷
    (part.ForwardOutput, key.RequireAck, kind.Plain plain.Truth) ∷
    (part.ForwardOutput, key.TimeAsInteger, kind.Plain plain.Truth) ∷
    (part.ForwardOutput, key.SharedKey, kind.Plain plain.Text) ∷
    (part.ForwardOutput, key.SelfHostname, kind.Plain plain.Hostname) ∷
    (part.HttpOutput, key.Host, kind.Plain plain.Visible) ∷
    (part.HttpOutput, key.Port, kind.Plain plain.Port) ∷
    (part.HttpOutput, key.Uri, kind.Plain plain.Uri) ∷
    (part.HttpOutput, key.Format, kind.Plain plain.RecordForm) ∷
    (part.HttpOutput, key.RetryStatus, kind.Plain plain.Statuses) ∷
    (part.HttpOutput, key.Header, kind.Plain plain.Header) ∷
    (part.HttpOutput, key.HttpUser, kind.Plain plain.Printable) ∷
    (part.HttpOutput, key.HttpPasswd, kind.Plain plain.Printable) ∷
    []

-- the kind of section with this name
abbrev pub is_head_named : List ℕ → SectionKind → Bool
is_head_named name head = str_eq_ignore_ascii_case (name_of_head head) name

abbrev pub head_of : List ℕ → Option SectionKind
head_of name = find (is_head_named name) heads

-- the plugin with this name
abbrev pub is_input_named : List ℕ → InputPlugin → Bool
is_input_named name plugin = str_eq_ignore_ascii_case (name_of_input plugin) name

abbrev pub input_of : List ℕ → Option InputPlugin
input_of name = find (is_input_named name) input_plugins

abbrev pub is_filter_named : List ℕ → FilterPlugin → Bool
is_filter_named name plugin = str_eq_ignore_ascii_case (name_of_filter plugin) name

abbrev pub filter_of : List ℕ → Option FilterPlugin
filter_of name = find (is_filter_named name) filter_plugins

abbrev pub is_output_named : List ℕ → OutputPlugin → Bool
is_output_named name plugin = str_eq_ignore_ascii_case (name_of_output plugin) name

abbrev pub output_of : List ℕ → Option OutputPlugin
output_of name = find (is_output_named name) output_plugins

-- what a section of this kind configures if its plugin has this name
abbrev pub plugin_of : SectionKind → List ℕ → Option Target
plugin_of head.Service name = None
plugin_of head.Input name = option_map target.Input (input_of name)
plugin_of head.Parser name = None
plugin_of head.Filter name = option_map target.Filter (filter_of name)
plugin_of head.Output name = option_map target.Output (output_of name)

-- the key with this name and how its value is read, if the section or plugin has it
abbrev pub is_key_named : List ℕ → Key → Bool
is_key_named name key = str_eq_ignore_ascii_case (name_of key) name

-- whether a part has a section or plugin in it
abbrev pub covers : Part → Target → Bool
covers part.Service target.Service = true
covers part.Parser target.Parser = true
covers part.EachInput (target.Input plugin) = true
covers part.TailInput (target.Input input.Tail) = true
covers part.TcpInput (target.Input input.Tcp) = true
covers part.ForwardInput (target.Input input.Forward) = true
covers part.StdinInput (target.Input input.Stdin) = true
covers part.EachFilter (target.Filter plugin) = true
covers part.GrepFilter (target.Filter filter.Grep) = true
covers part.ModifyFilter (target.Filter filter.Modify) = true
covers part.NestFilter (target.Filter filter.Nest) = true
covers part.EachOutput (target.Output plugin) = true
covers part.StdoutOutput (target.Output output.Stdout) = true
covers part.FileOutput (target.Output output.File) = true
covers part.TcpOutput (target.Output output.Tcp) = true
covers part.ForwardOutput (target.Output output.Forward) = true
covers part.HttpOutput (target.Output output.Http) = true
covers _ _ = false

abbrev pub is_row_of : Target → List ℕ → Row → Bool
is_row_of target name row = covers row.0 target && is_key_named name row.1

abbrev pub row_of : Target → List ℕ → Option Row
row_of target name = find (is_row_of target name) table

abbrev pub key_of : Target → List ℕ → Option (Key × Kind)
key_of target name = option_map (λ row. (row.1, row.2)) (row_of target name)
