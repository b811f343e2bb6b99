-- The texts of the pages.
use Rattle.std.specs.Prelude.{ℕ, ◌+◌, ◌==◌, Bool, true, false, List, [], ◌∷◌, ◌++◌, length, codes, decimal, if◌then◌else◌}
use Rattle.std.specs.List.{zip}
use Rattle.std.specs.Int.{bit_at}
use Rattle.fwd_base.specs.declared.ids.InputId.{InputId}
use Rattle.fwd_base.specs.declared.ids.OutputId.{OutputId}
use Rattle.fwd_table.specs.Row.{Row}
use Rattle.fwd_table.specs.declared.tally.InputTally.{InputTally}
use Rattle.fwd_table.specs.declared.tally.OutputTally.{OutputTally}
use Rattle.fwd_table.specs.declared.tally.Tally.{Tally}
use Rattle.fwd_pages.specs.declared.count.Counted.TheVariants as counted
use Rattle.fwd_pages.specs.declared.metric.InputMetric.{InputMetric}
use Rattle.fwd_pages.specs.declared.metric.InputMetric.TheVariants as input
use Rattle.fwd_pages.specs.declared.metric.OutputMetric.{OutputMetric}
use Rattle.fwd_pages.specs.declared.metric.OutputMetric.TheVariants as output
use Rattle.fwd_pages.specs.Count.{count_of}
use Rattle.fwd_pages.specs.Metric.{input_name, input_value, output_name, output_value}

-- the texts of the elements of a list, one after another, each of its index and itself; the first has index n
abbrev pub numbered : {X : Type 0} → (ℕ → X → List ℕ) → ℕ → List X → List ℕ
numbered line n [] = []
numbered line n (x ∷ xs) = line n x ++ numbered line (n + 1) xs

-- ---- Prometheus' text format

-- the line that begins the samples of a metric
unfoldable pub family_line : List ℕ → List ℕ → List ℕ
family_line metric kind = codes "# TYPE " ++ metric ++ codes " " ++ kind ++ codes "\n"

-- a sample of an input or an output
unfoldable pub sample_line : List ℕ → List ℕ → ℕ → List ℕ
sample_line metric name value =
    metric ++ codes "{name=\"" ++ name ++ codes "\"} " ++ decimal value ++ codes "\n"

-- a counter of the whole run
unfoldable pub total_lines : List ℕ → ℕ → List ℕ
total_lines metric value =
    family_line metric (codes "counter") ++ metric ++ codes " " ++ decimal value ++ codes "\n"

abbrev pub input_sample : InputMetric → List ℕ → InputTally → List ℕ
input_sample metric name tally = sample_line (input_name metric) name (input_value metric tally)

-- a sample for each input
abbrev pub input_samples : InputMetric → List (List ℕ) → List InputTally → List ℕ
input_samples metric names tallies =
    numbered (λ _ (p : List ℕ × InputTally). input_sample metric p.0 p.1) 0 (zip names tallies)

unfoldable pub input_family : InputMetric → List (List ℕ) → List InputTally → List ℕ
input_family metric names tallies =
    family_line (input_name metric) (codes "counter") ++ input_samples metric names tallies

abbrev pub output_sample : OutputMetric → List ℕ → OutputTally → List ℕ
output_sample metric name tally = sample_line (output_name metric) name (output_value metric tally)

-- a sample for each output
abbrev pub output_samples : OutputMetric → List (List ℕ) → List OutputTally → List ℕ
output_samples metric names tallies =
    numbered (λ _ (p : List ℕ × OutputTally). output_sample metric p.0 p.1) 0 (zip names tallies)

unfoldable pub output_family : OutputMetric → List (List ℕ) → List OutputTally → List ℕ
output_family metric names tallies =
    family_line (output_name metric) (codes "counter") ++ output_samples metric names tallies

-- how many chunks are pending for an output
abbrev pub owed_sample : List Row → ℕ → List ℕ → List ℕ
owed_sample rows n name =
    sample_line (codes "fuztreb_chunks_owed") name (count_of (counted.PendingFor (record { 0 = n })) rows)

-- the same for each output
abbrev pub owed_samples : List (List ℕ) → List Row → List ℕ
owed_samples names rows = numbered (owed_sample rows) 0 names

unfoldable pub owed_family : List (List ℕ) → List Row → List ℕ
owed_family names rows = family_line (codes "fuztreb_chunks_owed") (codes "gauge") ++ owed_samples names rows

-- the counters of the inputs
unfoldable pub input_families : List (List ℕ) → List InputTally → List ℕ
input_families names tallies =
    input_family input.Records names tallies ++ input_family input.Batches names tallies
    ++ input_family input.Refused names tallies

-- the counters of the outputs
unfoldable pub output_families : List (List ℕ) → List OutputTally → List ℕ
output_families names tallies =
    output_family output.Bytes names tallies ++ output_family output.Retries names tallies
    ++ output_family output.RetriesFailed names tallies
    ++ output_family output.Errors names tallies ++ output_family output.ChunksOk names tallies
    ++ output_family output.ChunksLost names tallies

-- the counters of the whole run
unfoldable pub total_families : Tally → ℕ → List ℕ
total_families tally uptime =
    total_lines (codes "fuztreb_chunks_loaded_total") tally.loaded
    ++ total_lines (codes "fuztreb_chunks_unrouted_total") tally.unrouted
    ++ total_lines (codes "fuztreb_files_left_total") tally.left
    ++ total_lines (codes "fuztreb_faults_total") tally.faults
    ++ total_lines (codes "fluentbit_uptime") uptime

unfoldable pub prometheus_of : List (List ℕ) → List (List ℕ) → List Row → Tally → ℕ → List ℕ
prometheus_of inputs outputs rows tally uptime =
    input_families inputs tally.inputs ++ output_families outputs tally.outputs ++ owed_family outputs rows
    ++ total_families tally uptime

-- ---- JSON

-- a comma before each element but the first
abbrev pub comma : ℕ → List ℕ
comma n = if n == 0 then [] else codes ","

-- the beginning of an object with this name, the element n
unfoldable pub name_start : ℕ → List ℕ → List ℕ
name_start n name = comma n ++ codes "\"" ++ name ++ codes "\":{"

-- the counters of an input
unfoldable pub input_entry : ℕ → List ℕ → InputTally → List ℕ
input_entry n name tally =
    name_start n name ++ codes "\"records\":" ++ decimal tally.events ++ codes ",\"batches\":"
    ++ decimal tally.batches
    ++ codes ",\"refused\":" ++ decimal tally.refused ++ codes "}"

-- the counters of an output
unfoldable pub output_entry : ℕ → List ℕ → OutputTally → List ℕ
output_entry n name tally =
    name_start n name ++ codes "\"proc_bytes\":" ++ decimal tally.taken ++ codes ",\"errors\":"
    ++ decimal tally.bad
    ++ codes ",\"retries\":" ++ decimal tally.retry ++ codes ",\"retries_failed\":" ++ decimal tally.spent
    ++ codes ",\"chunks_ok\":" ++ decimal tally.good ++ codes ",\"chunks_lost\":" ++ decimal tally.lost
    ++ codes "}"

abbrev pub input_entries : List (List ℕ) → List InputTally → List ℕ
input_entries names tallies =
    numbered (λ n (p : List ℕ × InputTally). input_entry n p.0 p.1) 0 (zip names tallies)

abbrev pub output_entries : List (List ℕ) → List OutputTally → List ℕ
output_entries names tallies =
    numbered (λ n (p : List ℕ × OutputTally). output_entry n p.0 p.1) 0 (zip names tallies)

unfoldable pub metrics_of : List (List ℕ) → List (List ℕ) → Tally → List ℕ
metrics_of inputs outputs tally =
    codes "{\"input\":{" ++ input_entries inputs tally.inputs ++ codes "},\"output\":{"
    ++ output_entries outputs tally.outputs ++ codes "}}\n"

-- how many seconds the run has lasted
unfoldable pub uptime_of : ℕ → List ℕ
uptime_of uptime = codes "{\"uptime_sec\":" ++ decimal uptime ++ codes "}\n"

abbrev pub truth_word : Bool → List ℕ
truth_word true = codes "true"
truth_word false = codes "false"

-- the chunks of an input of this run, and whether it is paused
unfoldable pub input_chunks : List Row → ℕ → ℕ → List ℕ → List ℕ
input_chunks rows paused n name =
    name_start n name ++ codes "\"paused\":" ++ truth_word (bit_at paused n == 1)
    ++ codes ",\"open\":" ++ decimal (count_of (counted.OpenOf (record { 0 = n })) rows)
    ++ codes ",\"mem_chunks\":" ++ decimal (count_of (counted.MemoryOf (record { 0 = n })) rows)
    ++ codes ",\"fs_chunks\":" ++ decimal (count_of (counted.FilesOf (record { 0 = n })) rows) ++ codes "}"

-- how many chunks are pending for an output
unfoldable pub output_chunks : List Row → ℕ → List ℕ → List ℕ
output_chunks rows n name =
    name_start n name ++ codes "\"owed\":" ++ decimal (count_of (counted.PendingFor (record { 0 = n })) rows)
    ++ codes "}"

abbrev pub all_input_chunks : List Row → ℕ → List (List ℕ) → List ℕ
all_input_chunks rows paused names = numbered (input_chunks rows paused) 0 names

abbrev pub all_output_chunks : List Row → List (List ℕ) → List ℕ
all_output_chunks rows names = numbered (output_chunks rows) 0 names

-- how many chunks there are, in memory and in files
unfoldable pub chunk_totals : List Row → List ℕ
chunk_totals rows =
    codes "{\"storage_layer\":{\"chunks\":{\"total_chunks\":" ++ decimal (length rows)
    ++ codes ",\"mem_chunks\":" ++ decimal (count_of counted.InMemory rows)
    ++ codes ",\"fs_chunks\":" ++ decimal (count_of counted.InFiles rows) ++ codes "}}"

unfoldable pub storage_of : List (List ℕ) → List (List ℕ) → List Row → ℕ → List ℕ
storage_of inputs outputs rows paused =
    chunk_totals rows ++ codes ",\"input_chunks\":{" ++ all_input_chunks rows paused inputs
    ++ codes "},\"output_chunks\":{" ++ all_output_chunks rows outputs ++ codes "}}\n"
