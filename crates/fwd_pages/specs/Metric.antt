-- What is counted, and its names for Prometheus.
use Rattle.std.specs.Prelude.{ℕ, List, codes}
use Rattle.fwd_table.specs.declared.tally.InputTally.{InputTally}
use Rattle.fwd_table.specs.declared.tally.OutputTally.{OutputTally}
use Rattle.fwd_pages.specs.declared.metric.InputMetric.{InputMetric}
use Rattle.fwd_pages.specs.declared.metric.InputMetric.TheVariants as input
use Rattle.fwd_pages.specs.declared.metric.OutputMetric.{OutputMetric}
use Rattle.fwd_pages.specs.declared.metric.OutputMetric.TheVariants as output

abbrev pub input_name : InputMetric → List ℕ
input_name input.Records = codes "fluentbit_input_records_total"
input_name input.Batches = codes "fuztreb_input_batches_total"
input_name input.Refused = codes "fuztreb_input_refused_total"

abbrev pub input_value : InputMetric → InputTally → ℕ
input_value input.Records tally = tally.events
input_value input.Batches tally = tally.batches
input_value input.Refused tally = tally.refused

abbrev pub output_name : OutputMetric → List ℕ
output_name output.Bytes = codes "fluentbit_output_proc_bytes_total"
output_name output.Retries = codes "fluentbit_output_retries_total"
output_name output.RetriesFailed = codes "fluentbit_output_retries_failed_total"
output_name output.Errors = codes "fluentbit_output_errors_total"
output_name output.ChunksOk = codes "fuztreb_output_chunks_ok_total"
output_name output.ChunksLost = codes "fuztreb_output_chunks_lost_total"

abbrev pub output_value : OutputMetric → OutputTally → ℕ
output_value output.Bytes tally = tally.taken
output_value output.Retries tally = tally.retry
output_value output.RetriesFailed tally = tally.spent
output_value output.Errors tally = tally.bad
output_value output.ChunksOk tally = tally.good
output_value output.ChunksLost tally = tally.lost
