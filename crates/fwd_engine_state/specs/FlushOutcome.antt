-- What the answer of an output changes.
use Rattle.std.specs.Prelude.{ℕ, Bool, true, false, List}
use Rattle.fwd_base.specs.declared.ids.ChunkId.{ChunkId}
use Rattle.fwd_base.specs.declared.ids.OutputId.{OutputId}
use Rattle.fwd_table.specs.declared.outcome.Answer.{Answer}
use Rattle.fwd_table.specs.declared.outcome.Answer.TheVariants.{Good, Retry, Bad}
use Rattle.fwd_table.specs.Row.{Row}
use Rattle.fwd_table.specs.Rows.{on_chunk, owed_rows, retried_to, resolved_to}
use Rattle.fwd_model.specs.Fact.{Outcome, Retries, Delivered, Failed, Exhausted}

-- the outcome of an answer, by whether the route is retried, and with which random word
abbrev pub outcome_after : Answer → Bool → ℕ → Outcome
outcome_after Good again word = Delivered
outcome_after Bad again word = Failed
outcome_after Retry true word = Retries word
outcome_after Retry false word = Exhausted

-- the rows after an answer: the route is due again at a time, or is removed, and its chunk with the last one
abbrev pub rows_answered : Bool → ChunkId → OutputId → ℕ → List Row → List Row
rows_answered true chunk output due rows = on_chunk chunk (retried_to output due) rows
rows_answered false chunk output due rows = owed_rows (on_chunk chunk (resolved_to output) rows)
