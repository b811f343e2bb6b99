-- What happens to a route after the outcome of a flush.
use Rattle.std.specs.Prelude.{ℕ, ◌*◌, nat_le, Bool, true, false, if◌then◌else◌}
use Rattle.fwd_base.specs.declared.output_options.Retries.{Retries}
use Rattle.fwd_base.specs.declared.output_options.Retries.TheVariants.{Times, Unlimited}
use Rattle.fwd_table_rows.specs.Routes.{saturating_plus}
use Rattle.fwd_table.specs.declared.outcome.Answer.{Answer}
use Rattle.fwd_table.specs.declared.outcome.Answer.TheVariants.{Good, Retry, Bad}
use Rattle.fwd_table.specs.declared.outcome.Outcome.{Outcome}
use Rattle.fwd_table.specs.declared.outcome.Outcome.TheVariants.{Retrying, Resolved, Last, Spent, SpentLast}

-- the time in milliseconds so many seconds after another
abbrev pub due_after : ℕ → ℕ → ℕ
due_after now wait_s = saturating_plus now (1000 * wait_s)

-- Whether a route that failed so often before may be retried after failing once more. A limit of 2^64 - 1 is
-- never exceeded, since counts saturate.
abbrev pub may_retry : Retries → ℕ → Bool
may_retry (Times limit) tries = nat_le (saturating_plus tries 1) limit
may_retry Unlimited tries = true

-- whether a route is retried after an outcome
abbrev pub is_tried_again : Answer → Retries → ℕ → Bool
is_tried_again Good limit tries = false
is_tried_again Retry limit tries = may_retry limit tries
is_tried_again Bad limit tries = false

-- the outcome of a resolved route, which may be the last one of its chunk
abbrev pub resolved_outcome : Bool → Outcome
resolved_outcome is_last = if is_last then Last else Resolved

-- the outcome of a route whose retries are exhausted
abbrev pub spent_outcome : Bool → Outcome
spent_outcome is_last = if is_last then SpentLast else Spent

-- what happens to a route after the outcome of its flush
abbrev pub outcome_of : Answer → Bool → Bool → Outcome
outcome_of Good again is_last = resolved_outcome is_last
outcome_of Retry again is_last = if again then Retrying else spent_outcome is_last
outcome_of Bad again is_last = resolved_outcome is_last
