use Rattle.std.proofs.Common.{inl, inr, ◌∙◌, ap}
use Rattle.fwd_table.specs.Outcomes.{resolved_outcome}
use Rattle.fwd_table.proofs.table.Table.answered.Goals as goal

pub returns-in-Good : goal.returns-in-Good
returns-in-Good c = elim c.in-Good.is [
  | inl is ↦ record { rows = rw is c.resolve.ensures.rows; outcome = rw is (c.resolved_outcome.ensures ∙ ap resolved_outcome c.resolve.ensures.last); spare = c.resolve.ensures.spare }
  | inr is ↦ record { rows = rw is c.resolve.ensures.rows; outcome = rw is (c.resolved_outcome.ensures ∙ ap resolved_outcome c.resolve.ensures.last); spare = c.resolve.ensures.spare }
]

pub returns-in-Retry-clause-rows : goal.returns-in-Retry-clause-rows
returns-in-Retry-clause-rows c = rw c.in-Retry.is (rw c.due_after.ensures at c.fail.ensures.rows)
