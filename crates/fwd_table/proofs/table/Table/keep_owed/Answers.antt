use Rattle.std.proofs.Common.{◌∙◌, ap}
use Rattle.fwd_table_rows.specs.Rows.{owed_rows}
use Rattle.fwd_table.specs.TableModel.{TableModel}
use Rattle.fwd_table.proofs.table.Table.keep_owed.Goals as goal
use Rattle.fwd_table.proofs.table.Table.keep_owed.Goals.{then-is_owed_to_nobody, else-is_owed_to_nobody}

pub returns-clause-rows : goal.returns-clause-rows
returns-clause-rows c = elim c.if-is_owed_to_nobody.branch [
  | then-is_owed_to_nobody w ↦ c.sweep.ensures.rows ∙ ap (λ (t : TableModel). owed_rows t.rows) w.self-is ∙ w.forget.ensures.owed
  | else-is_owed_to_nobody w ↦ c.sweep.ensures.rows ∙ ap (λ (t : TableModel). owed_rows t.rows) w.self-is
]
