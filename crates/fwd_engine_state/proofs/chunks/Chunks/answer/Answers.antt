use Rattle.std.proofs.Common.{◌≡◌, true, false, inl, inr, refl, sym, ◌∙◌, ap}
use Rattle.fwd_table.specs.Outcomes.{due_after, is_tried_again}
use Rattle.fwd_table.specs.Rows.{on_chunk, owed_rows, owes_nothing, tries_of, answered_by}
use Rattle.fwd_engine_state.proofs.RowBounds.{at_most_on_chunk, at_most_owed}
use Rattle.fwd_engine_state.proofs.AnsweredRoutes.{is_retrying, outcome_tells, answered_chunk}
use Rattle.fwd_engine_state.proofs.chunks.Chunks.answer.Goals as goal

pub invariant_of-self : goal.invariant_of-self
invariant_of-self c =
    rw c.answered-outcome.ensures.rows (at_most_on_chunk _ c.args.chunk _ (answered_chunk _ c.args.output (due_after c.args.now c.args.wait_s)) _ c.self.invariant)

pub returns-in-Retrying-clause-again : goal.returns-in-Retrying-clause-again
returns-in-Retrying-clause-again c =
    rw (← c.self.view_is) (ap is_retrying (sym c.in-Retrying.is ∙ c.answered-outcome.ensures.outcome) ∙ outcome_tells c.args.answer c.args.limit (tries_of c.args.chunk c.args.output c.self.inside.table.rows) (owes_nothing c.args.chunk c.answered-outcome.new.self.rows))

pub returns-in-Retrying-clause-rows : goal.returns-in-Retrying-clause-rows
returns-in-Retrying-clause-rows c =
    let a = c.args.answer in
    let tries = tries_of c.args.chunk c.args.output c.self.inside.table.rows in
    let again : true ≡ is_tried_again a c.args.limit tries = ap is_retrying (sym c.in-Retrying.is ∙ c.answered-outcome.ensures.outcome) ∙ outcome_tells a c.args.limit tries (owes_nothing c.args.chunk c.answered-outcome.new.self.rows) in
    rw (← c.self.view_is) (c.answered-outcome.ensures.rows ∙ (λ i. on_chunk c.args.chunk (answered_by (sym again i) c.args.output (due_after c.args.now c.args.wait_s)) c.self.inside.table.rows))

pub invariant_of-self-in-Resolved : goal.invariant_of-self-in-Resolved
invariant_of-self-in-Resolved c =
    rw (c.keep_owed.ensures.rows, c.answered-outcome.ensures.rows)
    (at_most_owed _ _ (at_most_on_chunk _ c.args.chunk _ (answered_chunk _ c.args.output (due_after c.args.now c.args.wait_s)) _ c.self.invariant))

pub returns-in-Resolved-clause-again : goal.returns-in-Resolved-clause-again
returns-in-Resolved-clause-again c =
    let over : is_retrying c.answered-outcome.result ≡ false = elim c.in-Resolved.is [
      | inl is ↦ ap is_retrying is
      | inr rest ↦ elim rest [
        | inl is ↦ ap is_retrying is
        | inr last ↦ elim last [ inl is ↦ ap is_retrying is | inr is ↦ ap is_retrying is ]
      ]
    ] in
    rw (← c.self.view_is) (sym over ∙ ap is_retrying c.answered-outcome.ensures.outcome ∙ outcome_tells c.args.answer c.args.limit (tries_of c.args.chunk c.args.output c.self.inside.table.rows) (owes_nothing c.args.chunk c.answered-outcome.new.self.rows))

pub returns-in-Resolved-clause-rows : goal.returns-in-Resolved-clause-rows
returns-in-Resolved-clause-rows c =
    let a = c.args.answer in
    let tries = tries_of c.args.chunk c.args.output c.self.inside.table.rows in
    let over : is_retrying c.answered-outcome.result ≡ false = elim c.in-Resolved.is [
      | inl is ↦ ap is_retrying is
      | inr rest ↦ elim rest [
        | inl is ↦ ap is_retrying is
        | inr last ↦ elim last [ inl is ↦ ap is_retrying is | inr is ↦ ap is_retrying is ]
      ]
    ] in
    let again : false ≡ is_tried_again a c.args.limit tries = sym over ∙ ap is_retrying c.answered-outcome.ensures.outcome ∙ outcome_tells a c.args.limit tries (owes_nothing c.args.chunk c.answered-outcome.new.self.rows) in
    rw (← c.self.view_is)
    (c.keep_owed.ensures.rows
    ∙ ap owed_rows (c.answered-outcome.ensures.rows ∙ (λ i. on_chunk c.args.chunk (answered_by (sym again i) c.args.output (due_after c.args.now c.args.wait_s)) c.self.inside.table.rows)))
