use Rattle.std.proofs.Common.{◌≡◌, ℕ, ◌<◌, Bool, true, false, inl, inr, List, refl, sym, ◌∙◌, ap, subst}
use Rattle.std.proofs.lemmas.Bool.{cases_Bool}
use Rattle.fwd_table.specs.Outcomes.{due_after, is_tried_again}
use Rattle.fwd_table.specs.Rows.{has_row, on_chunk, retried_to, resolved_to, owed_rows, tries_of}
use Rattle.fwd_table.specs.Row.{Row}
use Rattle.fwd_model.specs.Fact.{Retries}
use Rattle.fwd_model.specs.Clock.{clock}
use Rattle.fwd_model.specs.Routes.{resolves, rows_of}
use Rattle.fwd_engine_state.specs.Views.{chunk_id, output_id, route_of}
use Rattle.fwd_engine_state.specs.FlushOutcome.{outcome_after, rows_answered}
use Rattle.fwd_engine_state.proofs.RowChanges.{rows_retries}
use Rattle.fwd_engine_state.proofs.RowsAddedAndRemoved.{rows_ended}
use Rattle.fwd_engine_state.proofs.PendingRows.{has_on_chunk, open_left_owed}
use Rattle.fwd_engine_state.proofs.PendingRoutes.{pending_tries}
use Rattle.fwd_engine_state.proofs.AnsweredRoutes.{again_is_retry, answer_resolves, answer_ends}
use Rattle.fwd_engine_state.proofs.ChunksAndAttempts.{fresh_routed, carried_ended}
use Rattle.fwd_engine_state.proofs.state.State.apply_answer.Goals as goal

pub returns-clause-notes : goal.returns-clause-notes
returns-clause-notes c again word s h before is =
    let r = route_of c.args.route in
    let w = c.args.wait_s in
    let a = c.args.answer in
    let tried = ap (tries_of c.args.route.chunk c.args.route.output) before.rows ∙ pending_tries s h r is.1 in
    let found : c.answer-again.result ≡ again = c.answer-again.ensures.again ∙ ap (λ (n : ℕ). is_tried_again a c.args.limit n) tried ∙ is.2 in
    let rows = c.answer-again.ensures.rows ∙ (λ i. rows_answered (found i) (chunk_id r.chunk) (output_id r.output) (due_after (before.time i) w) (before.rows i)) in
    let tally = rw found at c.add_answer.ensures s h r word refl before.tally in
    elim (cases_Bool again) [
      | inl so ↦
          let retry = again_is_retry a c.args.limit _ (is.2 ∙ so) in
          let moved = rows_retries s r word w h (is.3 so) in
          record {
            rows = rw (so, retry) ((rw so at rows) ∙ moved);
            top = λ m first rise. subst (λ (k : ℕ). k < m) (sym c.answer-again.ensures.top) (before.top m first rise);
            flights = λ link. carried_ended s r (outcome_after a again word) h link _ (answer_ends a again word link) (before.flights link);
            time = before.time;
            ticks = before.ticks;
            closing = before.closing;
            stopped = before.stopped;
            tally = tally;
            numbers = before.numbers;
            fresh = fresh_routed s r (outcome_after a again word) h is.0.1 before.fresh;
            open_owed = λ k still. rw (so, retry) (ap (has_row (chunk_id k)) (sym moved) ∙ has_on_chunk (chunk_id k) (chunk_id r.chunk) (retried_to (output_id r.output) (due_after (clock h) w)) (λ row. refl) (rows_of s h) ∙ before.open_owed k still);
          }
      | inr isnt ↦
          let ends : resolves (outcome_after a again word) ≡ true = rw isnt (answer_resolves a word) in
          record {
            rows = (rw isnt at rows) ∙ rows_ended s r (outcome_after a again word) h ends;
            top = λ m first rise. subst (λ (k : ℕ). k < m) (sym c.answer-again.ensures.top) (before.top m first rise);
            flights = λ link. carried_ended s r (outcome_after a again word) h link _ (answer_ends a again word link) (before.flights link);
            time = before.time;
            ticks = before.ticks;
            closing = before.closing;
            stopped = before.stopped;
            tally = tally;
            numbers = before.numbers;
            fresh = fresh_routed s r (outcome_after a again word) h is.0.1 before.fresh;
            open_owed = λ k still. open_left_owed s r (outcome_after a again word) h ends is.0.0 k still (before.open_owed k still);
          }
    ]
