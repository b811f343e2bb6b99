use Rattle.std.proofs.Common.{◌≡◌, ℕ, true, false, List, None, map, sym, ◌∙◌, ap, subst}
use Rattle.fwd_base.specs.declared.ids.OutputId.{OutputId}
use Rattle.fwd_outside.specs.Program.{Return}
use Rattle.fwd_model.specs.Fact.{Route}
use Rattle.fwd_model.specs.Routes.{rows_of}
use Rattle.fwd_model.specs.Limits.{evicted_at}
use Rattle.fwd_model.specs.CloseActions.{loses}
use Rattle.fwd_model.proofs.Actions.{stays}
use Rattle.fwd_model.proofs.Refinement.{refines_err, refines_at}
use Rattle.fwd_engine_state.specs.Evictions.{evictions_left}
use Rattle.fwd_engine_state.specs.RefinesAction.{with_disk}
use Rattle.fwd_engine_chunks.specs.Evictions.{idle_outputs, IsIdleToEach}
use Rattle.fwd_engine_chunks.proofs.ActionResults.{leads_same}
use Rattle.fwd_engine_chunks.proofs.IdleOutputs.{filed, lost_in_file, lost_nowhere, waits_each}
use Rattle.fwd_engine_chunks.proofs.eviction.evict_for_chunk.Goals as goal

pub returns-then-not-is_in_file-clause-acts : goal.returns-then-not-is_in_file-clause-acts
returns-then-not-is_in_file-clause-acts g c others h shows rest =
    let s = c.args.run.now in
    let n = c.args.chunk.0 in
    let file : filed n (rows_of s h) ≡ false = ap (filed n) (sym (c.table.ensures s h None shows.state)) ∙ sym c.is_in_file.ensures ∙ c.if-not-is_in_file.true in
    record {
      result = h;
      did = leads_same (with_disk (g.D.Disk.call_log c.args.disk.now) others) (loses s (evicted_at s h n) h) (Return h) (ap (λ (rs : List Route). loses s rs h) (lost_nowhere s h n shows.state.numbers file));
      shows = shows;
    }

pub returns-in_err-outputs-clause-acts : goal.returns-in_err-outputs-clause-acts
returns-in_err-outputs-clause-acts g c others h shows rest =
    let s = c.args.run.now in
    refines_err _ (loses s (evicted_at s h c.args.chunk.0) h) c.from_residual.result c.from_residual.ensures.0 (_, stays (with_disk (g.D.Disk.call_log c.args.disk.now) others) _)

pub returns-clause-acts : goal.returns-clause-acts
returns-clause-acts g c others h shows rest =
    let s = c.args.run.now in
    let n = c.args.chunk.0 in
    let file : filed n (rows_of s h) ≡ true = ap (filed n) (sym (c.table.ensures s h None shows.state)) ∙ sym c.is_in_file.ensures ∙ c.if-not-is_in_file.false in
    let same : map (λ (output : OutputId). output.0) c.as_slice.result.now ≡ idle_outputs s h n = ap (map (λ (output : OutputId). output.0)) c.as_slice.ensures.value ∙ c.in_ok-outputs.ensures h None shows.state in
    refines_at _ _ _ (λ (rs : List Route). loses s rs h) c.enforce_limits.result _ _ (ap (evictions_left s h n) same ∙ sym (lost_in_file s h n shows.state.numbers rest file))
    (c.enforce_limits.ensures.acts others h shows (subst (λ (os : List ℕ). IsIdleToEach s h n os) (sym same) (waits_each s h n)))
