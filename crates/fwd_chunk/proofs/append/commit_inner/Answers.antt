use Rattle.std.proofs.Common.{Ok, [], ◌∷◌, refl}
use Rattle.fwd_outside.proofs.DiskPrograms.{wrote, went, stopped, exits}
use Rattle.fwd_chunk.specs.Append.{sync_if_program}
use Rattle.fwd_chunk.proofs.ConditionalSync.{synced_if, sync_begins}
use Rattle.fwd_chunk.proofs.append.commit_inner.Goals as goal

pub returns-in_err-write_at-clause-calls : goal.returns-in_err-write_at-clause-calls
returns-in_err-write_at-clause-calls g c =
    (exits c.from_residual.result c.from_residual.ensures.1
    (stopped (λ _. sync_if_program c.args.full c.args.head.now.name) (λ _. sync_begins c.args.full c.args.head.now.name) (wrote c.as_slice.ensures refl (λ i. c.selector_after-selector.ensures i ∷ []) c.in_err-write_at.ensures.call_log))).makes

pub returns-in_err-sync_if-clause-calls : goal.returns-in_err-sync_if-clause-calls
returns-in_err-sync_if-clause-calls g c =
    (exits c.from_residual-in_err-sync_if.result c.from_residual-in_err-sync_if.ensures.1
    (went (λ _. sync_if_program c.args.full c.args.head.now.name) (wrote c.as_slice.ensures refl (λ i. c.selector_after-selector.ensures i ∷ []) c.in_ok-write_at.ensures.call_log)
    (synced_if c.args.full c.as_slice-2.ensures c.in_err-sync_if.ensures.calls))).makes

pub returns-clause-calls : goal.returns-clause-calls
returns-clause-calls g c =
    (went (λ _. sync_if_program c.args.full c.args.head.now.name) {r = Ok tt} (wrote c.as_slice.ensures refl (λ i. c.selector_after-selector.ensures i ∷ []) c.in_ok-write_at.ensures.call_log)
    (synced_if c.args.full c.as_slice-2.ensures c.in_ok-sync_if.ensures.calls)).makes
