use Rattle.std.proofs.Common.{true, Some, Ok, refl}
use Rattle.fwd_outside.specs.Program.{Return, and_then}
use Rattle.fwd_outside.proofs.DiskPrograms.{wrote, went, stopped, exits, no_call}
use Rattle.fwd_chunk.specs.Append.{sync_if_program}
use Rattle.fwd_chunk.proofs.ConditionalSync.{synced_if, sync_begins_record}
use Rattle.fwd_chunk.proofs.outcome.record.Goals as goal

pub returns-in_err-write_at-clause-calls : goal.returns-in_err-write_at-clause-calls
returns-in_err-write_at-clause-calls g c =
    (exits c.from_residual.result c.from_residual.ensures.1
    (stopped (λ _. and_then (sync_if_program c.args.full c.args.head.now.name) (λ _. Return (Some true))) (λ _. sync_begins_record c.args.full c.args.head.now.name) (wrote c.as_slice.ensures refl refl c.in_err-write_at.ensures.call_log))).makes

pub returns-in_err-sync_if-clause-calls : goal.returns-in_err-sync_if-clause-calls
returns-in_err-sync_if-clause-calls g c =
    (exits c.from_residual-in_err-sync_if.result c.from_residual-in_err-sync_if.ensures.1
    (went (λ _. and_then (sync_if_program c.args.full c.args.head.now.name) (λ _. Return (Some true))) (wrote c.as_slice.ensures refl refl c.in_ok-write_at.ensures.call_log)
    (stopped (λ _. Return (Some true)) (λ _ is. absurd (cc is)) (synced_if c.args.full c.as_slice-2.ensures c.in_err-sync_if.ensures.calls)))).makes

pub returns-clause-calls : goal.returns-clause-calls
returns-clause-calls g c =
    (went (λ _. and_then (sync_if_program c.args.full c.args.head.now.name) (λ _. Return (Some true))) {r = Ok true} (wrote c.as_slice.ensures refl refl c.in_ok-write_at.ensures.call_log)
    (went (λ _. Return (Some true)) {r = Ok true} (synced_if c.args.full c.as_slice-2.ensures c.in_ok-sync_if.ensures.calls) (no_call _ true))).makes
