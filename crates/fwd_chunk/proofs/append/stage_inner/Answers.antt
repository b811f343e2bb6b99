use Rattle.std.proofs.Common.{◌+◌, length, refl}
use Rattle.std.specs.Int.{to_be_bytes, w32}
use Rattle.fwd_outside.specs.Program.{and_then}
use Rattle.fwd_outside.specs.Disk.{writes}
use Rattle.fwd_outside.proofs.DiskPrograms.{wrote, went, stopped, exits}
use Rattle.fwd_chunk.specs.Layout.{other}
use Rattle.fwd_chunk.specs.Append.{sync_if_program}
use Rattle.fwd_chunk.proofs.ConditionalSync.{synced_if, sync_begins}
use Rattle.fwd_chunk.proofs.append.stage_inner.Goals as goal

pub returns-in_err-write_at-clause-calls : goal.returns-in_err-write_at-clause-calls
returns-in_err-write_at-clause-calls g c =
    (exits c.from_residual.result c.from_residual.ensures.1
    (stopped (λ _. and_then (writes c.args.head.now.name (other c.args.head.now.selector) (to_be_bytes w32 (c.args.head.now.size + length c.args.batch.now))) (λ _. sync_if_program c.args.full c.args.head.now.name))
    (λ _ is. absurd (cc is)) (wrote c.as_slice.ensures refl refl c.in_err-write_at.ensures.call_log))).makes

pub returns-in_err-write_at-2-clause-calls : goal.returns-in_err-write_at-2-clause-calls
returns-in_err-write_at-2-clause-calls g c =
    (exits c.from_residual-in_err-write_at-2.result c.from_residual-in_err-write_at-2.ensures.1
    (went (λ _. and_then (writes c.args.head.now.name (other c.args.head.now.selector) (to_be_bytes w32 (c.args.head.now.size + length c.args.batch.now))) (λ _. sync_if_program c.args.full c.args.head.now.name))
    (wrote c.as_slice.ensures refl refl c.in_ok-write_at.ensures.call_log)
    (stopped (λ _. sync_if_program c.args.full c.args.head.now.name) (λ _. sync_begins c.args.full c.args.head.now.name) (wrote c.as_slice-2.ensures c.inactive_slot-slot.ensures c.to_be_bytes.ensures c.in_err-write_at-2.ensures.call_log)))).makes

pub returns-clause-calls : goal.returns-clause-calls
returns-clause-calls g c =
    (went (λ _. and_then (writes c.args.head.now.name (other c.args.head.now.selector) (to_be_bytes w32 (c.args.head.now.size + length c.args.batch.now))) (λ _. sync_if_program c.args.full c.args.head.now.name))
    (wrote c.as_slice.ensures refl refl c.in_ok-write_at.ensures.call_log)
    (went (λ _. sync_if_program c.args.full c.args.head.now.name) (wrote c.as_slice-2.ensures c.inactive_slot-slot.ensures c.to_be_bytes.ensures c.in_ok-write_at-2.ensures.call_log)
    (synced_if c.args.full c.as_slice-3.ensures c.sync_if.ensures.calls))).makes
