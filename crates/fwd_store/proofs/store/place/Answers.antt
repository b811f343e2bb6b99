use Rattle.std.proofs.Common.{Some, ◌∙◌, arith}
use Rattle.fwd_outside.specs.Program.{Return, and_then}
use Rattle.fwd_chunk.specs.Append.{create_program}
use Rattle.fwd_chunk.specs.declared.kept.Kept.TheVariants.{InFile}
use Rattle.fwd_chunk.specs.Name.{file_name}
use Rattle.fwd_chunk.proofs.Creation.{length-new_meta, are_short}
use Rattle.fwd_store.proofs.MadeCalls.{nothing_made, placed_ok, placed_err}
use Rattle.fwd_store.proofs.store.place.Goals as goal

pub create-requires-clause-fits : goal.create-requires-clause-fits
create-requires-clause-fits g c =
    omega (arith, c.requires.batch, length-new_meta c.args.tag.now c.args.outputs.now c.requires.tag c.requires.outputs.few (are_short c.args.outputs.now c.requires.outputs))

pub returns-in_err-name-clause-calls : goal.returns-in_err-name-clause-calls
returns-in_err-name-clause-calls g c =
    nothing_made (g.D.Disk.call_log c.args.disk.now) (and_then (create_program (file_name c.args.root.now c.args.stream.now c.args.next.now) c.args.tag.now c.args.batch.now c.args.outputs.now) (λ _. Return (Some tt)))
    c.from_residual.result (λ is. absurd (cc is)) c.from_residual.ensures.1

pub returns-in-Ok-clause-calls : goal.returns-in-Ok-clause-calls
returns-in-Ok-clause-calls g c =
    placed_ok (g.D.Disk.call_log c.args.disk.now) (g.D.Disk.call_log c.create.new.disk) c.as_slice.result.now (file_name c.args.root.now c.args.stream.now c.args.next.now) c.args.tag.now c.args.batch.now c.args.outputs.now
    (c.as_slice.ensures ∙ c.in_ok-name.ensures) (InFile c.in-Ok.head) c.in-Ok.head c.in-Ok.ensures.calls

pub returns-clause-calls : goal.returns-clause-calls
returns-clause-calls g c =
    placed_err (g.D.Disk.call_log c.args.disk.now) (g.D.Disk.call_log c.create.new.disk) c.as_slice.result.now (file_name c.args.root.now c.args.stream.now c.args.next.now) c.args.tag.now c.args.batch.now c.args.outputs.now
    (c.as_slice.ensures ∙ c.in_ok-name.ensures) c.in-Err.error c.refusal_of.result c.refusal_of.ensures c.in-Err.ensures.calls
