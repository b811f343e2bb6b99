use Rattle.fwd_store.specs.Store.{begins_as}
use Rattle.fwd_chunk.specs.Name.{file_name}
use Rattle.fwd_store.proofs.MadeCalls.{nothing_made, begins_new}
use Rattle.fwd_store.proofs.store.create_chunk.Goals as goal

pub returns-in_err-content-in-Ram-clause-calls : goal.returns-in_err-content-in-Ram-clause-calls
returns-in_err-content-in-Ram-clause-calls g c =
    nothing_made (g.D.Disk.call_log c.args.disk.now) (begins_as (file_name c.args.root.now c.args.stream.now c.args.next.now) c.args.tag.now c.args.home c.args.batch.now c.args.outputs.now)
    c.from_residual.result (begins_new (file_name c.args.root.now c.args.stream.now c.args.next.now) c.args.tag.now c.args.home c.args.batch.now c.args.outputs.now) c.from_residual.ensures.1
