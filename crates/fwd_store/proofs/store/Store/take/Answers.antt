use Rattle.std.proofs.Common.{sym, subst}
use Rattle.std.specs.FinMap as map
use Rattle.fwd_store.specs.StoreState.{Stored}
use Rattle.fwd_store.specs.Store.{chunk_for, accept_into_program, CanGrow}
use Rattle.fwd_store.proofs.MadeCalls.{nothing_accepted, begins_going}
use Rattle.fwd_store.proofs.Invariant.{open_grows}
use Rattle.fwd_store.proofs.store.Store.take.Goals as goal

pub returns-in_err-owned-clause-calls : goal.returns-in_err-owned-clause-calls
returns-in_err-owned-clause-calls g c =
    nothing_accepted (g.D.Disk.call_log c.args.disk.now) (accept_into_program c.args.self.now (chunk_for c.args.self.now c.args.input.0 c.args.tag.now) c.args.stream.now c.args.tag.now c.args.home c.args.batch.now c.args.outputs.now)
    c.from_residual.result
    (begins_going c.args.self.now (chunk_for c.args.self.now c.args.input.0 c.args.tag.now) c.args.stream.now c.args.tag.now c.args.home c.args.batch.now c.args.outputs.now) c.from_residual.ensures.1

pub append-requires-clause-grows : goal.append-requires-clause-grows
append-requires-clause-grows g c =
    subst (λ (s : Stored). CanGrow (map.get s.chunks c.in-Some.number)) c.self.view_is
    (open_grows _ c.args.input.0 c.into_vec.result.items c.in-Some.number c.self.invariant (sym c.in-Some.ensures))
