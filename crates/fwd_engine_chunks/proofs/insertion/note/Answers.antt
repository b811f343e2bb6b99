use Rattle.std.proofs.Common.{ℕ, List, sym, subst}
use Rattle.fwd_model.specs.Settings.{outputs_for}
use Rattle.fwd_engine_state.specs.StateRepresents.{IsMaskOf}
use Rattle.fwd_engine_chunks.proofs.insertion.note.Goals as goal

pub returns-then-accepted : goal.returns-then-accepted
returns-then-accepted c b h out input tag events stands sizes =
    let s = c.args.run.now in
    let new = rw c.if-accepted.true at sizes in
    let are : IsMaskOf (outputs_for s b.tag) c.args.routes = subst (λ (t : List ℕ). IsMaskOf (outputs_for s t) c.args.routes) (sym tag) c.requires.routes in
    rw c.if-accepted.true (c.begin_chunk.ensures b input tag events new.1 s h out stands (sym c.home-home.ensures, are, new.0))

pub returns-else-accepted : goal.returns-else-accepted
returns-else-accepted c b h out input tag events stands sizes =
    let sizes_now = rw c.if-accepted.false at sizes in
    rw c.if-accepted.false (c.grow_chunk.ensures b input events c.args.run.now h out stands sizes_now)
