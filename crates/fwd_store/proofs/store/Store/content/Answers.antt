use Rattle.std.proofs.Common.{◌≡◌, subst}
use Rattle.fwd_chunk.specs.declared.kept.Kept.{Kept}
use Rattle.fwd_chunk.specs.Content.{ReadReturns, read_content_program, IsContentOf}
use Rattle.fwd_chunk.proofs.ContentAnswers.{nothing_moves, given_as_it_stands}
use Rattle.fwd_store.proofs.store.Store.content.Goals as goal

pub returns-clause-calls : goal.returns-clause-calls
returns-clause-calls g c kept is =
    let same : c.kept.result.now ≡ kept = cc (c.kept.ensures.found, is) in
    subst (λ (k : Kept). ReadReturns (g.D.Disk.call_log c.args.disk.now) (g.D.Disk.call_log c.content.new.disk) (read_content_program k) (IsContentOf k) c.content.result) same c.content.ensures.calls

pub returns-clause-stands : goal.returns-clause-stands
returns-clause-stands g c kept content is are =
    given_as_it_stands _ _ kept content c.content.result are (returns-clause-calls g c kept is)

pub returns-clause-any_moment : goal.returns-clause-any_moment
returns-clause-any_moment g c = nothing_moves _ _ c.kept.result.now (IsContentOf c.kept.result.now) c.content.result c.content.ensures.calls
