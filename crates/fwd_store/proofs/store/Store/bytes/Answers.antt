use Rattle.std.proofs.Common.{◌≡◌, subst}
use Rattle.fwd_chunk.specs.declared.kept.Kept.{Kept}
use Rattle.fwd_chunk.specs.Kept.{size_of}
use Rattle.fwd_chunk.specs.Content.{ReadReturns, read_content_program, HasRecordedLength}
use Rattle.fwd_chunk.proofs.ContentAnswers.{nothing_moves, bytes_as_they_stand}
use Rattle.fwd_store.proofs.store.Store.bytes.Goals as goal

pub returns-clause-calls : goal.returns-clause-calls
returns-clause-calls g c kept is =
    let same : c.kept.result.now ≡ kept = cc (c.kept.ensures.found, is) in
    subst (λ (k : Kept). ReadReturns (g.D.Disk.call_log c.args.disk.now) (g.D.Disk.call_log c.bytes.new.disk) (read_content_program k) (HasRecordedLength (size_of k)) c.bytes.result) same c.bytes.ensures.calls

pub returns-clause-stands : goal.returns-clause-stands
returns-clause-stands g c kept content is are =
    bytes_as_they_stand _ _ kept content c.bytes.result are (returns-clause-calls g c kept is)

pub returns-clause-any_moment : goal.returns-clause-any_moment
returns-clause-any_moment g c = nothing_moves _ _ c.kept.result.now (HasRecordedLength (size_of c.kept.result.now)) c.bytes.result c.bytes.ensures.calls
