use Rattle.fwd_outside.proofs.DiskPrograms.{exits, no_memory}
use Rattle.fwd_chunk.specs.Content.{read_content_program}
use Rattle.fwd_chunk.proofs.ContentAnswers.{content_begins}
use Rattle.fwd_chunk.proofs.kept.Kept.read.Goals as goal

pub returns-in_err-try_clone-in-InMemory-clause-calls : goal.returns-in_err-try_clone-in-InMemory-clause-calls
returns-in_err-try_clone-in-InMemory-clause-calls g c =
    (exits c.from_residual.result c.from_residual.ensures.1
    (no_memory (g.D.Disk.call_log c.args.disk.now) (read_content_program c.args.self.now) (content_begins c.args.self.now))).makes
