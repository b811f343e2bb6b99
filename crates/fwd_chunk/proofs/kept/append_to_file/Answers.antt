use Rattle.fwd_outside.proofs.DiskPrograms.{went, stopped, exits}
use Rattle.fwd_chunk.specs.Append.{commit_program}
use Rattle.fwd_chunk.proofs.MadeCalls.{made}
use Rattle.fwd_chunk.proofs.kept.append_to_file.Goals as goal

pub returns-in_err-stage-clause-calls : goal.returns-in_err-stage-clause-calls
returns-in_err-stage-clause-calls g c =
    (exits c.from_residual.result c.from_residual.ensures.1 (stopped (λ _. commit_program c.args.head.now c.args.full) (λ _ is. absurd (cc is)) (made c.in_err-stage.ensures.calls))).makes

pub returns-clause-calls : goal.returns-clause-calls
returns-clause-calls g c =
    (went (λ _. commit_program c.args.head.now c.args.full) (made c.in_ok-stage.ensures.calls) (made c.commit.ensures.calls)).makes
