use Rattle.std.proofs.Common.{arith, refl}
use Rattle.std.proofs.lemmas.Option.{slice_get_read}
use Rattle.fwd_engine_inputs.proofs.FileSteps.{on_err, stays_on, resumes_on, none_resumed}
use Rattle.fwd_engine_inputs.proofs.followed_files.FollowedFiles.resume_file.Goals as goal

pub returns-in_err-resume-clause-err : goal.returns-in_err-resume-clause-err
returns-in_err-resume-clause-err c =
    stays_on c.args.self.now _ c.args.input.0 c.index_mut.result.now c.resume.new.self (omega arith) (slice_get_read c.args.self.now.inputs.items _ c.args.input.0 c.index_mut.result.now refl (omega arith) c.index_mut.ensures.value) refl c.from_residual.result (λ paths head all k. on_err c.from_residual.result (c.in_err-resume.ensures.err paths head all k))

pub returns-in_ok-resume-clause-resumes : goal.returns-in_ok-resume-clause-resumes
returns-in_ok-resume-clause-resumes c =
    resumes_on c.args.self.now _ c.args.input.0 c.index_mut.result.now c.resume.new.self (omega arith) (slice_get_read c.args.self.now.inputs.items _ c.args.input.0 c.index_mut.result.now refl (omega arith) c.index_mut.ensures.value) refl c.args.index c.args.place c.in_ok-resume.ensures.resumes

pub returns-else-at-len-clause-resumes : goal.returns-else-at-len-clause-resumes
returns-else-at-len-clause-resumes c = λ s h k. none_resumed s h c.args.self.now _ c.args.input.0 c.args.index c.args.place refl (omega arith) k
