use Rattle.std.proofs.Common.{arith, [], Some}
use Rattle.fwd_engine_inputs.proofs.FileLists.{resumes_one, none_changed}
use Rattle.fwd_engine_inputs.proofs.input_files.InputFiles.resume.Goals as goal

pub returns-in_ok-resume-clause-resumes : goal.returns-in_ok-resume-clause-resumes
returns-in_ok-resume-clause-resumes c =
    resumes_one c.args.self.now.sources.items c.args.index c.index_mut.result.now c.resume.new.self (omega arith) c.index_mut.ensures.value (record { place = Some c.args.place; said = [] }) c.in_ok-resume.ensures.resumes

pub returns-else-index-len-clause-resumes : goal.returns-else-index-len-clause-resumes
returns-else-index-len-clause-resumes c = λ paths from_head all k. none_changed paths from_head all c.args.self.now.sources.items c.args.index (record { place = Some c.args.place; said = [] }) k (omega arith)
