use Rattle.std.proofs.Common.{arith}
use Rattle.fwd_engine_inputs.proofs.FileLists.{polls_one, within}
use Rattle.fwd_engine_inputs.proofs.input_files.InputFiles.poll.Goals as goal

pub returns-then-index-len-clause-polls : goal.returns-then-index-len-clause-polls
returns-then-index-len-clause-polls g c = polls_one c.args.self.now.sources.items c.args.index c.index_mut.result.now c.poll.new.self (omega arith) c.index_mut.ensures.value _ _ c.poll.result c.poll.ensures.polls

pub returns-else-index-len-clause-polls : goal.returns-else-index-len-clause-polls
returns-else-index-len-clause-polls g c = λ paths from_head all path k here. absurd (within paths from_head all c.args.self.now.sources.items c.args.index path k here (omega arith))

pub returns-else-index-len-clause-cause : goal.returns-else-index-len-clause-cause
returns-else-index-len-clause-cause g c = λ paths from_head all path k here. absurd (within paths from_head all c.args.self.now.sources.items c.args.index path k here (omega arith))
