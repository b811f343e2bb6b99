use Rattle.fwd_theorem_disks.proofs.Run.{answers_alike}
use Rattle.fwd_theorem_disks.proofs.disks.disks_answer_as_in_memory.Goals as goal

pub returns : goal.returns
returns c s ends ticks turns start recovery trace left last settings known recovers_so way along few = answers_alike s ends ticks turns start recovery trace left last settings known recovers_so way along few
