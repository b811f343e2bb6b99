use Rattle.fwd_theorem_crash.proofs.StepBoundaries.{come_safe, turn_safe, turn_come}
use Rattle.fwd_theorem_crash.proofs.consistency.turns_are_safe.Goals as goal

pub returns-clause-come : goal.returns-clause-come
returns-clause-come c s first m settings full fresh come = come_safe s settings full first fresh m come

pub returns-clause-turn : goal.returns-clause-turn
returns-clause-turn c s first m entries left settings full fresh come way = turn_safe s settings full first fresh m entries left come way

pub returns-clause-over : goal.returns-clause-over
returns-clause-over c s first m last entries h settings full fresh come way led = turn_come s settings full first fresh m last entries h come way led
