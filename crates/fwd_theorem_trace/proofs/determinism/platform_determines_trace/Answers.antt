use Rattle.fwd_theorem_trace.proofs.Agreement.{same_way}
use Rattle.fwd_theorem_trace.proofs.determinism.platform_determines_trace.Goals as goal

pub returns-clause-of_acts : goal.returns-clause-of_acts
returns-clause-of_acts c outside act before one other new new2 first second given again = same_way outside act before one other new new2 first second given again

pub returns-clause-of_lives : goal.returns-clause-of_lives
returns-clause-of_lives c outside life before one other lived lived2 first second given again = same_way outside life before one other lived lived2 first second given again
