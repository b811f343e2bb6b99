use Rattle.fwd_theorem_crash.proofs.StepBoundaries.{step_safe, step_noted, loading_safe, loading_noted}
use Rattle.fwd_theorem_crash.proofs.consistency.steps_are_safe.Goals as goal

pub returns-clause-step : goal.returns-clause-step
returns-clause-step c s first m brought entries left settings full fresh come due way = step_safe s settings full first fresh m brought entries left come due way

pub returns-clause-stepped : goal.returns-clause-stepped
returns-clause-stepped c s first m last brought entries h settings full fresh come due way led = step_noted s settings full first fresh m last brought entries h come due way led

pub returns-clause-loading : goal.returns-clause-loading
returns-clause-loading c s first entries left settings full fresh way = loading_safe s settings full first fresh entries left way

pub returns-clause-loaded : goal.returns-clause-loaded
returns-clause-loaded c s first last entries h settings full fresh way led = loading_noted s settings full first fresh last entries h way led
