use Rattle.fwd_theorem_delivery.proofs.RetryWaits.{due_in_time, waited_in_life, base_in_life}
use Rattle.fwd_theorem_delivery.proofs.retries.retries_wait.Goals as goal

pub returns-clause-due : goal.returns-clause-due
returns-clause-due c s ends ticks turns entries left r was way = due_in_time s ends ticks turns entries left r was way

pub returns-clause-wait : goal.returns-clause-wait
returns-clause-wait c s ends ticks turns before after left r events answer was way = waited_in_life s ends ticks turns before after left r events answer was way

pub returns-clause-base : goal.returns-clause-base
returns-clause-base c s ends ticks turns before after left r events answer was way = base_in_life s ends ticks turns before after left r events answer was way
