use Rattle.fwd_theorem_delivery.proofs.DueRoutes.{begun_due, begun_sooner}
use Rattle.fwd_theorem_delivery.proofs.dispatch_order.earlier_due_first.Goals as goal

pub returns-clause-due : goal.returns-clause-due
returns-clause-due c s h new entries r way has = begun_due s h new entries r way has

pub returns-clause-order : goal.returns-clause-order
returns-clause-order c s h new entries before between after q r way are = begun_sooner s h new entries before between after q r way are
