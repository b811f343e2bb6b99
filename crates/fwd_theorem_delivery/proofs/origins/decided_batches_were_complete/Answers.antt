use Rattle.std.proofs.Common.{[], refl}
use Rattle.fwd_model.specs.Fact.{Accepted, Refused}
use Rattle.fwd_model.specs.Trace.{history_after}
use Rattle.fwd_theorem_delivery.proofs.FactPositions.{always_so_far, came_before}
use Rattle.fwd_theorem_delivery.proofs.origins.decided_batches_were_complete.Goals as goal

pub returns-clause-accepted : goal.returns-clause-accepted
returns-clause-accepted c s ends ticks turns entries left later h b place way is =
    came_before s (history_after entries []) later (Accepted b place) h b (always_so_far s ends ticks turns entries left way) is refl refl

pub returns-clause-refused : goal.returns-clause-refused
returns-clause-refused c s ends ticks turns entries left later h b why way is =
    came_before s (history_after entries []) later (Refused b why) h b (always_so_far s ends ticks turns entries left way) is refl refl
