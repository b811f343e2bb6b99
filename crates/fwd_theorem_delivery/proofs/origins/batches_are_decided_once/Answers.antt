use Rattle.std.proofs.Common.{[]}
use Rattle.fwd_model.specs.Trace.{history_after}
use Rattle.fwd_theorem_delivery.proofs.FactPositions.{always_so_far, ordered_since}
use Rattle.fwd_theorem_delivery.proofs.origins.batches_are_decided_once.Goals as goal

pub returns : goal.returns
returns c s ends ticks turns entries left later during before fact way is comes between =
    ordered_since s (history_after entries []) later during fact before (always_so_far s ends ticks turns entries left way) is comes between
