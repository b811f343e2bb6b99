use Rattle.fwd_theorem_keys.proofs.DropReasons.{why_dropped}
use Rattle.fwd_theorem_keys.proofs.streams.only_wrong_is_dropped.Goals as goal

pub returns : goal.returns
returns c = λ keys conn front rest above k carries.
    why_dropped keys front rest above k conn carries
