use Rattle.fwd_theorem_limits.proofs.StorageLimits.{closing_keeps_limit}
use Rattle.fwd_theorem_limits.proofs.storage_limits.closings_keep_limits.Goals as goal

pub returns : goal.returns
returns c s ends ticks turns before left chunk entries new output set limit life_way is_open file matches at limited way =
    closing_keeps_limit s ends ticks turns before left chunk entries new output set limit life_way is_open file matches at limited way
