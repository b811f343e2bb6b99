use Rattle.fwd_theorem_limits.proofs.KeptBytes.{kept_at_end}
use Rattle.fwd_theorem_limits.proofs.storage_limits.kept_bytes_are_limited.Goals as goal

pub returns : goal.returns
returns c s ends ticks turns lived entries output set limit way at limited = kept_at_end s ends ticks turns entries lived output set limit way at limited
