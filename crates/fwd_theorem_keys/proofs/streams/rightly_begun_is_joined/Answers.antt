use Rattle.fwd_theorem_keys.proofs.HeldUntilRight.{is_joined}
use Rattle.fwd_theorem_keys.proofs.streams.rightly_begun_is_joined.Goals as goal

pub returns : goal.returns
returns c = λ keys ring input conn nonce at k since above_since len salt keyed held carries ended dropped right.
    is_joined keys ring input conn keyed nonce since above_since at k len salt held carries ended dropped right
