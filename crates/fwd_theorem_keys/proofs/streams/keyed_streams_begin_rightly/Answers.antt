use Rattle.fwd_theorem_keys.proofs.StreamCalls.{begins_rightly}
use Rattle.fwd_theorem_keys.proofs.streams.keyed_streams_begin_rightly.Goals as goal

pub returns : goal.returns
returns c = λ keys ring input conn below above until paused x k carries all keyed gives.
    begins_rightly keys ring input conn keyed below above until paused x k carries all gives
