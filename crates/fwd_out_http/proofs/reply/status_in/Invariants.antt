use Rattle.std.proofs.Common.{◌≡◌, length}
use Rattle.fwd_out_http.specs.Reply.{status_in}
use Rattle.fwd_out_http.proofs.reply.status_in.Given as goal

-- the heads read so far are interim
abbrev pub invariant-heads : goal.invariant-heads
invariant-heads l = status_in l.fn.bytes ≡ status_in l.rest

abbrev pub decreases-heads : goal.decreases-heads
decreases-heads l = length l.rest
