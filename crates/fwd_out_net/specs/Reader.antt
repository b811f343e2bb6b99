-- Whether a reader wants a reply, and how it judges it.
use Rattle.std.specs.Prelude.{ℕ, Bool, true, false, List}
use Rattle.fwd_flush.specs.declared.judgement.Judged.{Judged}
use Rattle.fwd_flush.specs.declared.judgement.Judged.TheVariants.{Right}
use Rattle.fwd_out_net.specs.declared.reader.EndReader.{EndReader}
use Rattle.fwd_out_net.specs.declared.reader.EndReader.TheVariants.{Quiet, Ack}
use Rattle.fwd_out_net.specs.Judgement.{ack_judgement}

-- whether a reply is wanted
abbrev pub wants : EndReader → Bool
wants Quiet = false
wants (Ack id) = true

-- the judgement of a reply
abbrev pub judges : EndReader → List ℕ → Judged
judges Quiet reply = Right
judges (Ack id) reply = ack_judgement id reply
