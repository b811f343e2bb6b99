-- The judgement of a reply by the kind of its reader, and what a flush sends.
use Rattle.std.specs.Prelude.{◌≡◌, ℕ, Bool, true, List}
use Rattle.fwd_flush.specs.declared.judgement.Judged.{Judged}
use Rattle.fwd_base.specs.declared.ids.OutputId.{OutputId}
use Rattle.fwd_flush.specs.FlushProgram.{Flight, Delivery, delivery, not_started}
use Rattle.fwd_out_net.specs.Reader.{wants as end_wants, judges as end_judges}
use Rattle.fwd_out_http.specs.Reply.{http_judgement}
use Rattle.fwd_payload.specs.declared.reader.Reader.{Reader}
use Rattle.fwd_payload.specs.declared.reader.Reader.TheVariants.{End, Http}

-- whether a reply is wanted
abbrev pub wants : Reader → Bool
wants (End reader) = end_wants reader
wants (Http reader) = true

-- the judgement of a reply
abbrev pub judges : Reader → List ℕ → Judged
judges (End reader) reply = end_judges reader reply
judges (Http reader) reply = http_judgement reader.retried reply

-- the payload, whether a reply is wanted, and its judgement are these
abbrev pub SendsAndJudges : Delivery → List ℕ → Reader → Type 0
SendsAndJudges d payload reader =
    record { payload = payload; wanted = wants reader; judged = judges reader } ≡ d

-- a flush that hasn't started goes to this output and sends this
pub record IsFlushTo (d : Delivery) (to : OutputId) (flight : Flight Reader) : Type 0 where
  pub output : flight.output ≡ to
  pub delivers : delivery wants judges flight ≡ d
  pub progress : flight.progress ≡ not_started
