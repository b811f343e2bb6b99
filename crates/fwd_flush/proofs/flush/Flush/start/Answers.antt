use Rattle.std.proofs.Common.{refl}
use Rattle.fwd_flush.specs.FlushProgram.{delivery}
use Rattle.fwd_flush.proofs.Steps.{returned, advanced_by_none}
use Rattle.fwd_flush.proofs.Programs.{starts_not, poll_of, dial_refused, dial_taken, dialed_counts, undialed_counts, started}
use Rattle.fwd_flush.proofs.flush.Flush.start.Goals as goal

pub returns-in_default-clause-calls : goal.returns-in_default-clause-calls
returns-in_default-clause-calls g c =
    rw (starts_not (delivery g.P.ReplyReader.wanted g.P.ReplyReader.judged c.args.self.now) c.args.self.now.progress c.args.self.now.output.0 c.args.tag.now
    (started _ _ c.self.view_is c.in_default.not-Opening))
    (returned _, poll_of _ _ c.self.view_is _ c.poll.ensures)

pub returns-in_default-clause-counts : goal.returns-in_default-clause-counts
returns-in_default-clause-counts g c = undialed_counts _ _ _ _ refl (λ is. absurd (started _ _ c.self.view_is c.in_default.not-Opening is))

pub returns-in-Link-clause-calls : goal.returns-in-Link-clause-calls
returns-in-Link-clause-calls g c =
    dial_taken g.P.ReplyReader.wanted g.P.ReplyReader.judged _ _ c.self.view_is c.args.tag.now c.in-Opening.is _ _ c.in-Link.link _ c.write.new.self.progress c.write.result c.in-Link.ensures.call_log (c.write.ensures.calls refl)

pub returns-in-Link-clause-counts : goal.returns-in-Link-clause-counts
returns-in-Link-clause-counts g c =
    dialed_counts _ _ _ _ _ c.in-Link.link c.in-Link.ensures.counted c.in-Link.ensures.newest c.write.ensures.counts (c.write.ensures.link refl)

pub returns-in-Refused-clause-calls : goal.returns-in-Refused-clause-calls
returns-in-Refused-clause-calls g c =
    dial_refused g.P.ReplyReader.wanted g.P.ReplyReader.judged _ _ c.self.view_is c.args.tag.now c.in-Opening.is _ _ c.in-Refused.ensures.call_log

pub returns-in-Memory-clause-calls : goal.returns-in-Memory-clause-calls
returns-in-Memory-clause-calls g c = (_, advanced_by_none _ _ c.in-Memory.ensures.call_log)
