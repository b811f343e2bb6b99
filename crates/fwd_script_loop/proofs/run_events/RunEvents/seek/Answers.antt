use Rattle.std.proofs.Common.{◌∙◌}
use Rattle.fwd_script_loop.proofs.EventQueue.{fetched_heard, fetched_quiet}
use Rattle.fwd_script_loop.proofs.run_events.RunEvents.seek.Goals as goal

pub returns-then-heard-clause-found : goal.returns-then-heard-clause-found
returns-then-heard-clause-found c =
    fetched_heard c.args.paused c.lines.self c.fetch.new.self c.in_ok-heard.field-0 c.in-Coming.heard c.in_ok-heard.ensures.fetched c.in-Coming.is c.lines.invariant.none c.if-heard.true c.len-at.result
    c.len-at.ensures

pub lines-preserved : goal.lines-preserved
lines-preserved c = record {
  same_lines = c.fetch.ensures.lines ∙ c.lines.invariant.same_lines;
  same = c.fetch.ensures.same ∙ c.lines.invariant.same;
  none = fetched_quiet c.args.paused c.lines.self c.fetch.new.self c.in_ok-heard.field-0 c.in-Coming.heard c.in_ok-heard.ensures.fetched c.in-Coming.is c.lines.invariant.none c.if-heard.false;
}
